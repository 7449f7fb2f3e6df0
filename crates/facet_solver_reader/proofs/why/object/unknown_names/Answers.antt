use Rattle.facet_solver_reader.proofs.why.object.unknown_names.Goals as goal

pub has_name-requires : goal.has_name-requires
has_name-requires c =
    let o = c.requires.object in
    (c.requires.tables.lists o.index c.args.object.now.list.now o.listed).sorted
