use Rattle.std.proofs.Common.{subst}
use Rattle.facet_solver_reader.specs.Blaming.{IsBesides}
use Rattle.facet_solver_reader.proofs.why.entries.is_left.Goals as goal

pub has_name-requires : goal.has_name-requires
has_name-requires c =
    let listed = subst (IsBesides c.args.tables.now) c.in-Some.is c.requires.besides in
    (c.requires.tables.lists listed.index c.in-Some.list.now listed.listed).sorted
