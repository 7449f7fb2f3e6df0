use Rattle.std.proofs.Common.{◌∙◌, ap, sym}
use Rattle.std.specs.Option.{is_some}
use Rattle.facet_solver_reader.specs.Nodes.{members_in, value_of}
use Rattle.facet_solver_reader.proofs.NameFilters.{not_found}
use Rattle.facet_solver_reader.proofs.count.selection.has_name.Goals as goal

pub returns-then-not-may_have : goal.returns-then-not-may_have
returns-then-not-may_have c =
    let ms = members_in (value_of c.args.nodes.now c.args.object.now.node) in
    sym (ap is_some (not_found ms c.args.object.now.filter c.args.name.now c.requires.filter
    (sym c.may_have.ensures ∙ c.if-not-may_have.true)))
