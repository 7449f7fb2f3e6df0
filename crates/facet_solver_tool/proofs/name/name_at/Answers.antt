use Rattle.std.proofs.Common.{None, Some, ◌∙◌, sym}
use Rattle.facet_solver_tool.proofs.ShapeNames.{name_seen}
use Rattle.facet_solver_tool.proofs.name.name_at.Goals as goal

pub returns-in-Some : goal.returns-in-Some
returns-in-Some c =
    c.as_str.ensures.value ∙ sym (name_seen c.args.shapes.now c.args.id (Some c.in-Some.shape.now) (sym c.in-Some.ensures.entry))

pub returns-in-None : goal.returns-in-None
returns-in-None c = sym (name_seen c.args.shapes.now c.args.id None (sym c.in-None.ensures.entry))
