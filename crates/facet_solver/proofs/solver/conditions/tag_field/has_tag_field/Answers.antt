use Rattle.std.proofs.Common.{◌∙◌}
use Rattle.facet_solver.specs.solver.State.{is_tag_field}
use Rattle.facet_solver.proofs.State.{any_field}
use Rattle.facet_solver.proofs.solver.conditions.tag_field.has_tag_field.Goals as goal

pub returns : goal.returns
returns c =
    c.have_tag_field.ensures
    ∙ any_field c.fields.result.now.entries c.args.resolution.now.fields
    (is_tag_field c.args.shapes.now c.args.tag.now) c.fields.ensures.in_order
