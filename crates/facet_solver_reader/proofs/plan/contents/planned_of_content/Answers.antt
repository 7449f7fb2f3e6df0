use Rattle.std.proofs.Common.{All, List, ℕ, subst, sym}
use Rattle.facet_solver_reader.specs.declared.end.Content.{Content}
use Rattle.facet_solver_reader.specs.Parts.{of_shape}
use Rattle.facet_solver_reader.specs.PlanNumbers.{HasNumber}
use Rattle.facet_solver_reader.specs.Tables.{ContentIsServed}
use Rattle.facet_solver_reader.specs.Views.{content_view}
use Rattle.facet_solver_reader.proofs.Plans.{shapes_numbered}
use Rattle.facet_solver_reader.proofs.plan.contents.planned_of_content.Goals as goal

pub planned_shapes-requires-clause-numbered : goal.planned_shapes-requires-clause-numbered
planned_shapes-requires-clause-numbered c =
    let t = c.args.tables.now in
    subst (λ (ids : List ℕ). All (λ id. HasNumber c.args.numbers.now (of_shape id)) ids)
    (sym c.deref.ensures.value)
    (shapes_numbered t c.args.numbers.now c.in-Tuple.shapes.items c.requires.numbers
    (subst (λ (x : Content). ContentIsServed t (content_view x)) c.in-Tuple.is c.requires.served))
