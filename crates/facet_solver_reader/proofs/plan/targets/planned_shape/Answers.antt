use Rattle.std.proofs.Common.{All, List, ℕ, map, subst, sym}
use Rattle.facet_solver_reader.specs.declared.end.Alternative as code_alternative
use Rattle.facet_solver_reader.specs.declared.end.End as code
use Rattle.facet_solver_reader.specs.declared.end.NamedVariant as code_named
use Rattle.facet_solver_reader.specs.Parts.{of_shape}
use Rattle.facet_solver_reader.specs.PlanNumbers.{EndIsNumbered, HasNumber}
use Rattle.facet_solver_reader.specs.Views.{alternative_view, end_view, named_view}
use Rattle.facet_solver_reader.proofs.plan.targets.planned_shape.Goals as goal

pub planned_shapes-requires-clause-numbered : goal.planned_shapes-requires-clause-numbered
planned_shapes-requires-clause-numbered c =
    let n = c.args.numbers.now in
    subst (λ (ids : List ℕ). All (λ id. HasNumber n (of_shape id)) ids) (sym c.deref.ensures.value)
    (subst (λ (e : code.End). EndIsNumbered n (end_view e)) c.in-Tuple.is c.requires.numbered)

pub planned_names-requires-clause-numbered : goal.planned_names-requires-clause-numbered
planned_names-requires-clause-numbered c =
    let n = c.args.numbers.now in
    subst (λ (vs : List code_named.NamedVariant). All (λ v. HasNumber n v.content) (map named_view vs))
    (sym c.deref-in-NamedVariant.ensures.value)
    (subst (λ (e : code.End). EndIsNumbered n (end_view e)) c.in-NamedVariant.is c.requires.numbered)

pub planned_alternatives-requires-clause-numbered : goal.planned_alternatives-requires-clause-numbered
planned_alternatives-requires-clause-numbered c =
    let n = c.args.numbers.now in
    subst (λ (vs : List code_alternative.Alternative). All (λ a. HasNumber n a.content) (map alternative_view vs))
    (sym c.deref-in-UntaggedVariant.ensures.value)
    (subst (λ (e : code.End). EndIsNumbered n (end_view e)) c.in-UntaggedVariant.is c.requires.numbered)
