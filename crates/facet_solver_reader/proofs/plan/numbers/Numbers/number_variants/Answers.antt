use Rattle.std.proofs.Common.{All, List, map, subst, sym}
use Rattle.facet_solver_reader.specs.declared.end.Alternative as code_alternative
use Rattle.facet_solver_reader.specs.declared.end.End as code
use Rattle.facet_solver_reader.specs.declared.end.NamedVariant as code_named
use Rattle.facet_solver_reader.specs.PlanNumbers.{HasNumber, VariantsHave}
use Rattle.facet_solver_reader.specs.Views.{alternative_view, end_view, named_view}
use Rattle.facet_solver_reader.proofs.Marks.{on_ok_then}
use Rattle.facet_solver_reader.proofs.plan.numbers.Numbers.number_variants.Goals as goal

pub returns-in-NamedVariant-clause-numbered : goal.returns-in-NamedVariant-clause-numbered
returns-in-NamedVariant-clause-numbered c =
    let new = c.number_named.new.self in
    on_ok_then c.number_named.result
    (All (λ v. HasNumber new v.content) (map named_view c.deref.result.now))
    (VariantsHave (HasNumber new) (end_view c.args.end.now))
    (λ h.
    subst (λ (e : code.End). VariantsHave (HasNumber new) (end_view e)) (sym c.in-NamedVariant.is)
    (subst (λ (vs : List code_named.NamedVariant). All (λ v. HasNumber new v.content) (map named_view vs))
    c.deref.ensures.value h))
    c.number_named.ensures.numbered

pub returns-in-UntaggedVariant-clause-numbered : goal.returns-in-UntaggedVariant-clause-numbered
returns-in-UntaggedVariant-clause-numbered c =
    let new = c.number_alone.new.self in
    on_ok_then c.number_alone.result
    (All (λ a. HasNumber new a.content) (map alternative_view c.deref-in-UntaggedVariant.result.now))
    (VariantsHave (HasNumber new) (end_view c.args.end.now))
    (λ h.
    subst (λ (e : code.End). VariantsHave (HasNumber new) (end_view e)) (sym c.in-UntaggedVariant.is)
    (subst (λ (vs : List code_alternative.Alternative). All (λ a. HasNumber new a.content) (map alternative_view vs))
    c.deref-in-UntaggedVariant.ensures.value h))
    c.number_alone.ensures.numbered
