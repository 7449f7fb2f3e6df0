use Rattle.std.proofs.Common.{◌≡◌, ◌∙◌, sym, ap, subst, inl, inr, ⊎_elim, ◌⊎◌, Bor, true, List, ℕ}
use Rattle.facet_solver_shape.specs.Names.{Name}
use Rattle.facet_solver_reader.specs.declared.plan.PlannedPart.{PlannedPart}
use Rattle.facet_solver_reader.specs.Plans.{IsPlannedPart}
use Rattle.facet_solver_checker.specs.PlanMembers.{IsIn}
use Rattle.facet_solver_checker.specs.Requires.{all_require}
use Rattle.facet_solver_checker.proofs.Requires.{part_requires}
use Rattle.facet_solver_checker.proofs.required.push_required.Goals as goal

pub returns-in_ok-push_required_by_all-in-Selection :
    goal.returns-in_ok-push_required_by_all-in-Selection
returns-in_ok-push_required_by_all-in-Selection c = λ m p x are is in'.
    ⊎_elim (λ (h : IsIn x c.args.names.now.items). inl h)
    (λ (h : all_require c.args.lower.now x.now c.deref.result.now ≡ true).
    inr (part_requires m c.args.lower.now p c.in-Selection.selection x.now are
    (subst (λ (q : PlannedPart). IsPlannedPart m p q) c.in-Selection.is is)
    c.if-not-selection.true
    (ap (λ (ns : List ℕ). all_require c.args.lower.now x.now ns) (sym c.deref.ensures.value) ∙ h)))
    (c.in_ok-push_required_by_all-in-Selection.ensures x in')
