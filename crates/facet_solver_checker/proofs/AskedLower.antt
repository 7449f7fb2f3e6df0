-- In a plan, what a target asks of the same value has a lower number.
use Rattle.std.proofs.Common.{◌≡◌, ◌∙◌, sym, subst, refl, ℕ, ◌<◌, List, [], ◌∷◌, Any, Some}
use Rattle.std.proofs.Common.{slice_get, arith}
use Rattle.facet_solver_reader.specs.declared.plan.Plan.{Plan}
use Rattle.facet_solver_reader.specs.declared.plan.PlannedAlternative.{PlannedAlternative}
use Rattle.facet_solver_reader.specs.declared.plan.PlannedEnd.{PlannedEnd}
use Rattle.facet_solver_reader.specs.declared.plan.PlannedEnd.TheVariants as planned
use Rattle.facet_solver_reader.specs.declared.plan.PlannedKind.{PlannedKind}
use Rattle.facet_solver_reader.specs.declared.plan.PlannedKind.TheVariants as kinds
use Rattle.facet_solver_reader.specs.declared.plan.PlannedTarget.{PlannedTarget}
use Rattle.facet_solver_reader.specs.Parts.{Target, of_shape, of_content, of_tag}
use Rattle.facet_solver_reader.specs.Plans.{IsNumberOf, IsPlannedAlternative, IsPlannedAs}
use Rattle.facet_solver_reader.specs.Plans.{IsPlannedContent, IsPlannedEnd, IsPlannedKind}
use Rattle.facet_solver_reader.specs.Plans.{IsPlannedTag, IsPlannedTarget, Meaning}
use Rattle.facet_solver_reader.specs.Reached.{asked, asked_by_content, asked_by_end, asked_by_kind}
use Rattle.facet_solver_reader.specs.Rules as types
use Rattle.facet_solver_reader.specs.Rules.{Alternative, AlternativeKind, End, Content, as_shape}
use Rattle.facet_solver_reader.specs.Rules.{an_option, an_untagged_variant, joins, a_fallback}
use Rattle.facet_solver_reader.specs.Rules.{other}
use Rattle.facet_solver_checker.specs.Atoms.{AsksByAlternative, AsksLower, AsksNumber, AsksOnward}
use Rattle.facet_solver_checker.specs.Atoms.{IsPlanFor}
use Rattle.facet_solver_reader.proofs.Asked.{any_first, any_of_each}
use Rattle.facet_solver_reader.proofs.Pairs.{pair_at}
use Rattle.facet_solver_reader.proofs.Quantifiers.{any_is_at}

-- a target among others has the number
abbrev HasNumbered : Meaning → List Target → ℕ → Type 0
HasNumbered m ts k = (w : Target) × Any (λ a. a ≡ w) ts × IsNumberOf m w k

-- what a kind that asks the same value on asks
asked_onward : (kind : AlternativeKind) (k : PlannedKind) (content : Target) → IsPlannedKind kind k
    → AsksOnward k → Any (λ a. a ≡ content) (asked_by_kind kind content)
asked_onward joins kinds.Joins content is on = absurd on
asked_onward types.null_alone kinds.Null content is on = absurd on
asked_onward (types.a_whole range) k content is on = any_first (λ a. a ≡ content) content [] refl
asked_onward types.a_float k content is on = any_first (λ a. a ≡ content) content [] refl
asked_onward a_fallback k content is on = any_first (λ a. a ≡ content) content [] refl
asked_onward other k content is on = any_first (λ a. a ≡ content) content [] refl
asked_onward kind k content is on = absurd is

module _ (m : Meaning) (k : ℕ) where
  -- of an end
  end_asks : (e : End) (p : PlannedEnd) → IsPlannedEnd m e p → AsksNumber p k
      → HasNumbered m (asked_by_end e) k
  end_asks (an_option s) (planned.Option n) is asks = (
    of_shape s,
    any_first (λ a. a ≡ of_shape s) (of_shape s) [] refl,
    subst (IsNumberOf m (of_shape s)) asks is,
  )
  end_asks (an_untagged_variant joined alone) (planned.Untagged n ps) is asks =
      let at = any_is_at (AsksByAlternative k) ps.items asks in
      let a = pair_at (IsPlannedAlternative m) alone ps.items asks.0 asks.1 is.1 at in (
        a.0.content,
        any_of_each (λ t. t ≡ a.0.content) (λ (b : Alternative). asked_by_kind b.kind b.content)
            alone
            asks.0 a.0 a.1
            (asked_onward a.0.kind asks.1.kind a.0.content a.2.kind asks.4.0),
        subst (IsNumberOf m a.0.content) asks.4.1 a.2.content,
      )
  end_asks e (planned.Option n) is asks = absurd is
  end_asks e (planned.Same n) is asks = absurd is
  end_asks e (planned.Untagged n ps) is asks = absurd is
  end_asks e p is asks = absurd asks

  -- of content
  content_asks : (c : Content) (p : PlannedEnd) → IsPlannedContent m c p → AsksNumber p k
      → HasNumbered m (asked_by_content c) k
  content_asks (as_shape s) (planned.Same n) is asks = (
    of_shape s,
    any_first (λ a. a ≡ of_shape s) (of_shape s) [] refl,
    subst (IsNumberOf m (of_shape s)) asks is,
  )
  content_asks c (planned.Option n) is asks = absurd is
  content_asks c (planned.Same n) is asks = absurd is
  content_asks c (planned.Untagged n ps) is asks = absurd is
  content_asks c p is asks = absurd asks

  -- of a target
  target_asks : (t : Target) (p : PlannedEnd) → IsPlannedAs m t p → AsksNumber p k
      → HasNumbered m (asked m.rules t) k
  target_asks (of_shape s) p is asks = end_asks (m.rules.end_of s) p is asks
  target_asks (of_content s i) p is asks = content_asks (m.rules.content_of s i) p is asks
  target_asks (of_tag name) (planned.Tag text) is asks = absurd asks
  target_asks (of_tag name) p is asks = absurd is

-- so it has in a plan
pub asks_lower : (m : Meaning) (plan : Plan) → IsPlanFor m plan → AsksLower plan
asks_lower m plan is i k t at asks =
    let u = pair_at (IsPlannedTarget m) m.targets plan.targets.items i t is.each_target at in
    let w = target_asks m k u.0 t.end u.2.end asks in
    let low = is.asked_first i u.0 w.0 u.1 w.1 in
    let same : low.0 ≡ k = is.distinct low.0 k w.0 low.2 w.2 in
    subst (λ n. n < i) same low.1
