use Rattle.std.proofs.Common.{◌≡◌, ℕ, ◌<◌, Bool, true, false, List, length, MatchBool, refl, inl, inr, arith, rules, tests}
use Rattle.std.specs.List.{Any, AllWithin, HoldsAt}
use Rattle.std.proofs.lemmas.Bool.{false≢true}
use Rattle.std.proofs.lemmas.Option.{slice_get_cases}
use Rattle.std.proofs.lemmas.Iterator.{cases_from_any, YieldsList-from_slice}
use Rattle.facet_solver_shape.specs.Names.{field_names}
use Rattle.facet_solver_shape.specs.Catalogues.{RepeatsName}
use Rattle.facet_solver_shape.proofs.shape.check.names.repeats_field_name.Goals as goal

-- an answer of `any` is whether some element is as asked
any_told : {X : Type 0} (P : X → Type 0) (xs : List X) (r : Bool) → MatchBool r ((k : ℕ) × (k < length xs) × HoldsAt P xs k) (AllWithin (λ x. ¬ P x) xs 0 (length xs)) → (r ≡ true → Any P xs) × (Any P xs → r ≡ true)
any_told P xs true told = (λ yes. there, λ some. refl)
  where
    there : Any P xs
    there = elim (slice_get_cases xs told.0).1 [
      | inl found ↦ (told.0, found.0, found.1, found.3, rw found.3 at (told.2 found.0))
      | inr past ↦ absurd (omega (arith, past.0, told.1))
    ]
any_told P xs false told = (λ no. absurd (false≢true no), λ some. absurd (told some.0 some.1 (omega arith) some.2 (rw some.3 some.4)))

pub returns-in-Enum : goal.returns-in-Enum
returns-in-Enum c =
    let xs = c.in-Enum.variants.items in
    let told = cases_from_any _ _ _ (λ v. RepeatsName (field_names v.fields.items)) (λ v. ¬ RepeatsName (field_names v.fields.items)) c.any.ensures.ran (YieldsList-from_slice xs cc) (λ x q k. search (rules, tests)) (λ x q k. search (rules, tests)) in
    rw c.in-Enum.is (any_told _ xs c.any.result told)
