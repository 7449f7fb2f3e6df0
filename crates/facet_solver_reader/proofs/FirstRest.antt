-- The first catch-all among steps, as they are gone through one by one.
use Rattle.std.proofs.Common.{◌≡◌, ◌∙◌, ap, refl, ℕ, zero, suc, ◌+◌, ◌<◌, List, [], ◌∷◌}
use Rattle.std.proofs.Common.{◌++◌, take, slice_get, Some, None, Bor, arith}
use Rattle.std.proofs.lemmas.List.{take_more}
use Rattle.std.proofs.lemmas.Option.{get_or_from_slice_get, slice_get_within}
use Rattle.std.specs.Option.{option_or}
use Rattle.facet_solver_reader.specs.declared.read.steps.Step as code
use Rattle.facet_solver_reader.specs.declared.part.CatchAll as code_catch_all
use Rattle.facet_solver_reader.specs.Found.{catch_all_in}
use Rattle.facet_solver_reader.specs.Parts.{CatchAll}
use Rattle.facet_solver_reader.specs.Planned.{Planned, a_field, a_rest, a_variant, an_absence}
use Rattle.facet_solver_reader.specs.Planned.{step_view}
use Rattle.facet_solver_reader.proofs.FoundSteps.{catch_all_in-append}

-- where none stands before it, a catch-all is the first
pub first_rest : (ss : List Planned) (i : ℕ) (k : CatchAll) → catch_all_in (take i ss) ≡ None
    → slice_get ss i ≡ Some (a_rest k) → catch_all_in ss ≡ Some k
first_rest [] i k before e =
    let l : i < 0 = slice_get_within [] i (a_rest k) e in absurd (omega arith)
first_rest (s ∷ ss) zero k before e =
    let same : s ≡ a_rest k = cc in ap (λ x. catch_all_in (x ∷ ss)) same
first_rest (a_field path m ∷ ss) (suc i) k before e = first_rest ss i k before e
first_rest (a_variant path id j ∷ ss) (suc i) k before e = first_rest ss i k before e
first_rest (an_absence path ∷ ss) (suc i) k before e = first_rest ss i k before e
first_rest (a_rest j ∷ ss) (suc i) k before e = absurd (cc)

-- a step that is none
pub no_rest_at : (s : code.Step)
    → ((k : Bor code_catch_all.CatchAll) → s ≡ code.TheVariants.Rest k → ⊥)
    → catch_all_in (step_view s ∷ []) ≡ None
no_rest_at (code.TheVariants.Field path m) f = refl
no_rest_at (code.TheVariants.Variant path id k) f = refl
no_rest_at (code.TheVariants.Absence path) f = refl
no_rest_at (code.TheVariants.Rest k) f = absurd (f k refl)

-- one step more that is none
pub no_rest_more : (ss : List Planned) (i : ℕ) (s : Planned) → slice_get ss i ≡ Some s
    → catch_all_in (take i ss) ≡ None → catch_all_in (s ∷ []) ≡ None
    → catch_all_in (take (i + 1) ss) ≡ None
no_rest_more ss i s there before none =
    ap catch_all_in (take_more ss i s (slice_get_within ss i s there)
    ∙ ap (λ y. take i ss ++ y ∷ []) (get_or_from_slice_get ss i s s there))
    ∙ (catch_all_in-append (take i ss) (s ∷ [])
    ∙ (ap (λ o. option_or o (catch_all_in (s ∷ []))) before ∙ none))
