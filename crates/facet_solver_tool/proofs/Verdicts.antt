-- What the end of a check says of its ambiguities.
use Rattle.std.proofs.Common.{◌≡◌, ◌⊎◌, ◌&&◌, ◌||◌, ◌==◌, ℕ, suc, Bool, true, false, true≢false, List, [], ◌∷◌, All, ap, cond, refl, inl, inr, arith}
use Rattle.std.proofs.lemmas.Bool.{false≢true}
use Rattle.std.specs.List.{list_any}
use Rattle.facet_solver_witnesses.specs.declared.ambiguity.Ambiguity.{Ambiguity}
use Rattle.facet_solver_witnesses.specs.declared.ambiguity.Evidence.{Evidence}
use Rattle.facet_solver_tool.specs.declared.status.Status.TheVariants.{Answered, Ambiguous, MaybeAmbiguous, Outdated}
use Rattle.facet_solver_tool.specs.Checks.{counts, is_outdated, is_witness, status_of}
use Rattle.facet_solver_tool.specs.Status.{code}

or_cases : (x y : Bool) → (x || y) ≡ true → (x ≡ true) ⊎ (y ≡ true)
or_cases true y is = inl refl
or_cases false y is = inr is

and_first : (x y : Bool) → (x && y) ≡ true → x ≡ true
and_first true y is = refl
and_first false y is = is

pick : {X : Type 0} (test : X → Bool) (P : X → Type 0) (x : X) (xs : List X) → All P (x ∷ xs)
    → (test x ≡ true) ⊎ (list_any test xs ≡ true)
    → (list_any test xs ≡ true → (y : X) × (test y ≡ true) × P y) → (y : X) × (test y ≡ true) × P y
pick test P x xs all (inl is) others = (x, is, all 0 x (omega arith))
pick test P x xs all (inr is) others = others is

-- one of some that all have a property passes a test, if any does
pub found : {X : Type 0} (test : X → Bool) (P : X → Type 0) (xs : List X) → All P xs
    → list_any test xs ≡ true → (x : X) × (test x ≡ true) × P x
found test P [] all is = absurd (false≢true is)
found test P (x ∷ xs) all is =
    pick test P x xs all (or_cases (test x) (list_any test xs) is)
    (found test P xs (λ k d within. all (suc k) d (omega arith)))

-- which of three conditions a status came from
pub is_ambiguous : (a b c : Bool)
    → cond a Ambiguous (cond b MaybeAmbiguous (cond c Outdated Answered)) ≡ Ambiguous → a ≡ true
is_ambiguous true b c is = refl
is_ambiguous false true c is = absurd (false≢true (ap (λ s. code s == 2) is))
is_ambiguous false false true is = absurd (false≢true (ap (λ s. code s == 2) is))
is_ambiguous false false false is = absurd (false≢true (ap (λ s. code s == 2) is))

pub is_answered : (a b c : Bool)
    → cond a Ambiguous (cond b MaybeAmbiguous (cond c Outdated Answered)) ≡ Answered → b ≡ false
is_answered true b c is = absurd (false≢true (ap (λ s. code s == 0) is))
is_answered false true c is = absurd (false≢true (ap (λ s. code s == 0) is))
is_answered false false c is = refl

-- where a check ends as ambiguous, an ambiguity has a document, and what holds of all
pub shown_by : (P : Evidence → Type 0) (lines : List (List ℕ)) (ambiguities : List Ambiguity)
    → All (λ a. P a.evidence) ambiguities → status_of lines ambiguities ≡ Ambiguous
    → (a : Ambiguity) × (is_witness a.evidence ≡ true) × P a.evidence
shown_by P lines told all is =
    let test : Ambiguity → Bool = λ a. is_witness a.evidence && counts lines a in
    let some = found test (λ a. P a.evidence) told all
    (is_ambiguous (list_any test told) (list_any (counts lines) told) (list_any (is_outdated told) lines) is) in
    (some.0, and_first (is_witness some.0.evidence) (counts lines some.0) some.1, some.2)

-- where nothing is accepted, a check that ends well has no ambiguity
pub none_left : (ambiguities : List Ambiguity) → status_of [] ambiguities ≡ Answered → ambiguities ≡ []
none_left [] is = refl
none_left (a ∷ others) is =
    absurd (true≢false (is_answered (list_any (λ a. is_witness a.evidence && counts [] a) (a ∷ others)) true false is))

-- how a check ends, by whether some ambiguity counts that a document shows, whether any counts, and
-- whether all accepted lines accept one
pub ends_shown : (shown any needed : Bool) → shown ≡ true
    → Ambiguous ≡ cond shown Ambiguous (cond any MaybeAmbiguous (cond needed Answered Outdated))
ends_shown true any needed is = refl
ends_shown false any needed is = absurd (false≢true is)

pub ends_any : (shown any needed : Bool) → shown ≡ false → any ≡ true
    → MaybeAmbiguous ≡ cond shown Ambiguous (cond any MaybeAmbiguous (cond needed Answered Outdated))
ends_any true any needed none is = absurd (true≢false none)
ends_any false true needed none is = refl
ends_any false false needed none is = absurd (false≢true is)

pub ends_well : (shown any needed : Bool) → shown ≡ false → any ≡ false → needed ≡ true
    → Answered ≡ cond shown Ambiguous (cond any MaybeAmbiguous (cond needed Answered Outdated))
ends_well true any needed none nothing is = absurd (true≢false none)
ends_well false true needed none nothing is = absurd (true≢false nothing)
ends_well false false true none nothing is = refl
ends_well false false false none nothing is = absurd (false≢true is)

pub ends_outdated : (shown any needed : Bool) → shown ≡ false → any ≡ false → needed ≡ false
    → Outdated ≡ cond shown Ambiguous (cond any MaybeAmbiguous (cond needed Answered Outdated))
ends_outdated true any needed none nothing is = absurd (true≢false none)
ends_outdated false true needed none nothing is = absurd (true≢false nothing)
ends_outdated false false true none nothing is = absurd (true≢false is)
ends_outdated false false false none nothing is = refl
