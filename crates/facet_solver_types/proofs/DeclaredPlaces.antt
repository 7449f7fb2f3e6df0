-- The places of the types that are declared.
use Rattle.std.proofs.Common.{◌≡◌, ◌≢◌, ◌⊎◌, inl, inr, ℕ, zero, suc, ◌+◌, ◌<◌, Bool, true, false, ◌||◌, ◌&&◌, cond, List, [], ◌∷◌, ◌++◌, eqb, slice_get, sym, ap, ◌∙◌, refl, arith}
use Rattle.std.specs.List.{list_any}
use Rattle.std.specs.Option.{option_map_or}
use Rattle.std.proofs.lemmas.Bool.Decides.{eqb_tells}
use Rattle.std.proofs.lemmas.List.Folds.{list_any-append}
use Rattle.facet_solver_types.specs.CataloguedTypes.{declared_from, is_declared}
use Rattle.facet_solver_types.specs.TypeEntries.{TypeEntry}
use Rattle.facet_solver_types.specs.Walks.{is_placed}

same_number : (n p : ℕ) → n ≡ p → eqb n p ≡ true
same_number n p same = elim (eqb_tells n p) [ inl told ↦ told.0 | inr told ↦ absurd (told.1 same) ]

other_number : (n p : ℕ) → n ≢ p → eqb n p ≡ false
other_number n p other = elim (eqb_tells n p) [ inl told ↦ absurd (other told.1) | inr told ↦ told.0 ]

-- the place of the first of some types, and those of the others
first_or : (at p : ℕ) (b : Bool) (entries : List TypeEntry)
    → is_placed (cond b (at ∷ []) [] ++ declared_from (at + 1) entries) p
    ≡ ((b && eqb at p) || is_placed (declared_from (at + 1) entries) p)
first_or at p true entries = list_any-append (λ other. eqb other p) (at ∷ []) (declared_from (at + 1) entries)
    ∙ ap (λ t. t || is_placed (declared_from (at + 1) entries) p) (or_none (eqb at p))
  where
    or_none : (b : Bool) → (b || false) ≡ b
    or_none true = refl
    or_none false = refl
first_or at p false entries = refl

-- before the first of some types none stands
none_before : (at p : ℕ) (entries : List TypeEntry) → p < at → is_placed (declared_from at entries) p ≡ false
none_before at p [] less = refl
none_before at p (e ∷ es) less =
    first_or at p (is_declared e.form) es
    ∙ ap (λ t. (is_declared e.form && t) || is_placed (declared_from (at + 1) es) p) (other_number at p (omega arith))
    ∙ ap (λ t. (is_declared e.form && false) || t) (none_before (at + 1) p es (omega arith))
    ∙ over (is_declared e.form)
  where
    over : (b : Bool) → ((b && false) || false) ≡ false
    over true = refl
    over false = refl

-- a type is declared if its place is among those that are
declared_at : (at place : ℕ) (entries : List TypeEntry)
    → is_placed (declared_from at entries) (at + place)
    ≡ option_map_or (λ (e : TypeEntry). is_declared e.form) (slice_get entries place) false
declared_at at place [] = refl
declared_at at zero (e ∷ es) =
    first_or at (at + 0) (is_declared e.form) es
    ∙ ap (λ t. (is_declared e.form && t) || is_placed (declared_from (at + 1) es) (at + 0)) (same_number at (at + 0) (omega arith))
    ∙ ap (λ t. (is_declared e.form && true) || t) (none_before (at + 1) (at + 0) es (omega arith))
    ∙ over (is_declared e.form)
  where
    over : (b : Bool) → ((b && true) || false) ≡ b
    over true = refl
    over false = refl
declared_at at (suc place) (e ∷ es) =
    first_or at (at + suc place) (is_declared e.form) es
    ∙ ap (λ t. (is_declared e.form && t) || is_placed (declared_from (at + 1) es) (at + suc place))
    (other_number at (at + suc place) (omega arith))
    ∙ over (is_declared e.form) (is_placed (declared_from (at + 1) es) (at + suc place))
    ∙ (let moved : at + suc place ≡ at + 1 + place = omega arith in
    ap (is_placed (declared_from (at + 1) es)) moved)
    ∙ declared_at (at + 1) place es
  where
    over : (b c : Bool) → ((b && false) || c) ≡ c
    over true c = refl
    over false c = refl

-- the same, where the first of the types stands at 0
pub declared_here : (place : ℕ) (entries : List TypeEntry)
    → is_placed (declared_from 0 entries) place
    ≡ option_map_or (λ (e : TypeEntry). is_declared e.form) (slice_get entries place) false
declared_here place entries =
    (let same : place ≡ 0 + place = omega arith in ap (is_placed (declared_from 0 entries)) same)
    ∙ declared_at 0 place entries
