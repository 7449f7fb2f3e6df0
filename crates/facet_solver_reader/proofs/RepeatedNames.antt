-- A name that stands twice stands twice in any order.
use Rattle.std.proofs.Common.{◌≡◌, ◌≢◌, ℕ, ◌<◌, List, length, Some, slice_get, refl, sym, ◌∙◌, inl, inr, ◌⊎◌, get_or, ap, arith, swap, IsPermutation}
use Rattle.std.proofs.lemmas.Bool.{cases_lt, cases_eq}
use Rattle.std.proofs.lemmas.List.Edits.{Swapped, swapped_from_swap, length-swap}
use Rattle.std.proofs.lemmas.List.Sorted.{IsPermutation-keeps, IsPermutation-sym}
use Rattle.std.proofs.lemmas.Option.{slice_get_within, slice_get_read, get_or_from_slice_get}
use Rattle.facet_solver_shape.specs.Names.{Name}
use Rattle.facet_solver_reader.specs.Places.{IsLeastRepeated, IsRepeated}

-- where an exchange of a and b takes what stands at k
abbrev Moved : ℕ → ℕ → ℕ → ℕ → Type 0
Moved a b k m = ((k ≡ a) × (m ≡ b)) ⊎ (((k ≡ b) × (m ≡ a)) ⊎ ((k ≢ a) × (k ≢ b) × (m ≡ k)))

module _ (names : List Name) (a b : ℕ) (p : a < length names) (q : b < length names) where
  place : (k : ℕ) (name : Name) → slice_get names k ≡ Some name → (m : ℕ) × Moved a b k m × (slice_get (swap names a b) m ≡ Some name)
  place k name at = go (cases_eq k a) (cases_eq k b)
    where
      s : Swapped (λ i. get_or names i name) (λ i. get_or (swap names a b) i name) a b
      s = swapped_from_swap names (swap names a b) a b name p q refl

      inside : k < length names
      inside = slice_get_within names k name at

      there : (m : ℕ) → m < length names → get_or (swap names a b) m name ≡ get_or names k name → slice_get (swap names a b) m ≡ Some name
      there m less e = slice_get_read _ (length names) m name (sym (length-swap names a b)) less (sym (e ∙ get_or_from_slice_get names k name name at))

      go : (k ≡ a) ⊎ (k ≢ a) → (k ≡ b) ⊎ (k ≢ b) → (m : ℕ) × Moved a b k m × (slice_get (swap names a b) m ≡ Some name)
      go (inl e) y = (b, inl (e, refl), there b q (s.1 ∙ ap (λ n. get_or names n name) (sym e)))
      go (inr n) (inl e) = (a, inr (inl (e, refl)), there a p (s.0 ∙ ap (λ n. get_or names n name) (sym e)))
      go (inr n) (inr o) = (k, inr (inr (n, o, refl)), there k inside (s.2 k n o))

  repeated_swapped : (x : Name) → IsRepeated names x → IsRepeated (swap names a b) x
  repeated_swapped x repeated =
      let twice = repeated.twice in
      let v = place twice.first twice.name twice.at_first in
      let w = place twice.second twice.name twice.at_second in
      elim (cases_lt v.0 w.0) [
        | inl less ↦ record {
          twice = record { name = twice.name; first = v.0; second = w.0; apart = less; at_first = v.2; at_second = w.2 };
          name_is = repeated.name_is;
        }
        | inr other ↦ record {
          twice = record { name = twice.name; first = w.0; second = v.0; apart = omega (arith, other, v.1, w.1, twice.apart); at_first = w.2; at_second = v.2 };
          name_is = repeated.name_is;
        }
      ]

pub IsRepeated-permutation : (names others : List Name) (x : Name) → IsPermutation names others → IsRepeated names x → IsRepeated others x
IsRepeated-permutation names others x moved repeated =
    IsPermutation-keeps names (λ l. IsRepeated l x) repeated (λ l a b p q one. repeated_swapped l a b p q x one) others moved

-- and so does the least of them
pub IsLeastRepeated-permutation : (names others : List Name) (x : Name) → IsPermutation names others → IsLeastRepeated names x → IsLeastRepeated others x
IsLeastRepeated-permutation names others x moved one = record {
  repeated = IsRepeated-permutation names others x moved one.repeated;
  least = λ y twice. one.least y (IsRepeated-permutation others names y (IsPermutation-sym names others moved) twice);
}
