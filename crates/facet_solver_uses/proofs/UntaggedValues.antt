-- Lists of variants, wherever they lie, that are filtered or sorted by a number.
use Rattle.std.proofs.Common.{◌≡◌, ◌<◌, Bool, true, false, cond, List, [], ◌∷◌, arith, refl, ap, sym, ◌∙◌, filter, length, Bor}
use Rattle.std.specs.List.Sorted.{IsNonDecreasingBy, IsStableByKey, ties}
use Rattle.std.specs.Ordering.{is_lt, nat_cmp}
use Rattle.std.proofs.lemmas.List.{get_or-map, length-map}
use Rattle.facet_solver.specs.Groups.{variants_view}
use Rattle.facet_solver.specs.declared.Shape.{Shape}
use Rattle.facet_solver.specs.declared.Variant.{Variant}
use Rattle.facet_solver_uses.specs.Untagged.{IsByScore, variant_score}

-- the variants that pass a test, wherever they lie
kept_view : (b : Bool) (v : Bor Variant) (some : List (Bor Variant)) (kept : List Variant) → kept ≡ variants_view some → cond b (v.now ∷ kept) kept ≡ variants_view (cond b (v ∷ some) some)
kept_view true v some kept e = ap (λ (vs : List Variant). v.now ∷ vs) e
kept_view false v some kept e = e

filter_view : (p : Variant → Bool) (vs : List (Bor Variant)) → filter p (variants_view vs) ≡ variants_view (filter (λ v. p v.now) vs)
filter_view p [] = refl
filter_view p (v ∷ vs) = kept_view (p v.now) v (filter (λ v. p v.now) vs) (filter p (variants_view vs)) (filter_view p vs)

-- variants by a number, wherever they lie
pub by_number : (shapes : List Shape) (vs ws : List (Bor Variant)) → IsNonDecreasingBy (λ v. variant_score shapes v.now) ws → IsStableByKey (λ v. variant_score shapes v.now) nat_cmp vs ws → IsByScore shapes (variants_view vs) (variants_view ws)
by_number shapes vs ws up same = record {
  rising = λ i j d low inside.
      let there : j < length ws = omega (arith, inside, length-map ws (λ (v : Bor Variant). v.now)) in
      let nowhere : Bor Variant = record { ref_ptr = (0, 0); now = d } in
      rw (get_or-map (λ (v : Bor Variant). v.now) ws i nowhere d (omega (arith, low, there)), get_or-map (λ (v : Bor Variant). v.now) ws j nowhere d there)
      (up i j nowhere low there);
  stable = λ v.
      let p : Variant → Bool = ties (λ a b. is_lt (nat_cmp (variant_score shapes a) (variant_score shapes b))) v in
      let nowhere : Bor Variant = record { ref_ptr = (0, 0); now = v } in
      filter_view p ws ∙ ap variants_view (same nowhere) ∙ sym (filter_view p vs);
}
