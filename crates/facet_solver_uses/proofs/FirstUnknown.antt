-- Keys that are taken, and the first that is not.
use Rattle.std.proofs.Common.{◌≡◌, ℕ, zero, suc, ◌+◌, ◌<◌, refl, ap, sym, ◌∙◌, Bool, true, false, cond, ◌&&◌, List, [], ◌∷◌, Option, Some, None, get_or, is_some, length, map, not, slice_get, take}
use Rattle.std.specs.List.{list_all}
use Rattle.std.specs.Option.{option_map}
use Rattle.std.proofs.lemmas.List.{take-map}
use Rattle.std.proofs.lemmas.List.Folds.{list_all-map, list_all_more}
use Rattle.std.proofs.lemmas.Option.{slice_get-get_or, slice_get-map}
use Rattle.facet_solver.specs.Keys.{Key, key_of}
use Rattle.facet_solver.specs.Resolved.{Resolved}
use Rattle.facet_solver.specs.declared.FieldKey.{FieldKey}
use Rattle.facet_solver_uses.specs.Taken.{AreTaken, TakerView, first_unknown, is_taken, taker_view}
use Rattle.facet_solver_uses.specs.declared.taken.Taker.{Taker}

both : (a b : Bool) → (a && b) ≡ true → (a ≡ true) × (b ≡ true)
both true b e = (refl, e)
both false b e = absurd (cc)

-- what the code asks of a taker holds of what it says
pub asked : (o : Option Taker) (taker : Option TakerView) (b : Bool) → option_map taker_view o ≡ taker → is_some o ≡ not b → is_some taker ≡ not b
asked None taker b says is = sym (ap is_some says) ∙ is
asked (Some t) taker b says is = sym (ap is_some says) ∙ is

-- where each key is taken, none is unknown
pub none_unknown : (r : Resolved) (keys : List Key) → AreTaken r keys → first_unknown r keys ≡ None
none_unknown r [] taken = refl
none_unknown r (key ∷ keys) taken =
    let p = both (is_taken key r) _ taken in
    ap (λ b. cond (not b) (Some key) (first_unknown r keys)) p.0 ∙ none_unknown r keys p.1

-- a key behind taken ones that is not taken is the first unknown one
pub unknown_at : (r : Resolved) (keys : List Key) (n : ℕ) (key : Key) → AreTaken r (take n keys) → slice_get keys n ≡ Some key → is_taken key r ≡ false → first_unknown r keys ≡ Some key
unknown_at r [] n key taken there unknown = absurd (cc)
unknown_at r (other ∷ keys) zero key taken there unknown =
    let here : other ≡ key = cc in
    ap (λ b. cond (not b) (Some other) (first_unknown r keys)) (ap (λ k. is_taken k r) here ∙ unknown) ∙ ap (λ k. Some k) here
unknown_at r (other ∷ keys) (suc n) key taken there unknown =
    let p = both (is_taken other r) _ taken in
    ap (λ b. cond (not b) (Some other) (first_unknown r keys)) p.0 ∙ unknown_at r keys n key p.1 there unknown

-- one more key is taken
pub taken_more : (r : Resolved) (keys : List FieldKey) (n : ℕ) (d : FieldKey) → n < length keys → is_taken (key_of (get_or keys n d)) r ≡ true → AreTaken r (map key_of (take n keys)) → AreTaken r (map key_of (take (n + 1) keys))
taken_more r keys n d low here before =
    list_all-map (λ key. is_taken key r) key_of (take (n + 1) keys)
    ∙ list_all_more (λ key. is_taken (key_of key) r) keys n d low
    ∙ (λ i. (sym (list_all-map (λ key. is_taken key r) key_of (take n keys)) ∙ before) i && here i)

-- the keys before a place
pub taken_before : (r : Resolved) (keys : List FieldKey) (n : ℕ) → AreTaken r (map key_of (take n keys)) → AreTaken r (take n (map key_of keys))
taken_before r keys n h = ap (list_all (λ key. is_taken key r)) (take-map key_of n keys) ∙ h

-- a key at its place
pub key_at : (keys : List FieldKey) (n : ℕ) (d : FieldKey) → n < length keys → slice_get (map key_of keys) n ≡ Some (key_of (get_or keys n d))
key_at keys n d low = slice_get-map key_of keys n ∙ ap (option_map key_of) (slice_get-get_or keys n d low)
