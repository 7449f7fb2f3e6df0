-- Marks for the declarations that others mention, one after the other.
use Rattle.std.proofs.Common.{◌≡◌, ℕ, suc, ◌+◌, ◌<◌, ◌==◌, Bool, true, false, ◌||◌, ◌&&◌, not, List, [], ◌∷◌, ◌++◌, length, refl, sym, ap, ◌∙◌, arith}
use Rattle.facet_solver_types.specs.Mentioned.{AddsMarks, AreMentioned}
use Rattle.facet_solver_types.specs.Roots.{is_among, is_mentioned, is_mentioned_from}

or_none : (b : Bool) → (b || false) ≡ b
or_none true = refl
or_none false = refl

-- what some mention, and one more
mentioned_more : (links : List (List ℕ)) (indices : List ℕ) (at index : ℕ)
    → is_mentioned_from at (links ++ indices ∷ []) index
    ≡ (is_mentioned_from at links index || (not (at + length links == index) && is_among indices index))
mentioned_more [] indices at index =
    (let same : at ≡ at + 0 = omega arith in
    ap (λ n. (not (n == index) && is_among indices index) || false) same)
    ∙ or_none (not (at + 0 == index) && is_among indices index)
mentioned_more (found ∷ links) indices at index =
    ap (λ b. (not (at == index) && is_among found index) || b) (mentioned_more links indices (at + 1) index)
    ∙ (let same : at + 1 + length links ≡ at + suc (length links) = omega arith in
    ap (λ n. (not (at == index) && is_among found index)
    || (is_mentioned_from (at + 1) links index || (not (n == index) && is_among indices index))) same)
    ∙ grouped (not (at == index) && is_among found index) (is_mentioned_from (at + 1) links index)
    (not (at + suc (length links) == index) && is_among indices index)
  where
    grouped : (a b c : Bool) → (a || (b || c)) ≡ ((a || b) || c)
    grouped true b c = refl
    grouped false b c = refl

-- the marks with those of one more
pub mentioned_by : (links : List (List ℕ)) (indices : List ℕ) (old new : List Bool)
    → AreMentioned links old → AddsMarks old new (length links) indices
    → AreMentioned (links ++ indices ∷ []) new
mentioned_by links indices old new are adds index d less =
    let within : index < length old = omega (arith, less, adds.long) in
    adds.marked index d within
    ∙ ap (λ b. b || (not (length links == index) && is_among indices index)) (are index d within)
    ∙ sym (mentioned_more links indices 0 index
    ∙ (let same : 0 + length links ≡ length links = omega arith in
    ap (λ n. is_mentioned links index || (not (n == index) && is_among indices index)) same))
