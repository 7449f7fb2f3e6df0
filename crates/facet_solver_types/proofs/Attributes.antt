-- Attributes, one after another.
use Rattle.std.proofs.Common.{◌≡◌, ℕ, zero, suc, ◌+◌, ◌-◌, ◌<◌, ◌≤◌, Bool, true, false, cond, List, [], ◌∷◌, length, drop, refl, ap, ◌∙◌, arith}
use Rattle.facet_solver_types.specs.Prefixes.{attribute_len, attributes_from, attributes_len, begins_attribute}
use Rattle.facet_solver_types.specs.Tokens.{Token}

-- the tokens of an attribute are passed over
passed : (inner : Bool) (n : ℕ) (ts : List Token) → n ≤ length ts → attributes_from inner n ts ≡ n + attributes_from inner 0 (drop n ts)
unfolding attributes_from
passed inner zero ts within = omega arith
passed inner (suc n) [] within = absurd (omega arith)
passed inner (suc n) (t ∷ ts) within = let later = passed inner n ts (omega arith) in omega (arith, later)

-- an attribute, and those after it
pub attribute_more : (inner : Bool) (ts : List Token) → begins_attribute inner ts ≡ true → 0 < attribute_len inner ts → attribute_len inner ts ≤ length ts
    → attributes_len inner ts ≡ attribute_len inner ts + attributes_len inner (drop (attribute_len inner ts) ts)
unfolding attributes_from
attribute_more inner [] begins some within = absurd (omega arith)
attribute_more inner (t ∷ ts) begins some within =
    let first = ap (λ b. cond b (suc (attributes_from inner (attribute_len inner (t ∷ ts) - 1) ts)) 0) begins in
    first ∙ rest (attribute_len inner (t ∷ ts)) some within
  where
    rest : (n : ℕ) → 0 < n → n ≤ length (t ∷ ts) → suc (attributes_from inner (n - 1) ts) ≡ n + attributes_len inner (drop n (t ∷ ts))
    rest zero some within = absurd (omega arith)
    rest (suc n) some within =
        let less : suc n - 1 ≡ n = omega arith in
        let later = passed inner n ts (omega arith) in
        ap (λ k. suc (attributes_from inner k ts)) less ∙ omega (arith, later)

-- none
pub attribute_none : (inner : Bool) (ts : List Token) → begins_attribute inner ts ≡ false → attributes_len inner ts ≡ 0
unfolding attributes_from
attribute_none inner [] other = refl
attribute_none inner (t ∷ ts) other = ap (λ b. cond b (suc (attributes_from inner (attribute_len inner (t ∷ ts) - 1) ts)) 0) other
