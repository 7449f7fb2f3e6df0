-- The entries of attributes, one attribute after another.
use Rattle.std.proofs.Common.{◌≡◌, ℕ, zero, suc, ◌-◌, ◌<◌, true, false, cond, List, [], ◌∷◌, ◌++◌, length, drop, Ok, Err, refl, sym, ap, ◌∙◌, arith, append_assoc}
use Rattle.facet_solver_types.specs.AttributeEntries.{Entries, cfg_attr_entries, entries_from}
use Rattle.facet_solver_types.specs.AttributeEntries.{entries_in, first_entries, joined, part_len}
use Rattle.facet_solver_types.specs.AttributeEntries.{parts_from}
use Rattle.facet_solver_types.specs.Entries.{Entry}
use Rattle.facet_solver_types.specs.Passages.{Passage, after, up_to}
use Rattle.facet_solver_types.specs.Prefixes.{attribute_len, begins_attribute}
use Rattle.facet_solver_types.specs.Tokens.{Token}
use Rattle.facet_solver_types.proofs.Listed.{before}

-- the tokens of an attribute are passed over
passed : (n : ℕ) (ts : List Token) → entries_from n ts ≡ entries_from 0 (drop n ts)
unfolding entries_from
passed zero ts = refl
passed (suc n) [] = refl
passed (suc n) (t ∷ ts) = passed n ts

-- an attribute that stands first, and those after it
pub attribute_more : (n : ℕ) (ts : List Token) → begins_attribute false ts ≡ true
    → 0 < length ts → n ≡ attribute_len false ts → 0 < n
    → entries_from 0 ts ≡ joined (first_entries ts) (entries_from 0 (drop n ts))
unfolding entries_from
attribute_more n [] begins left is some = absurd (omega arith)
attribute_more zero (t ∷ ts) begins left is some = absurd (omega arith)
attribute_more (suc n) (t ∷ ts) begins left is some =
    let less : attribute_len false (t ∷ ts) - 1 ≡ n = omega (arith, is) in
    ap (λ b. cond b (joined (first_entries (t ∷ ts))
    (entries_from (attribute_len false (t ∷ ts) - 1) ts)) (Ok [])) begins
    ∙ ap (λ k. joined (first_entries (t ∷ ts)) (entries_from k ts)) {y = n} less
    ∙ ap (joined (first_entries (t ∷ ts))) (passed n ts)

-- no attribute stands first
pub attribute_none : (ts : List Token) → begins_attribute false ts ≡ false
    → entries_from 0 ts ≡ Ok []
unfolding entries_from
attribute_none [] other = refl
attribute_none (t ∷ ts) other =
    ap (λ b. cond b (joined (first_entries (t ∷ ts))
    (entries_from (attribute_len false (t ∷ ts) - 1) ts)) (Ok [])) other

-- the tokens of a part are passed over
part_passed : (end n : ℕ) (ts : List Token) → parts_from end n ts ≡ parts_from end 0 (drop n ts)
unfolding parts_from
part_passed end zero ts = refl
part_passed end (suc n) [] = refl
part_passed end (suc n) (t ∷ ts) = part_passed end n ts

-- a part of a `cfg_attr`, and those after it
pub part_more : (len : ℕ) (left : Passage) → 0 < length left.tokens
    → len ≡ part_len left.tokens → 0 < len
    → cfg_attr_entries left ≡ joined (entries_in (up_to len left)) (cfg_attr_entries (after len left))
unfolding parts_from
part_more len left some is filled = more len left.tokens some is filled
  where
    more : (n : ℕ) (ts : List Token) → 0 < length ts → n ≡ part_len ts → 0 < n
        → parts_from left.end 0 ts
        ≡ joined (entries_in (up_to n (record { tokens = ts; end = left.end })))
        (parts_from left.end 0 (drop n ts))
    more n [] some is filled = absurd (omega arith)
    more zero (t ∷ ts) some is filled = absurd (omega arith)
    more (suc n) (t ∷ ts) some is filled =
        let first : ℕ → Entries =
        λ k. entries_in (up_to k (record { tokens = t ∷ ts; end = left.end })) in
        let less : suc n - 1 ≡ n = omega arith in
        ap (λ k. joined (first k) (parts_from left.end (k - 1) ts)) (sym is)
        ∙ ap (λ k. joined (first (suc n)) (parts_from left.end k ts)) less
        ∙ ap (joined (first (suc n))) (part_passed left.end n ts)

-- no part is left
pub part_none : (left : Passage) → length left.tokens ≡ 0 → cfg_attr_entries left ≡ Ok []
unfolding parts_from
part_none left none = over left.tokens none
  where
    over : (ts : List Token) → length ts ≡ 0 → parts_from left.end 0 ts ≡ Ok []
    over [] none = refl
    over (t ∷ ts) none = absurd (omega arith)

-- those of one attribute more were read
pub before_joined : (es more : List Entry) (later : Entries)
    → before es (joined (Ok more) later) ≡ before (es ++ more) later
before_joined es more (Ok others) = ap Ok (sym (append_assoc es more others))
before_joined es more (Err fault) = refl
