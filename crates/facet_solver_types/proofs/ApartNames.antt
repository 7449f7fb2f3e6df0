-- No two variants are declared under one name.
use Rattle.std.proofs.Common.{◌≡◌, ◌&&◌, ℕ, zero, suc, ◌+◌, ◌%◌, ◌^◌, ◌<◌, ◌≤◌, ◌⊎◌, inl, inr, Bool, true, false, cond, eqb, ◌||◌, List, [], ◌∷◌, ◌++◌, length, replicate, Some, slice_get, ap, sym, refl, ◌∙◌, arith}
use Rattle.std.specs.Fmt.{decimal}
use Rattle.std.specs.List.{list_any}
use Rattle.std.proofs.lemmas.Bool.{cases_lt, false≢true}
use Rattle.std.proofs.lemmas.Bool.Decides.{nat_tests}
use Rattle.std.proofs.lemmas.Fmt.{decimal_by_steps, decimal_injective}
use Rattle.std.proofs.lemmas.Slice.Eq.{bytes_eq-Decides}
use Rattle.facet_solver_shape.specs.Catalogues.{RepeatsName}
use Rattle.facet_solver_shape.specs.Names.{Name, name_eq}
use Rattle.facet_solver_types.specs.Keywords.{is_keyword}
use Rattle.facet_solver_types.specs.Cases.{underscore}
use Rattle.facet_solver_types.specs.PrintedNames.{numbered, is_taken, marks_of, variant_name}
use Rattle.facet_solver_types.specs.PrintedTexts.{is_plain_name, go_on_in_word, goes_on_in_word}
use Rattle.facet_solver_types.proofs.FreeNames.{free}

-- whether there is a `_` among bytes
has_mark : List ℕ → Bool
has_mark = list_any (λ b. eqb b underscore)

more_unmarked : (xs ys : List ℕ) → has_mark xs ≡ false → has_mark ys ≡ false → has_mark (xs ++ ys) ≡ false
unfolding has_mark
more_unmarked [] ys e t = t
more_unmarked (x ∷ xs) ys e t = go (eqb x underscore) e (λ rest. more_unmarked xs ys rest t)
  where
    go : (b : Bool) → (b || has_mark xs) ≡ false → (has_mark xs ≡ false → has_mark (xs ++ ys) ≡ false) → (b || has_mark (xs ++ ys)) ≡ false
    go true e later = absurd (false≢true (sym e))
    go false e later = later e

unmarked_digit : (d : ℕ) → d < 10 → has_mark ((48 + d) ∷ []) ≡ false
unfolding has_mark
unmarked_digit d small =
    let other : eqb (48 + d) 95 ≡ false = grind (arith, nat_tests) in ap (λ b. b || false) other

-- digits have none
unmarked : (n : ℕ) → n < 2 ^ 64 → has_mark (decimal n) ≡ false
unmarked n small =
    decimal_by_steps (λ n ds. has_mark ds ≡ false) unmarked_digit
    (λ n ds high e. more_unmarked ds ((48 + n % 10) ∷ []) e (unmarked_digit (n % 10) (omega arith))) n small

-- so what is before `_` is the same
same_before : (xs ys : List ℕ) (k l : ℕ) → has_mark xs ≡ false → has_mark ys ≡ false
    → xs ++ replicate k underscore ≡ ys ++ replicate l underscore → xs ≡ ys
unfolding has_mark
same_before [] [] k l e t same = refl
same_before [] (y ∷ ys) zero l e t same = absurd (cc)
same_before [] (y ∷ ys) (suc k) l e t same =
    let is : y ≡ 95 = cc in
    let yes : eqb y 95 ≡ true = grind (arith, nat_tests) in
    absurd (false≢true (sym t ∙ ap (λ b. b || has_mark ys) yes))
same_before (x ∷ xs) [] k zero e t same = absurd (cc)
same_before (x ∷ xs) [] k (suc l) e t same =
    let is : x ≡ 95 = cc in
    let yes : eqb x 95 ≡ true = grind (arith, nat_tests) in
    absurd (false≢true (sym e ∙ ap (λ b. b || has_mark xs) yes))
same_before (x ∷ xs) (y ∷ ys) k l e t same =
    let head : x ≡ y = cc in
    let rest : xs ++ replicate k underscore ≡ ys ++ replicate l underscore = cc in
    let tail = same_before xs ys k l (later (eqb x 95) (has_mark xs) e) (later (eqb y 95) (has_mark ys) t) rest in
    cc
  where
    later : (a b : Bool) → (a || b) ≡ false → b ≡ false
    later true b e = absurd (false≢true (sym e))
    later false b e = e

-- a name of a number tells the number
same_number : (i j k l : ℕ) → i < 2 ^ 64 → j < 2 ^ 64 → numbered i k ≡ numbered j l → i ≡ j
same_number i j k l small_i small_j e =
    let rest : decimal i ++ replicate k underscore ≡ decimal j ++ replicate l underscore = cc in
    decimal_injective i j small_i small_j
    (same_before (decimal i) (decimal j) k l (unmarked i small_i) (unmarked j small_j) rest)

-- a name of a list stands within it
within : (names : List Name) (i : ℕ) (x : Name) → slice_get names i ≡ Some x → i < length names
within [] i x e = absurd (cc)
within (y ∷ ys) zero x e = omega arith
within (y ∷ ys) (suc i) x e = let less = within ys i x e in omega arith

-- and is taken
taken : (names : List Name) (i n k : ℕ) (x : Name) → slice_get names i ≡ Some x → x ≡ numbered n k → is_taken names n k ≡ true
taken [] i n k x e is = absurd (cc)
taken (y ∷ ys) zero n k x e is =
    let here : y ≡ numbered n k = cc in
    ap (λ b. b || is_taken ys n k) ((bytes_eq-Decides y (numbered n k)).1 here)
taken (y ∷ ys) (suc i) n k x e is = or_later (name_eq y (numbered n k)) (taken ys i n k x e is)
  where
    or_later : (b : Bool) → is_taken ys n k ≡ true → (b || is_taken ys n k) ≡ true
    or_later true t = refl
    or_later false t = t

module _ (names : List Name) (few : length names ≤ 2 ^ 64) (once : ¬ RepeatsName names) where
  -- a name stands at one index
  alone : (i j : ℕ) (x : Name) → slice_get names i ≡ Some x → slice_get names j ≡ Some x → i ≡ j
  alone i j x at_i at_j = go (cases_lt i j) (cases_lt j i)
    where
      go : (i < j) ⊎ (j ≤ i) → (j < i) ⊎ (i ≤ j) → i ≡ j
      go (inl less) other = absurd (once (record { name = x; first = i; second = j; apart = less; at_first = at_i; at_second = at_j }))
      go (inr most) (inl less) = absurd (once (record { name = x; first = j; second = i; apart = less; at_first = at_j; at_second = at_i }))
      go (inr most) (inr least) = omega arith

  -- a variant's own name is none that another gets
  foreign : (i n : ℕ) (x : Name) → slice_get names i ≡ Some x → x ≡ numbered n (marks_of names n) → ⊥
  foreign i n x at is = false≢true (sym (free names n) ∙ taken names i n (marks_of names n) x at is)

  -- variants of one declared name are one
  pub one_variant : (i j : ℕ) (x y : Name) → slice_get names i ≡ Some x → slice_get names j ≡ Some y
      → variant_name names i x ≡ variant_name names j y → i ≡ j
  one_variant i j x y at_i at_j = go (is_plain_name x) (is_plain_name y)
    where
      go : (b c : Bool) → cond b x (numbered i (marks_of names i)) ≡ cond c y (numbered j (marks_of names j)) → i ≡ j
      go true true e = alone i j x at_i (at_j ∙ ap Some (sym e))
      go true false e = absurd (foreign i j x at_i e)
      go false true e = absurd (foreign j i y at_j (sym e))
      go false false e =
          let in_i = within names i x at_i in
          let in_j = within names j y at_j in
          same_number i j (marks_of names i) (marks_of names j) (omega arith) (omega arith) e

go_on_more : (xs ys : List ℕ) → go_on_in_word xs ≡ true → go_on_in_word ys ≡ true → go_on_in_word (xs ++ ys) ≡ true
go_on_more [] ys e t = t
go_on_more (x ∷ xs) ys e t = go (goes_on_in_word x) e (λ rest. go_on_more xs ys rest t)
  where
    go : (b : Bool) → (b && go_on_in_word xs) ≡ true → (go_on_in_word xs ≡ true → go_on_in_word (xs ++ ys) ≡ true) → (b && go_on_in_word (xs ++ ys)) ≡ true
    go true e later = later e
    go false e later = absurd (false≢true e)

digit_goes_on : (d : ℕ) → d < 10 → go_on_in_word ((48 + d) ∷ []) ≡ true
digit_goes_on d small = grind (arith, nat_tests)

digits_go_on : (n : ℕ) → n < 2 ^ 64 → go_on_in_word (decimal n) ≡ true
digits_go_on n small =
    decimal_by_steps (λ n ds. go_on_in_word ds ≡ true) digit_goes_on
    (λ n ds high e. go_on_more ds ((48 + n % 10) ∷ []) e (digit_goes_on (n % 10) (omega arith))) n small

marks_go_on : (k : ℕ) → go_on_in_word (replicate k underscore) ≡ true
marks_go_on zero = refl
marks_go_on (suc k) = marks_go_on k

-- a number with `V` before it is a name
numbered_is_name : (n k : ℕ) → n < 2 ^ 64 → is_plain_name (numbered n k) ≡ true
unfolding is_keyword
numbered_is_name n k small = ap (λ b. b && true) (go_on_more (decimal n) (replicate k underscore) (digits_go_on n small) (marks_go_on k))

-- each declared name is one
pub is_named : (names : List Name) (n : ℕ) (x : Name) → n < 2 ^ 64 → is_plain_name (variant_name names n x) ≡ true
is_named names n x small = go (is_plain_name x) refl
  where
    go : (b : Bool) → is_plain_name x ≡ b → is_plain_name (cond b x (numbered n (marks_of names n))) ≡ true
    go true e = e
    go false e = numbered_is_name n (marks_of names n) small
