-- The lines of bytes, cut off one after another.
use Rattle.std.proofs.Common.{◌≡◌, ◌==◌, ◌+◌, ◌<◌, ◌∙◌, ℕ, zero, suc, Bool, true, false, List, [], ◌∷◌, Some, None, add-one, ap, arith, cond, drop, is_some, length, nat_lt, not, position, refl, subst, sym, take, unwrap_or}
use Rattle.std.proofs.lemmas.Bool.{false≢true, lt-ltb, ltb-true, true≢false}
use Rattle.std.specs.List.{prefix_len}
use Rattle.facet_solver_tool.specs.InputLines.{before_first, last_line, lines_of}

-- how many bytes stand before the first line feed
abbrev before : List ℕ → ℕ
before bytes = prefix_len (λ b. not (b == 10)) bytes

cut_one : (x : ℕ) (xs : List ℕ) (b : Bool) (e : ℕ) → cond (not b) (1 + before xs) 0 ≡ e → e < length (x ∷ xs)
    → ((k : ℕ) → before xs ≡ k → k < length xs → lines_of xs ≡ take k xs ∷ lines_of (drop (suc k) xs))
    → cond b ([] ∷ lines_of xs) (before_first x (lines_of xs)) ≡ take e (x ∷ xs) ∷ lines_of (drop (suc e) (x ∷ xs))
cut_one x xs true zero is within others = refl
cut_one x xs true (suc e) is within others = absurd (omega arith)
cut_one x xs false zero is within others = absurd (omega arith)
cut_one x xs false (suc e) is within others = ap (before_first x) (others e (omega arith) (omega arith))

cut_at : (xs : List ℕ) (e : ℕ) → before xs ≡ e → e < length xs → lines_of xs ≡ take e xs ∷ lines_of (drop (suc e) xs)
cut_at [] e is within = absurd (omega arith)
cut_at (x ∷ xs) e is within = cut_one x xs (x == 10) e is within (λ k same inside. cut_at xs k same inside)

some_of : (b : Bool) (n e : ℕ) → Some e ≡ cond b (Some n) None → (b ≡ true) × (n ≡ e)
some_of true n e is = (refl, sym (ap (λ o. unwrap_or o 0) is))
some_of false n e is = absurd (true≢false (ap is_some is))

none_of : (b : Bool) (n : ℕ) → None ≡ cond b (Some n) None → b ≡ false
none_of true n is = absurd (false≢true (ap is_some is))
none_of false n is = refl

-- the line before the first line feed, and those behind it
pub first_cut : (bytes : List ℕ) (e : ℕ) → Some e ≡ position (λ b. b == 10) bytes
    → lines_of bytes ≡ take e bytes ∷ lines_of (drop (e + 1) bytes)
first_cut bytes e is =
    let found = some_of (nat_lt (before bytes) (length bytes)) (before bytes) e is in
    let within = subst (λ k. k < length bytes) found.1 (ltb-true (before bytes) (length bytes) found.0) in
    cut_at bytes e found.1 within ∙ ap (λ k. take e bytes ∷ lines_of (drop k bytes)) (sym (add-one e))

joined : (x : ℕ) (xs : List ℕ) → before_first x (last_line xs) ≡ (x ∷ xs) ∷ []
joined x [] = refl
joined x (y ∷ ys) = refl

raise : (n m : ℕ) → n < m → 1 + n < suc m
raise n m less = omega arith

lower : (n m : ℕ) (b : Bool) → nat_lt n m ≡ b → nat_lt (1 + n) (suc m) ≡ false → nat_lt n m ≡ false
lower n m true same is = absurd (true≢false (sym (lt-ltb (1 + n) (suc m) (raise n m (ltb-true n m same))) ∙ is))
lower n m false same is = same

no_feed : (x : ℕ) (xs : List ℕ) (b : Bool) → nat_lt (cond (not b) (1 + before xs) 0) (length (x ∷ xs)) ≡ false
    → (nat_lt (before xs) (length xs) ≡ false → lines_of xs ≡ last_line xs)
    → cond b ([] ∷ lines_of xs) (before_first x (lines_of xs)) ≡ (x ∷ xs) ∷ []
no_feed x xs true is others = absurd (true≢false (sym (lt-ltb 0 (length (x ∷ xs)) (omega arith)) ∙ is))
no_feed x xs false is others =
    ap (before_first x) (others (lower (before xs) (length xs) (nat_lt (before xs) (length xs)) refl is)) ∙ joined x xs

whole : (xs : List ℕ) → nat_lt (before xs) (length xs) ≡ false → lines_of xs ≡ last_line xs
whole [] is = refl
whole (x ∷ xs) is = no_feed x xs (x == 10) is (λ same. whole xs same)

-- without a line feed there is one line, or none
pub last_cut : (bytes : List ℕ) → None ≡ position (λ b. b == 10) bytes → lines_of bytes ≡ last_line bytes
last_cut bytes is = whole bytes (none_of (nat_lt (before bytes) (length bytes)) (before bytes) is)
