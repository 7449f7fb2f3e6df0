-- A column, a byte at a time.
use Rattle.std.proofs.Common.{◌≡◌, ℕ, ◌+◌, ◌<◌, List, [], ◌∷◌, length, get_or, take, Bool, true, false, cond, ap, ◌∙◌, refl, sym, arith}
use Rattle.std.specs.Prelude.{reverse, not}
use Rattle.std.specs.List.{count_by, take_while}
use Rattle.std.proofs.lemmas.List.{reverse-append, take_more}
use Rattle.std.proofs.lemmas.List.Recursion.{is_count_by}
use Rattle.std.proofs.lemmas.List.Sums.{take_while-cons}
use Rattle.facet_solver_json.specs.Places.{begins_character, column_after, is_line_feed}

pub last_first : (xs : List ℕ) (i : ℕ) → i < length xs → reverse (take (i + 1) xs) ≡ get_or xs i 0 ∷ reverse (take i xs)
last_first xs i h = ap reverse (take_more xs i 0 h) ∙ reverse-append (take i xs) (get_or xs i 0 ∷ [])

-- how many bytes pass
abbrev count : (ℕ → Bool) → List ℕ → ℕ
count p [] = 0
count p (x ∷ xs) = cond (p x) (1 + count p xs) (count p xs)

count_by-cons : (p : ℕ → Bool) (x : ℕ) (xs : List ℕ) → count_by p (x ∷ xs) ≡ cond (p x) (1 + count_by p xs) (count_by p xs)
count_by-cons p x xs =
    let same = is_count_by (count p) p refl (λ y ys. refl) in
    sym (same (x ∷ xs)) ∙ ap (λ n. cond (p x) (1 + n) n) (same xs)

-- bytes that stand last first, up to the line feed before them
abbrev in_line : List ℕ → List ℕ
in_line = take_while (λ byte. not (is_line_feed byte))

-- the column after bytes that stand last first
abbrev column_of : List ℕ → ℕ
column_of bytes = 1 + count_by begins_character (in_line bytes)

after_line_feed : (x : ℕ) (xs : List ℕ) → is_line_feed x ≡ true → column_of (x ∷ xs) ≡ 1
after_line_feed x xs feed =
    ap (λ bs. 1 + count_by begins_character bs) (take_while-cons (λ byte. not (is_line_feed byte)) x xs ∙ ap (λ t. cond (not t) (x ∷ in_line xs) []) feed)

after_other : (x : ℕ) (xs : List ℕ) → is_line_feed x ≡ false → column_of (x ∷ xs) ≡ 1 + cond (begins_character x) (1 + count_by begins_character (in_line xs)) (count_by begins_character (in_line xs))
after_other x xs other =
    ap (λ bs. 1 + count_by begins_character bs) (take_while-cons (λ byte. not (is_line_feed byte)) x xs ∙ ap (λ t. cond (not t) (x ∷ in_line xs) []) other)
    ∙ ap (λ n. 1 + n) (count_by-cons begins_character x (in_line xs))

module _ (xs : List ℕ) (i : ℕ) (h : i < length xs) where
  pub column-line_feed : is_line_feed (get_or xs i 0) ≡ true → column_after (take (i + 1) xs) ≡ 1
  column-line_feed feed = ap column_of (last_first xs i h) ∙ after_line_feed (get_or xs i 0) (reverse (take i xs)) feed

  pub column-character : is_line_feed (get_or xs i 0) ≡ false → begins_character (get_or xs i 0) ≡ true → column_after (take (i + 1) xs) ≡ column_after (take i xs) + 1
  column-character other begins =
      let n = count_by begins_character (in_line (reverse (take i xs))) in
      let sum : 1 + (1 + n) ≡ 1 + n + 1 = omega arith in
      ap column_of (last_first xs i h) ∙ after_other (get_or xs i 0) (reverse (take i xs)) other ∙ ap (λ t. 1 + cond t (1 + n) n) begins ∙ sum

  pub column-rest : is_line_feed (get_or xs i 0) ≡ false → begins_character (get_or xs i 0) ≡ false → column_after (take (i + 1) xs) ≡ column_after (take i xs)
  column-rest other continues =
      let n = count_by begins_character (in_line (reverse (take i xs))) in
      ap column_of (last_first xs i h) ∙ after_other (get_or xs i 0) (reverse (take i xs)) other ∙ ap (λ t. 1 + cond t (1 + n) n) continues
