-- The first line of bytes, and the others.
use Rattle.std.proofs.Common.{◌≡◌, ◌==◌, ◌&&◌, ◌-◌, ◌<◌, ◌∙◌, Bool, true, false, ℕ, List, [], ◌∷◌, length, ap, cond, nat_lt, refl, slice_index, sym, take, arith}
use Rattle.std.proofs.lemmas.Bool.{lt-ltb}
use Rattle.std.specs.Io.BufRead.{drop_through, first_piece, strip_last, take_through}
use Rattle.facet_solver_tool.specs.InputLines.{before_first, lines_of}

-- bytes without what stands from an index on, if the byte there is this
abbrev strip_at : ℕ → ℕ → List ℕ → List ℕ
strip_at byte k zs = cond (slice_index zs k == byte) (take k zs) zs

stripped : (byte z : ℕ) (zs : List ℕ) → strip_last byte (z ∷ zs) ≡ strip_at byte (length zs) (z ∷ zs)
stripped byte z zs =
    let all = z ∷ zs in
    let some : nat_lt 0 (length all) ≡ true = lt-ltb 0 (length all) (omega arith) in
    let last : length all - 1 ≡ length zs = omega arith in
    ap (λ b. cond (b && (slice_index all (length all - 1) == byte)) (take (length all - 1) all) all) some
    ∙ ap (λ k. strip_at byte k all) last

cons_cond : (x : ℕ) (b : Bool) (ys zs : List ℕ) → cond b (x ∷ ys) (x ∷ zs) ≡ x ∷ cond b ys zs
cons_cond x true ys zs = refl
cons_cond x false ys zs = refl

-- the first of several bytes stays before what is left of the others
stripped_cons : (byte x y : ℕ) (ys : List ℕ) → strip_last byte (x ∷ y ∷ ys) ≡ x ∷ strip_last byte (y ∷ ys)
stripped_cons byte x y ys =
    stripped byte x (y ∷ ys)
    ∙ cons_cond x (slice_index (y ∷ ys) (length ys) == byte) (take (length ys) (y ∷ ys)) (y ∷ ys)
    ∙ ap (λ l. x ∷ l) (sym (stripped byte y ys))

stripped_either : (x y : ℕ) (b : Bool) (ys : List ℕ)
    → strip_last 10 (x ∷ cond b (y ∷ []) (y ∷ ys)) ≡ x ∷ strip_last 10 (cond b (y ∷ []) (y ∷ ys))
stripped_either x y true ys = stripped_cons 10 x y []
stripped_either x y false ys = stripped_cons 10 x y ys

stripped_one : (x : ℕ) (b : Bool) → (x == 10) ≡ b → strip_last 10 (x ∷ []) ≡ cond b [] (x ∷ [])
stripped_one x b is = stripped 10 x [] ∙ ap (λ c. cond c [] (x ∷ [])) is

begun : (x : ℕ) (xs : List ℕ) (b : Bool) → (x == 10) ≡ b
    → cond b ([] ∷ lines_of xs) (before_first x (lines_of xs))
    ≡ strip_last 10 (cond b (x ∷ []) (x ∷ take_through 10 xs)) ∷ lines_of (cond b xs (drop_through 10 xs))
begun x xs true is = ap (λ l. l ∷ lines_of xs) (sym (stripped_one x true is))
begun x [] false is = ap (λ l. l ∷ []) (sym (stripped_one x false is))
begun x (y ∷ xs) false is =
    ap (before_first x) (begun y xs (y == 10) refl)
    ∙ ap (λ l. l ∷ lines_of (drop_through 10 (y ∷ xs))) (sym (stripped_either x y (y == 10) (take_through 10 xs)))

-- the lines of some bytes are the first piece that a line feed ends, and the lines behind it
pub lines_begin : (bytes : List ℕ) → 0 < length bytes
    → lines_of bytes ≡ first_piece 10 bytes ∷ lines_of (drop_through 10 bytes)
lines_begin [] some = absurd (omega arith)
lines_begin (x ∷ xs) some = begun x xs (x == 10) refl
