-- Texts that grow by a piece for each element of a list.
use Rattle.std.proofs.Common.{◌≡◌, ℕ, zero, suc, ◌+◌, ◌<◌, ◌≤◌, List, [], ◌∷◌, ◌++◌, length, get_or, take, append_assoc, zero-add, add-one, ap, sym, ◌∙◌, slice_get, encode_utf8, encode_utf8_all, arith}
use Rattle.std.specs.List.{flat_map, enumerate_from}
use Rattle.std.specs.Option.{option_map_or}
use Rattle.std.proofs.lemmas.List.{take_more, take_all, flat_map_more, append-nil}
use Rattle.std.proofs.lemmas.List.FromFn.{length-enumerate_from, get_or-enumerate_from}
use Rattle.std.proofs.lemmas.Str.{encodes-append}

-- behind the pieces so far comes that of the next element
pub piece_more : {X : Type 0} (piece : X → List ℕ) (xs : List X) (i : ℕ) (d : X) (first before after : List ℕ) → i < length xs
    → before ≡ first ++ flat_map piece (take i xs) → after ≡ before ++ piece (get_or xs i d)
    → after ≡ first ++ flat_map piece (take (i + 1) xs)
piece_more piece xs i d first before after within so_far more =
    more ∙ ap (λ ys. ys ++ piece (get_or xs i d)) so_far
    ∙ flat_map_more piece first (take i xs) (get_or xs i d)
    ∙ ap (λ ys. first ++ flat_map piece ys) (sym (take_more xs i d within))

-- behind the text of the letters so far comes the next one
pub letter_more : (cs : List ℕ) (i c : ℕ) (before after : List ℕ) → i < length cs → c ≡ get_or cs i c
    → before ≡ encode_utf8_all (take i cs) → after ≡ before ++ encode_utf8 c
    → after ≡ encode_utf8_all (take (i + 1) cs)
letter_more cs i c before after within is so_far more =
    more ∙ ap (λ ys. ys ++ encode_utf8 c) so_far
    ∙ ap (λ ys. encode_utf8_all (take i cs) ++ ys) (sym (append-nil (encode_utf8 c)))
    ∙ sym (encodes-append (take i cs) (c ∷ []))
    ∙ ap (λ d. encode_utf8_all (take i cs ++ d ∷ [])) is
    ∙ ap encode_utf8_all (sym (take_more cs i c within))

-- behind the pieces of numbered elements so far comes that of the next one
pub numbered_piece_more : {X : Type 0} (piece : ℕ × X → List ℕ) (xs : List X) (i : ℕ) (x : X) → i < length xs → x ≡ get_or xs i x
    → flat_map piece (take i (enumerate_from 0 xs)) ++ piece (i, x) ≡ flat_map piece (take (i + 1) (enumerate_from 0 xs))
numbered_piece_more {X} piece xs i x within is =
    let counted = length-enumerate_from 0 xs in
    let inside : i < length (enumerate_from 0 xs) = omega arith in
    let here : get_or (enumerate_from 0 xs) i (i, x) ≡ (i, x) =
    get_or-enumerate_from 0 xs i (i, x) within ∙ ap (λ k. (k, get_or xs i x)) (zero-add i) ∙ ap (λ y. (i, y)) (sym is) in
    flat_map_more piece [] (take i (enumerate_from 0 xs)) (i, x)
    ∙ ap (λ p. flat_map piece (take i (enumerate_from 0 xs) ++ p ∷ [])) (sym here)
    ∙ ap (flat_map piece) (sym (take_more (enumerate_from 0 xs) i (i, x) inside))

-- in the end all are there
pub all_numbered : {X : Type 0} (xs : List X) (i : ℕ) → length xs ≤ i → take i (enumerate_from 0 xs) ≡ enumerate_from 0 xs
all_numbered xs i over =
    let counted = length-enumerate_from 0 xs in
    let past : length (enumerate_from 0 xs) ≤ i = omega arith in
    take_all i (enumerate_from 0 xs) past

-- behind the pieces so far comes that at the next index
pub piece_at_more : {X : Type 0} (piece : X → List ℕ) (xs : List X) (i : ℕ) → i < length xs
    → flat_map piece (take i xs) ++ option_map_or piece (slice_get xs i) [] ≡ flat_map piece (take (i + 1) xs)
piece_at_more {X = X} piece xs i within = go xs i within ∙ ap (λ k. flat_map piece (take k xs)) (sym (add-one i))
  where
    go : (xs : List X) (i : ℕ) → i < length xs
        → flat_map piece (take i xs) ++ option_map_or piece (slice_get xs i) [] ≡ flat_map piece (take (suc i) xs)
    go [] i within = absurd (omega arith)
    go (x ∷ xs) zero within = sym (append-nil (piece x))
    go (x ∷ xs) (suc i) within =
        append_assoc (piece x) (flat_map piece (take i xs)) (option_map_or piece (slice_get xs i) [])
        ∙ ap (λ ys. piece x ++ ys) (go xs i (omega arith))
