-- Texts that grow by a line for each element of a list.
use Rattle.std.proofs.Common.{◌≡◌, ℕ, zero, suc, ◌+◌, ◌<◌, List, [], ◌∷◌, ◌++◌, length, take, append_assoc, add-one, ap, sym, ◌∙◌, slice_get, arith}
use Rattle.std.specs.List.{flat_map}
use Rattle.std.specs.Option.{option_map_or}
use Rattle.std.proofs.lemmas.List.{append-nil}

-- behind the lines so far comes that at the next index
pub line_at_more : {X : Type 0} (line : X → List ℕ) (xs : List X) (i : ℕ) → i < length xs
    → flat_map line (take i xs) ++ option_map_or line (slice_get xs i) [] ≡ flat_map line (take (i + 1) xs)
line_at_more {X = X} line xs i within = go xs i within ∙ ap (λ k. flat_map line (take k xs)) (sym (add-one i))
  where
    go : (xs : List X) (i : ℕ) → i < length xs
        → flat_map line (take i xs) ++ option_map_or line (slice_get xs i) [] ≡ flat_map line (take (suc i) xs)
    go [] i within = absurd (omega arith)
    go (x ∷ xs) zero within = sym (append-nil (line x))
    go (x ∷ xs) (suc i) within =
        append_assoc (line x) (flat_map line (take i xs)) (option_map_or line (slice_get xs i) [])
        ∙ ap (λ ys. line x ++ ys) (go xs i (omega arith))
