-- The last byte that is no blank, a byte at a time.
use Rattle.std.proofs.Common.{◌≡◌, ℕ, ◌+◌, ◌<◌, List, length, get_or, take, true, false, ap, ◌∙◌}
use Rattle.std.specs.Prelude.{reverse, if◌then◌else◌}
use Rattle.facet_solver_json.specs.Reasons.{first_byte, is_blank}
use Rattle.facet_solver_json.proofs.Columns.{last_first}

module _ (xs : List ℕ) (i : ℕ) (h : i < length xs) where
  pub last-blank : is_blank (get_or xs i 0) ≡ true → first_byte (reverse (take (i + 1) xs)) ≡ first_byte (reverse (take i xs))
  last-blank blank =
      ap first_byte (last_first xs i h) ∙ ap (λ b. if b then first_byte (reverse (take i xs)) else get_or xs i 0) blank

  pub last-other : is_blank (get_or xs i 0) ≡ false → first_byte (reverse (take (i + 1) xs)) ≡ get_or xs i 0
  last-other other =
      ap first_byte (last_first xs i h) ∙ ap (λ b. if b then first_byte (reverse (take i xs)) else get_or xs i 0) other
