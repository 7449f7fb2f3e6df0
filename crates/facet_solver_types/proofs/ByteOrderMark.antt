-- A text may be cut after a byte order mark.
use Rattle.std.proofs.Common.{◌≡◌, ℕ, true, List, [], ◌∷◌, arith}
use Rattle.std.specs.Prelude.{nat_eq}
use lib.Utf8.{encode}
use Rattle.std.specs.List.{starts_with}
use Rattle.std.specs.Str.{IsCharBoundary, IsUtf8}
use Rattle.std.proofs.lemmas.Bool.Decides.{nat_tests}
use Rattle.std.proofs.lemmas.Str.{IsCharBoundary-past_char}
use Rattle.facet_solver_types.specs.Places.{byte_order_mark}

pub after_mark : (text : List ℕ) → IsUtf8 text → starts_with nat_eq text byte_order_mark ≡ true → IsCharBoundary text 3
unfolding encode
after_mark [] utf8 marked = absurd (cc)
after_mark (x ∷ []) utf8 marked = absurd (grind (arith, nat_tests))
after_mark (x ∷ y ∷ []) utf8 marked = absurd (grind (arith, nat_tests))
after_mark (x ∷ y ∷ z ∷ rest) utf8 marked =
    let first : x ≡ 0xef = grind (arith, nat_tests) in
    let second : y ≡ 0xbb = grind (arith, nat_tests) in
    let third : z ≡ 0xbf = grind (arith, nat_tests) in
    IsCharBoundary-past_char (x ∷ y ∷ z ∷ rest) rest 0 0xfeff (omega arith) utf8 (cc)
