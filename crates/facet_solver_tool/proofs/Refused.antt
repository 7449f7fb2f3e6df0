-- The line of JSON where memory was refused.
use Rattle.std.proofs.Common.{◌≡◌, ◌∙◌, ◌++◌, ◌<◌, ℕ, zero, suc, List, [], ◌∷◌, ap, codes, refl, arith}
use Rattle.std.proofs.lemmas.Fmt.{decimal_digit}
use Rattle.std.proofs.lemmas.Str.{chars-IsAscii, encode_ascii}
use Rattle.std.specs.List.{flat_map}
use Rattle.std.specs.Str.{IsAscii}
use Rattle.facet_solver_tool.specs.Answer.{refused}
use Rattle.facet_solver_tool.specs.Lines.{answer_line}
use Rattle.facet_solver_tool.specs.QuotedText.{between_quotes, escaped}

-- the text of a refusal
abbrev text : List ℕ
text = codes "out of memory"

-- each byte is a letter or a blank
data AreLetters : List ℕ → Type 0 where
  none : AreLetters []
  more : (b : ℕ) (bs : List ℕ) → b < 128 → escaped b ≡ b ∷ [] → AreLetters bs → AreLetters (b ∷ bs)

ascii : (bs : List ℕ) → AreLetters bs → IsAscii bs
ascii bs none i = omega arith
ascii bs (more b rest small plain letters) zero = small
ascii bs (more b rest small plain letters) (suc i) = ascii rest letters i

escaped_letters : (bs : List ℕ) → AreLetters bs → flat_map escaped bs ≡ bs
escaped_letters bs none = refl
escaped_letters bs (more b rest small plain letters) =
    ap (λ l. l ++ flat_map escaped rest) plain ∙ ap (λ l. b ∷ l) (escaped_letters rest letters)

are_letters : AreLetters text
are_letters =
    more 111 _ (omega arith) (encode_ascii 111 (omega arith)) (
    more 117 _ (omega arith) (encode_ascii 117 (omega arith)) (
    more 116 _ (omega arith) (encode_ascii 116 (omega arith)) (
    more 32 _ (omega arith) (encode_ascii 32 (omega arith)) (
    more 111 _ (omega arith) (encode_ascii 111 (omega arith)) (
    more 102 _ (omega arith) (encode_ascii 102 (omega arith)) (
    more 32 _ (omega arith) (encode_ascii 32 (omega arith)) (
    more 109 _ (omega arith) (encode_ascii 109 (omega arith)) (
    more 101 _ (omega arith) (encode_ascii 101 (omega arith)) (
    more 109 _ (omega arith) (encode_ascii 109 (omega arith)) (
    more 111 _ (omega arith) (encode_ascii 111 (omega arith)) (
    more 114 _ (omega arith) (encode_ascii 114 (omega arith)) (
    more 121 _ (omega arith) (encode_ascii 121 (omega arith)) none))))))))))))

between : between_quotes text ≡ text
between =
    ap (flat_map escaped) (chars-IsAscii text (ascii text are_letters)) ∙ escaped_letters text are_letters

-- it is this
pub refused_line : answer_line refused ≡ codes "{\"status\": 5, \"error\": \"out of memory\"}\n"
refused_line =
    ap (λ d. codes "{\"status\": " ++ (d ++ (codes ", \"error\": " ++ ((codes "\"" ++ (between_quotes text ++ codes "\"")) ++ codes "}\n"))))
    (decimal_digit 5 (omega arith))
    ∙ ap (λ t. codes "{\"status\": 5, \"error\": " ++ ((codes "\"" ++ (t ++ codes "\"")) ++ codes "}\n")) between
