-- A text may be cut round what stands first in it.
use Rattle.std.proofs.Common.{◌≡◌, ℕ, zero, suc, ◌+◌, ◌<◌, ◌≤◌, Bool, true, false, ◌&&◌, ◌||◌, ◌==◌, cond, List, [], ◌∷◌, ◌++◌, length, get_or, drop, Option, Some, None, Result, Ok, Err, IfOk, refl, ap, sym, ◌∙◌, subst, arith, get_or-drop}
use Rattle.std.specs.Prelude.{not, nat_le, slice_index, encode_utf8}
use Rattle.std.specs.Char.{len_utf8}
use Rattle.std.specs.Char.{is_ascii_digit}
use Rattle.std.proofs.Common.{inl, inr}
use Rattle.std.proofs.str.Laws.{order}
use lib.Utf8.{encode}
use Rattle.std.specs.List.{prefix_len}
use Rattle.std.specs.Option.{ok_or}
use Rattle.std.specs.Str.{IsUtf8, IsCharBoundary}
use Rattle.std.proofs.lemmas.Bool.Decides.{nat_tests}
use Rattle.std.proofs.lemmas.List.Sums.{prefix_len-le-length}
use Rattle.std.proofs.lemmas.Str.{IsCharBoundary-start, IsCharBoundary-before_ascii, IsCharBoundary-after_ascii, IsCharBoundary-from_rest, IsCharBoundary-past_char}
use Rattle.facet_solver_types.specs.declared.problem.Problem.{Problem}
use Rattle.facet_solver_types.specs.declared.problem.Problem.TheVariants.{OpenComment}
use Rattle.facet_solver_types.specs.declared.token.TokenKind.{TokenKind}
use Rattle.facet_solver_types.specs.declared.tokens.spelling.Spelling.{Spelling}
use Rattle.facet_solver_types.specs.declared.tokens.texts.Opening.{Opening}
use Rattle.facet_solver_types.specs.Characters.{begins_name, blank_len, is_late_blank, word_len}
use Rattle.facet_solver_types.specs.Closings.{closing, comment_end, hashes, line_end, raw_closing}
use Rattle.facet_solver_types.specs.FirstParts.{MayCut, first_part, first_token, gap_len, part_after, spelled}
use Rattle.facet_solver_types.specs.MarkTokens.{if_token, mark, single}
use Rattle.facet_solver_types.specs.Spellings.{IsCut, whole}
use Rattle.facet_solver_types.specs.Texts.{begins_character, begins_text, character, character_len, character_until, opening_of, text_token, text_until}
use Rattle.facet_solver_types.specs.Words.{begins_lifetime, begins_raw_name, lifetime, raw_name}
use Rattle.facet_solver_types.proofs.Boundaries.{word_cut}
use Rattle.facet_solver_types.proofs.Ends.{closing_stands, comment_ended, last_hash, line_ended, raw_closing_stands, stands_in}

-- a fact of both outcomes of a test
either : {A E : Type 0} (P : A → Type 0) (t : Bool) (a b : Result A E) → (t ≡ true → IfOk a P) → (t ≡ false → IfOk b P) → IfOk (cond t a b) P
either P true a b holds fails = holds refl
either P false a b holds fails = fails refl

some_at : (text : List ℕ) (i byte : ℕ) → 0 < byte → get_or text i 0 ≡ byte → i < length text
some_at [] i byte some is = absurd (omega arith)
some_at (b ∷ bytes) zero byte some is = omega arith
some_at (b ∷ bytes) (suc i) byte some is = let more = some_at bytes i byte some is in omega arith

-- a text by its first bytes
two_bytes : (text : List ℕ) (a b : ℕ) → 0 < a → 0 < b → get_or text 0 0 ≡ a → get_or text 1 0 ≡ b → text ≡ (a ∷ b ∷ []) ++ drop 2 text
two_bytes [] a b some next first second = absurd (omega arith)
two_bytes (x ∷ []) a b some next first second = absurd (omega arith)
two_bytes (x ∷ y ∷ rest) a b some next first second = cc

three_bytes : (text : List ℕ) (a b c : ℕ) → 0 < a → 0 < b → 0 < c → get_or text 0 0 ≡ a → get_or text 1 0 ≡ b → get_or text 2 0 ≡ c → text ≡ (a ∷ b ∷ c ∷ []) ++ drop 3 text
three_bytes [] a b c some next last first second third = absurd (omega arith)
three_bytes (x ∷ []) a b c some next last first second third = absurd (omega arith)
three_bytes (x ∷ y ∷ []) a b c some next last first second third = absurd (omega arith)
three_bytes (x ∷ y ∷ z ∷ rest) a b c some next last first second third = cc

-- one of four tests has held
one_of : {P : Type 0} (p q r s : Bool) → (p || q || r || s) ≡ true → (p ≡ true → P) → (q ≡ true → P) → (r ≡ true → P) → (s ≡ true → P) → P
one_of true q r s some at_p at_q at_r at_s = at_p refl
one_of false true r s some at_p at_q at_r at_s = at_q refl
one_of false false true s some at_p at_q at_r at_s = at_r refl
one_of false false false true some at_p at_q at_r at_s = at_s refl
one_of false false false false some at_p at_q at_r at_s = absurd (cc)

module _ (text : List ℕ) (utf8 : IsUtf8 text) where
  -- after a byte of ASCII
  after : (i byte : ℕ) → 0 < byte → byte < 128 → get_or text i 0 ≡ byte → IsCharBoundary text (i + 1)
  after i byte some ascii is = IsCharBoundary-after_ascii text i utf8 (some_at text i byte some is) (omega (arith, is))

  -- a token that is its own text
  cut_whole : (kind : TokenKind) (len : ℕ) → IsCharBoundary text len → IsCut text (whole kind len)
  cut_whole kind len ends = record { start = IsCharBoundary-start text utf8; end = ends; len = ends }

  -- ---- texts

  plain : (opening_of text).raw ≡ false → (opening_of text).hashes ≡ 0
  unfolding opening_of
  plain fails = ap (λ t. cond t (hashes (drop (cond t (cond (slice_index text 0 == 98 || slice_index text 0 == 99) 1 0 + 1) (cond (slice_index text 0 == 98 || slice_index text 0 == 99) 1 0)) text)) 0) fails

  raw_cut : (front : Opening) (o : Option ℕ) → get_or text front.quote 0 ≡ 34 → raw_closing front.hashes (front.quote + 1) (drop (front.quote + 1) text) ≡ o → IfOk (text_until front o) (IsCut text)
  raw_cut front None quote e = tt
  raw_cut front (Some at) quote e =
      let start = front.quote + 1 in
      let inside = some_at text front.quote 34 (omega arith) quote in
      let last = last_hash text front.hashes start at (omega arith) (raw_closing_stands front.hashes start (drop start text) at e) in
      let ends = IsCharBoundary-after_ascii text (at + front.hashes) utf8 last.0 last.1 in
      let same : at + front.hashes + 1 ≡ at + 1 + front.hashes = omega arith in
      record {
        start = after front.quote 34 (omega arith) (omega arith) quote;
        end = IsCharBoundary-before_ascii text at (omega (arith, last.0)) (omega (arith, last.2));
        len = subst (IsCharBoundary text) same ends;
      }

  escaped_cut : (front : Opening) (o : Option ℕ) → get_or text front.quote 0 ≡ 34 → front.hashes ≡ 0 → closing 34 false (front.quote + 1) (drop (front.quote + 1) text) ≡ o → IfOk (text_until front o) (IsCut text)
  escaped_cut front None quote none e = tt
  escaped_cut front (Some at) quote none e =
      let start = front.quote + 1 in
      let inside = some_at text front.quote 34 (omega arith) quote in
      let last = stands_in 34 text start at (omega arith) (closing_stands 34 false start (drop start text) at e) in
      let same : at + 1 ≡ at + 1 + front.hashes = omega arith in
      record {
        start = after front.quote 34 (omega arith) (omega arith) quote;
        end = IsCharBoundary-before_ascii text at last.0 (omega (arith, last.1));
        len = subst (IsCharBoundary text) same (after at 34 (omega arith) (omega arith) last.1);
      }

  until_cond : (front : Opening) (t : Bool) (a b : Option ℕ) → (t ≡ true → IfOk (text_until front a) (IsCut text)) → (t ≡ false → IfOk (text_until front b) (IsCut text)) → IfOk (text_until front (cond t a b)) (IsCut text)
  until_cond front true a b holds fails = holds refl
  until_cond front false a b holds fails = fails refl

  text_cut : begins_text text ≡ true → IfOk (text_token text) (IsCut text)
  unfolding text_token
  text_cut begins =
      let front = opening_of text in
      let quote : get_or text front.quote 0 ≡ 34 = grind (arith, nat_tests, begins) in
      until_cond front front.raw _ _ (λ raw. raw_cut front _ quote refl) (λ fails. escaped_cut front _ quote (plain fails) refl)

  -- ---- characters

  quoted_cut : (from : ℕ) (o : Option ℕ) → from ≤ length text → closing 39 false from (drop from text) ≡ o → IfOk (character_until o) (IsCut text)
  quoted_cut from None inside e = tt
  quoted_cut from (Some at) inside e =
      let last = stands_in 39 text from at inside (closing_stands 39 false from (drop from text) at e) in
      cut_whole _ (at + 1) (after at 39 (omega arith) (omega arith) last.1)

  character_cut : (at : ℕ) → begins_character at text ≡ true → IfOk (character at text) (IsCut text)
  unfolding begins_character character
  character_cut at begins =
      let first = slice_index text (at + 1) in
      let quote : get_or text at 0 ≡ 39 = grind (arith, nat_tests, begins) in
      let inside = some_at text at 39 (omega arith) quote in
      either (IsCut text) (first == 92) _ _ (λ escaped. quoted_cut (at + 1) _ (omega arith) refl)
      (λ other.
      let closes : get_or text (at + 1 + character_len first) 0 ≡ 39 = grind (arith, nat_tests, begins, other) in
      let same : at + 1 + character_len first + 1 ≡ at + 2 + character_len first = omega arith in
      cut_whole _ (at + 2 + character_len first) (subst (IsCharBoundary text) same (after (at + 1 + character_len first) 39 (omega arith) (omega arith) closes)))

  -- ---- words

  lifetime_cut : begins_lifetime text ≡ true → IsCut text (lifetime text)
  lifetime_cut begins =
      let quote : get_or text 0 0 ≡ 39 = grind (arith, nat_tests, begins) in
      let some = some_at text 0 39 (omega arith) quote in
      cut_whole _ (1 + word_len (drop 1 text)) (IsCharBoundary-from_rest text 1 (word_len (drop 1 text)) (omega arith) (word_cut (drop 1 text)))

  raw_name_cut : begins_raw_name text ≡ true → IsCut text (raw_name text)
  raw_name_cut begins =
      let hash : get_or text 1 0 ≡ 35 = grind (arith, nat_tests, begins) in
      let some = some_at text 1 35 (omega arith) hash in
      let ends = IsCharBoundary-from_rest text 2 (word_len (drop 2 text)) (omega arith) (word_cut (drop 2 text)) in
      record { start = after 1 35 (omega arith) (omega arith) hash; end = ends; len = ends }

  -- ---- marks

  one_cut : (byte : ℕ) (o : Option TokenKind) → 0 < length text → get_or text 0 0 < 128 → IfOk (if_token byte o) (IsCut text)
  one_cut byte None some ascii = tt
  one_cut byte (Some kind) some ascii = cut_whole kind 1 (IsCharBoundary-after_ascii text 0 utf8 some ascii)

  single_ascii : (byte : ℕ) → 128 ≤ byte → single byte ≡ None
  single_ascii byte high = grind (arith, nat_tests)

  single_cut : 0 < length text → IfOk (if_token (slice_index text 0) (single (slice_index text 0))) (IsCut text)
  single_cut some =
      elim (order (get_or text 0 0) 128) [
        | inl ascii ↦ one_cut (slice_index text 0) (single (slice_index text 0)) some ascii
        | inr high ↦ subst (λ o. IfOk (if_token (slice_index text 0) o) (IsCut text)) (sym (single_ascii (slice_index text 0) high)) tt
      ]

  two_cut : (kind : TokenKind) (byte : ℕ) → 0 < byte → byte < 128 → get_or text 1 0 ≡ byte → IsCut text (whole kind 2)
  two_cut kind byte some ascii is = cut_whole kind 2 (after 1 byte some ascii is)

  mark_cut : 0 < length text → IfOk (mark text) (IsCut text)
  unfolding mark
  mark_cut some =
      let first = slice_index text 0 in
      let second = slice_index text 1 in
      either (IsCut text) (first == 58 && second == 58) _ _ (λ is. two_cut _ 58 (omega arith) (omega arith) (grind (arith, nat_tests, is)))
      (λ fails. either (IsCut text) (first == 45 && second == 62) _ _ (λ is. two_cut _ 62 (omega arith) (omega arith) (grind (arith, nat_tests, is)))
      (λ fails. either (IsCut text) (first == 61 && second == 62) _ _ (λ is. two_cut _ 62 (omega arith) (omega arith) (grind (arith, nat_tests, is)))
      (λ fails. single_cut some)))

  -- ---- tokens

  pub token_cut : 0 < length text → IfOk (first_token text) (IsCut text)
  unfolding first_token
  token_cut some =
      let first = slice_index text 0 in
      either (IsCut text) (begins_text text) _ _ text_cut
      (λ fails. either (IsCut text) (begins_character 0 text) _ _ (character_cut 0)
      (λ fails. either (IsCut text) (first == 98 && begins_character 1 text) _ _ (λ is. character_cut 1 (grind (arith, nat_tests, is)))
      (λ fails. either (IsCut text) (begins_lifetime text) _ _ lifetime_cut
      (λ fails. either (IsCut text) (begins_raw_name text) _ _ raw_name_cut
      (λ fails. either (IsCut text) (begins_name text) _ _ (λ is. cut_whole _ (word_len text) (word_cut text))
      (λ fails. either (IsCut text) (is_ascii_digit first) _ _ (λ is. cut_whole _ (word_len text) (word_cut text))
      (λ fails. mark_cut some)))))))

  -- ---- blanks and comments

  past_blank : (c : ℕ) (rest : List ℕ) → text ≡ encode_utf8 c ++ rest → IsCharBoundary text (0 + len_utf8 c)
  past_blank c rest is = IsCharBoundary-past_char text rest 0 c (omega arith) utf8 is

  boundary_if : (t : Bool) (m n : ℕ) → (t ≡ true → IsCharBoundary text m) → (t ≡ false → IsCharBoundary text n) → IsCharBoundary text (cond t m n)
  boundary_if true m n holds fails = holds refl
  boundary_if false m n holds fails = fails refl

  late_blank : get_or text 0 0 ≡ 0xe2 → get_or text 1 0 ≡ 0x80 → is_late_blank (get_or text 2 0) ≡ true → IsCharBoundary text 3
  unfolding encode
  late_blank first second late =
      let third = get_or text 2 0 in
      let bytes = λ (b : ℕ) (is : third ≡ b) (some : 0 < b). three_bytes text 0xe2 0x80 b (omega arith) (omega arith) some first second is in
      one_of (third == 0x8e) (third == 0x8f) (third == 0xa8) (third == 0xa9) late
      (λ is. past_blank 0x200e (drop 3 text) (bytes 0x8e (grind (arith, nat_tests, is)) (omega arith)))
      (λ is. past_blank 0x200f (drop 3 text) (bytes 0x8f (grind (arith, nat_tests, is)) (omega arith)))
      (λ is. past_blank 0x2028 (drop 3 text) (bytes 0xa8 (grind (arith, nat_tests, is)) (omega arith)))
      (λ is. past_blank 0x2029 (drop 3 text) (bytes 0xa9 (grind (arith, nat_tests, is)) (omega arith)))

  blank_cut : IsCharBoundary text (blank_len text)
  unfolding blank_len encode
  blank_cut =
      let first = slice_index text 0 in
      let second = slice_index text 1 in
      let third = slice_index text 2 in
      boundary_if (first == 32 || (nat_le 9 first && nat_le first 13)) _ _
      (λ is. IsCharBoundary-after_ascii text 0 utf8 (some_at text 0 first (grind (arith, nat_tests, is)) refl) (grind (arith, nat_tests, is)))
      (λ fails. boundary_if (first == 0xc2 && second == 0x85) _ _
      (λ is. past_blank 0x85 (drop 2 text) (two_bytes text 0xc2 0x85 (omega arith) (omega arith) (grind (arith, nat_tests, is)) (grind (arith, nat_tests, is))))
      (λ fails. boundary_if (first == 0xe2 && second == 0x80 && is_late_blank third) _ _
      (λ is. late_blank (grind (arith, nat_tests, is)) (grind (arith, nat_tests, is)) (grind (arith, nat_tests, is)))
      (λ fails. IsCharBoundary-start text utf8)))

  comment_cut : (o : Option ℕ) → 2 ≤ length text → comment_end 0 false 2 (drop 2 text) ≡ o → IfOk (ok_or o OpenComment) (IsCharBoundary text)
  comment_cut None inside e = tt
  comment_cut (Some end) inside e =
      let last = comment_ended 0 false 2 (drop 2 text) end e in
      let slash : get_or text (2 + last.0) 0 ≡ 47 = sym (get_or-drop 2 text last.0 0) ∙ last.3 in
      let same : 2 + last.0 + 1 ≡ end = omega (arith, last.1) in
      subst (IsCharBoundary text) same (after (2 + last.0) 47 (omega arith) (omega arith) slash)

  line_cut : 2 ≤ length text → IsCharBoundary text (line_end 2 (drop 2 text))
  line_cut inside =
      let rest = drop 2 text in
      let n = prefix_len (λ byte. not (byte == 10)) rest in
      IsCharBoundary-from_rest text 2 n inside (prefix_len-le-length (λ byte. not (byte == 10)) rest, λ within high. absurd (omega (arith, line_ended rest within)))

  pub gap_cut : IfOk (gap_len text) (IsCharBoundary text)
  unfolding gap_len
  gap_cut =
      let first = slice_index text 0 in
      let second = slice_index text 1 in
      either (IsCharBoundary text) (first == 47 && second == 47) _ _
      (λ is. let there = some_at text 1 47 (omega arith) (grind (arith, nat_tests, is)) in line_cut (omega arith))
      (λ fails. either (IsCharBoundary text) (first == 47 && second == 42) _ _
      (λ is. let there = some_at text 1 42 (omega arith) (grind (arith, nat_tests, is)) in comment_cut _ (omega arith) refl)
      (λ fails. blank_cut))

  spelled_cut : (r : Result Spelling Problem) → IfOk r (IsCut text) → IfOk (spelled r) (MayCut text)
  spelled_cut (Ok token) cut = cut
  spelled_cut (Err problem) cut = tt

  part_cut : (r : Result ℕ Problem) → 0 < length text → IfOk r (IsCharBoundary text) → IfOk (part_after text r) (MayCut text)
  part_cut (Err problem) some cut = tt
  part_cut (Ok len) some cut = either (MayCut text) (len == 0) _ _ (λ is. spelled_cut (first_token text) (token_cut some)) (λ fails. cut)

  -- a text may be cut round what stands first in it
  pub first_part_cut : 0 < length text → IfOk (first_part text) (MayCut text)
  unfolding first_part
  first_part_cut some = part_cut (gap_len text) some gap_cut
