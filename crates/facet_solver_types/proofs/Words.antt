-- A word, a byte at a time.
use Rattle.std.specs.Prelude.{slice_index}
use Rattle.std.specs.Char.{is_ascii_digit}
use Rattle.std.proofs.lemmas.Bool.Decides.{nat_tests}
use Rattle.std.proofs.Common.{◌≡◌, ℕ, suc, ◌+◌, ◌<◌, true, false, List, [], ◌∷◌, length, get_or, drop, cond, refl, ap, ◌∙◌, arith, add-one, drop-cons}
use Rattle.facet_solver_types.specs.Characters.{blank_len, continues_name, word_len}

word_len_goes : (bytes : List ℕ) (b : ℕ) → continues_name (b ∷ bytes) ≡ true → word_len (b ∷ bytes) ≡ suc (word_len bytes)
word_len_goes bytes b goes = ap (λ t. cond t (suc (word_len bytes)) 0) goes

-- a word goes on after a byte that continues it
pub word_len_more : (text : List ℕ) (at : ℕ) → at < length text → continues_name (drop at text) ≡ true → at + 1 + word_len (drop (at + 1) text) ≡ at + word_len (drop at text)
word_len_more text at within goes =
    let here : drop at text ≡ get_or text at 0 ∷ drop (at + 1) text = rw (add-one, drop-cons text at 0) refl in
    let more : word_len (drop at text) ≡ suc (word_len (drop (at + 1) text)) =
    ap word_len here ∙ word_len_goes (drop (at + 1) text) (get_or text at 0) (rw (← here) goes) in
    omega (arith, more)

-- a word ends before a byte that does not continue it
pub word_len_none : (text : List ℕ) → continues_name text ≡ false → word_len text ≡ 0
word_len_none [] ends = refl
word_len_none (b ∷ bytes) ends = ap (λ t. cond t (suc (word_len bytes)) 0) ends

-- a word that begins has some bytes
pub word_len_some : (text : List ℕ) → continues_name text ≡ true → 0 < word_len text
unfolding continues_name blank_len
word_len_some [] begins = absurd (cc)
word_len_some (b ∷ bytes) begins = omega (arith, word_len_goes bytes b begins)

-- where a name goes on, there is a byte
pub some_byte : (text : List ℕ) → continues_name text ≡ true → 0 < length text
unfolding continues_name blank_len
some_byte [] begins = absurd (cc)
some_byte (b ∷ bytes) begins = omega arith

-- a digit continues a name
pub digit_continues : (text : List ℕ) → is_ascii_digit (slice_index text 0) ≡ true → continues_name text ≡ true
unfolding continues_name
digit_continues text digit = grind (arith, nat_tests)
