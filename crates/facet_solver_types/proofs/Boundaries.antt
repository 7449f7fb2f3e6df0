-- Where a text may be cut: where a word ends, and beside a byte of ASCII.
use Rattle.std.proofs.Common.{◌≡◌, ℕ, suc, ◌<◌, ◌≤◌, Bool, true, false, cond, List, [], ◌∷◌, length, get_or, drop, refl, ap, ◌∙◌, arith, add-zero, get_or-drop}
use Rattle.std.specs.Str.{IsCharBoundary}
use Rattle.std.proofs.lemmas.Bool.Decides.{nat_tests}
use Rattle.facet_solver_types.specs.Characters.{blank_len, continues_name, word_len}

-- where no name goes on, a character begins
stop_lead : (text : List ℕ) → continues_name text ≡ false → 128 ≤ get_or text 0 0 → 192 ≤ get_or text 0 0
unfolding continues_name blank_len
stop_lead text stops high = grind (arith, nat_tests)

word_stops_by : (b : ℕ) (bytes : List ℕ) → (word_len bytes < length bytes → continues_name (drop (word_len bytes) bytes) ≡ false) → (t : Bool) → continues_name (b ∷ bytes) ≡ t → word_len (b ∷ bytes) < length (b ∷ bytes) → continues_name (drop (word_len (b ∷ bytes)) (b ∷ bytes)) ≡ false
word_stops_by b bytes later true goes within =
    let one : word_len (b ∷ bytes) ≡ suc (word_len bytes) = ap (λ t. cond t (suc (word_len bytes)) 0) goes in
    ap (λ n. continues_name (drop n (b ∷ bytes))) one ∙ later (omega (arith, one))
word_stops_by b bytes later false stops within =
    let none : word_len (b ∷ bytes) ≡ 0 = ap (λ t. cond t (suc (word_len bytes)) 0) stops in
    ap (λ n. continues_name (drop n (b ∷ bytes))) none ∙ stops

-- a word ends at what does not continue it
word_stops : (text : List ℕ) → word_len text < length text → continues_name (drop (word_len text) text) ≡ false
word_stops [] within = absurd (omega arith)
word_stops (b ∷ bytes) within = word_stops_by b bytes (word_stops bytes) (continues_name (b ∷ bytes)) refl within

word_within_by : (b : ℕ) (bytes : List ℕ) → word_len bytes ≤ length bytes → (t : Bool) → continues_name (b ∷ bytes) ≡ t → word_len (b ∷ bytes) ≤ length (b ∷ bytes)
word_within_by b bytes later true goes =
    let one : word_len (b ∷ bytes) ≡ suc (word_len bytes) = ap (λ t. cond t (suc (word_len bytes)) 0) goes in omega (arith, one)
word_within_by b bytes later false stops =
    let none : word_len (b ∷ bytes) ≡ 0 = ap (λ t. cond t (suc (word_len bytes)) 0) stops in omega (arith, none)

word_within : (text : List ℕ) → word_len text ≤ length text
word_within [] = omega arith
word_within (b ∷ bytes) = word_within_by b bytes (word_within bytes) (continues_name (b ∷ bytes)) refl

-- a text may be cut where a word ends
pub word_cut : (text : List ℕ) → IsCharBoundary text (word_len text)
word_cut text = (
  word_within text,
  λ within high.
      let n = word_len text in
      let here : get_or (drop n text) 0 0 ≡ get_or text n 0 = get_or-drop n text 0 0 ∙ ap (λ i. get_or text i 0) (add-zero n) in
      let lead = stop_lead (drop n text) (word_stops text within) (omega (arith, here)) in
      omega (arith, here, lead),
)
