-- What is seen of the rest of some tokens.
use Rattle.std.proofs.Common.{◌≡◌, ℕ, ◌-◌, List, length, drop, map, take, sym, ap, ◌∙◌}
use Rattle.std.proofs.lemmas.List.{drop-map, length-map, take-map, take_rest}
use Rattle.facet_solver_types.specs.declared.token.Token as declared
use Rattle.facet_solver_types.specs.Passages.{Passage}
use Rattle.facet_solver_types.specs.Tokens.{Token, token_view, tokens_view}

-- the rest of the tokens is seen as the rest of what is seen
pub rest_view : (ts : List declared.Token) (n : ℕ) → tokens_view (take (length ts - n) (drop n ts)) ≡ drop n (tokens_view ts)
rest_view ts n = ap tokens_view (take_rest ts n) ∙ sym (drop-map token_view n ts)

-- the rest of a list is seen as the rest of what is seen
pub rest_seen : {A B : Type 0} (view : A → B) (xs : List A) (n : ℕ)
    → map view (take (length xs - n) (drop n xs)) ≡ drop n (map view xs)
rest_seen view xs n = ap (map view) (take_rest xs n) ∙ sym (drop-map view n xs)

-- the first of a list are seen as the first of what is seen
pub front_seen : {A B : Type 0} (view : A → B) (xs : List A) (n : ℕ)
    → map view (take n xs) ≡ take n (map view xs)
front_seen view xs n = sym (take-map view n xs)

-- as many tokens are seen as there are
pub view_len : (ts : List declared.Token) → length (tokens_view ts) ≡ length ts
view_len ts = length-map ts token_view

-- the first tokens are seen as the first of what is seen
pub front_view : (ts : List declared.Token) (n : ℕ) → tokens_view (take n ts) ≡ take n (tokens_view ts)
front_view ts n = sym (take-map token_view n ts)

-- a passage of tokens
abbrev pub passage_of : ℕ → List Token → Passage
passage_of end tokens = record { tokens = tokens; end = end }
