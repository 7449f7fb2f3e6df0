-- What stands before an item or a field: attributes and `pub`.
use Rattle.std.specs.Prelude.{ℕ, zero, suc, ◌+◌, ◌-◌, Bool, true, ◌&&◌, ◌||◌, if◌then◌else◌, List, [], ◌∷◌, codes, drop}
use Rattle.facet_solver_types.specs.Ascii as ascii
use Rattle.facet_solver_types.specs.declared.token.Bracket.TheVariants.{Round, Square}
use Rattle.facet_solver_types.specs.FirstTokens.{sees_close, sees_mark, sees_open, sees_word}
use Rattle.facet_solver_types.specs.Runs.{group_len}
use Rattle.facet_solver_types.specs.Tokens.{Token}

-- how many marks stand before the bracket of an attribute: `#`, and `!` where it is an inner one
abbrev pub attribute_marks : Bool → ℕ
attribute_marks inner = if inner then 2 else 1

-- whether an attribute stands first
unfoldable pub begins_attribute : Bool → List Token → Bool
begins_attribute inner tokens =
    sees_mark ascii.hash tokens
    && (if inner then sees_mark ascii.exclamation (drop 1 tokens) else true)
    && sees_open Square (drop (attribute_marks inner) tokens)

-- how many tokens an attribute has
abbrev pub attribute_len : Bool → List Token → ℕ
attribute_len inner tokens =
    attribute_marks inner + group_len (drop (attribute_marks inner) tokens)

-- how many tokens attributes have, the first `passed` of them too
unfoldable pub attributes_from : Bool → ℕ → List Token → ℕ
attributes_from inner passed [] = 0
attributes_from inner (suc passed) (token ∷ tokens) = suc (attributes_from inner passed tokens)
attributes_from inner zero (token ∷ tokens) =
    if begins_attribute inner (token ∷ tokens)
    then suc (attributes_from inner (attribute_len inner (token ∷ tokens) - 1) tokens)
    else 0

-- how many tokens the attributes have that stand first
abbrev pub attributes_len : Bool → List Token → ℕ
attributes_len inner tokens = attributes_from inner 0 tokens

-- whether `crate`, `self` or `super` stands first
abbrev pub names_module : List Token → Bool
names_module tokens =
    sees_word (codes "crate") tokens || sees_word (codes "self") tokens
    || sees_word (codes "super") tokens

-- whether brackets stand first that restrict a `pub`: `(crate)`, `(self)`, `(super)` or `(in ..)`
abbrev pub begins_restriction : List Token → Bool
begins_restriction tokens =
    let place = drop 1 tokens in
    sees_open Round tokens
    && (sees_word (codes "in") place || (names_module place && sees_close (drop 2 tokens)))

-- how many tokens `pub` has, with its restriction, or 0 where it does not stand first
abbrev pub visibility_len : List Token → ℕ
visibility_len tokens =
    let after = drop 1 tokens in
    if sees_word (codes "pub") tokens
    then 1 + (if begins_restriction after then group_len after else 0)
    else 0
