-- For what type an impl of a trait that reads documents stands.
use Rattle.std.specs.Prelude.{Bool, false, ◌||◌, if◌then◌else◌, List, [], ◌∷◌, codes, Option, Some, None}
use Rattle.facet_solver_types.specs.AttributeEntries.{is_named}
use Rattle.facet_solver_types.specs.FirstTokens.{is_name, sees_word}
use Rattle.facet_solver_types.specs.Parameters.{after_parameters}
use Rattle.facet_solver_types.specs.Passages.{Passage, after}
use Rattle.facet_solver_types.specs.Tokens.{Token}
use Rattle.facet_solver_types.specs.WrittenTypes.{front_len}

-- the last part of the path that stands first, and what stands after it
abbrev pub last_part : Passage → Passage
last_part passage = after (front_len passage.tokens) passage

-- whether the name of a trait that reads documents stands first
abbrev pub sees_reader : List Token → Bool
sees_reader [] = false
sees_reader (token ∷ tokens) =
    is_named (codes "Deserialize") token || is_named (codes "Facet") token

-- the name that stands first, if one does
abbrev pub first_name : List Token → Option Token
first_name [] = None
first_name (token ∷ tokens) = if is_name token.kind then Some token else None

-- the name of the type of an impl, after the name of its trait
abbrev pub type_after : Passage → Option Token
type_after passage =
    let rest = after_parameters passage in
    if sees_word (codes "for") rest.tokens then first_name (last_part (after 1 rest)).tokens
    else None

-- the name of the type for which a trait that reads documents is implemented, after `impl`
abbrev pub implemented_after : Passage → Option Token
implemented_after passage =
    let rest = last_part (after_parameters passage) in
    if sees_reader rest.tokens then type_after (after 1 rest) else None

-- the name of the type for which a trait that reads documents is implemented, in an impl
abbrev pub implemented : Passage → Option Token
implemented passage =
    if sees_word (codes "impl") passage.tokens then implemented_after (after 1 passage) else None
