-- The cases of names: what a name of a variant or of a field is in each.
use Rattle.std.specs.Prelude.{ℕ, Bool, List, [], ◌∷◌, ◌++◌, map, Option, Some, None, codes, ◌==◌, if◌then◌else◌}
use Rattle.std.specs.Char.{is_ascii, is_ascii_uppercase, to_ascii_lowercase, to_ascii_uppercase}
use Rattle.std.specs.List.{flat_map, list_all}
use Rattle.facet_solver_shape.specs.Names.{Name, name_eq}
use Rattle.facet_solver_types.specs.declared.case.Case.{Case}
use Rattle.facet_solver_types.specs.declared.case.Case.TheVariants.{Lower, Upper, Pascal, Camel, Snake, ScreamingSnake, Kebab, ScreamingKebab}

-- the value beside a word in a list
abbrev pub said_by : {A : Type 0} → List (Name × A) → Name → Option A
said_by [] word = None
said_by (entry ∷ rest) word = if name_eq word entry.0 then Some entry.1 else said_by rest word

-- the case whose name is so written in itself
abbrev pub named : Name → Option Case
named =
    said_by ((codes "lowercase", Lower) ∷ (codes "UPPERCASE", Upper)
    ∷ (codes "PascalCase", Pascal) ∷ (codes "camelCase", Camel)
    ∷ (codes "snake_case", Snake) ∷ (codes "SCREAMING_SNAKE_CASE", ScreamingSnake)
    ∷ (codes "kebab-case", Kebab) ∷ (codes "SCREAMING-KEBAB-CASE", ScreamingKebab) ∷ [])

-- `_`
abbrev pub underscore : ℕ
underscore = 95

-- with all letters small
abbrev pub lower : Name → Name
lower = map to_ascii_lowercase

-- with all letters large
abbrev pub upper : Name → Name
upper = map to_ascii_uppercase

-- with the first letter small
abbrev pub small_first : Name → Name
small_first [] = []
small_first (b ∷ bs) = to_ascii_lowercase b ∷ bs

-- a letter small, behind a `_` if it was large
abbrev pub small_apart : ℕ → Name
small_apart b =
    if is_ascii_uppercase b then underscore ∷ to_ascii_lowercase b ∷ []
    else to_ascii_lowercase b ∷ []

-- with all letters small, and a `_` before each that was large, but the first
abbrev pub snake : Name → Name
snake [] = []
snake (b ∷ bs) = to_ascii_lowercase b ∷ flat_map small_apart bs

-- a letter behind another: no `_` stays, and behind a `_` the letter is large
abbrev pub letter_behind : ℕ → ℕ → Name
letter_behind before b =
    if b == underscore then []
    else (if before == underscore then to_ascii_uppercase b else b) ∷ []

-- the letters behind one
abbrev pub letters_behind : ℕ → Name → Name
letters_behind before [] = []
letters_behind before (b ∷ bs) = letter_behind before b ++ letters_behind b bs

-- without its `_`, with the letter behind each large, and the first
abbrev pub pascal : Name → Name
pascal name = letters_behind underscore name

-- with `-` for each `_`
abbrev pub kebab : Name → Name
kebab = map (λ b. if b == underscore then 45 else b)

-- the name of a variant in a case, from `PascalCase`
abbrev pub variant_in : Case → Name → Name
variant_in Lower name = lower name
variant_in Upper name = upper name
variant_in Pascal name = name
variant_in Camel name = small_first name
variant_in Snake name = snake name
variant_in ScreamingSnake name = upper (snake name)
variant_in Kebab name = kebab (snake name)
variant_in ScreamingKebab name = upper (kebab (snake name))

-- the name of a field in a case, from `snake_case`
abbrev pub field_in : Case → Name → Name
field_in Lower name = name
field_in Upper name = upper name
field_in Pascal name = pascal name
field_in Camel name = small_first (pascal name)
field_in Snake name = name
field_in ScreamingSnake name = upper name
field_in Kebab name = kebab name
field_in ScreamingKebab name = upper (kebab name)

-- every letter is one of ASCII
abbrev pub is_ascii_name : Name → Bool
is_ascii_name = list_all is_ascii

-- the name of a variant in a case, if it has one there
abbrev pub apply_to_variant : Case → Name → Option Name
apply_to_variant case name = if is_ascii_name name then Some (variant_in case name) else None

-- the name of a field in a case, if it has one there
abbrev pub apply_to_field : Case → Name → Option Name
apply_to_field case name = if is_ascii_name name then Some (field_in case name) else None
