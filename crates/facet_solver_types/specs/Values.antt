-- The values of attributes.
use Rattle.std.specs.Prelude.{ℕ, Bool, true, false, not, ◌&&◌, ◌||◌, if◌then◌else◌, List, [], ◌∷◌, Option, Some, None, option_map, codes, Result, Ok, Err}
use Rattle.std.specs.Option.{is_none, is_some, option_and_then}
use Rattle.std.specs.Str.{bytes_eq}
use Rattle.facet_solver_types.specs.declared.attribute.meaning.Meaning.{Meaning}
use Rattle.facet_solver_types.specs.declared.attribute.meaning.Meaning.TheVariants as means
use Rattle.facet_solver_types.specs.declared.attribute.value.Form.{Form}
use Rattle.facet_solver_types.specs.declared.attribute.value.Form.TheVariants as form
use Rattle.facet_solver_types.specs.declared.attribute.value.Value as declared
use Rattle.facet_solver_types.specs.declared.fault.Fault.{Fault}
use Rattle.facet_solver_types.specs.declared.token.TokenKind.{TokenKind}
use Rattle.facet_solver_types.specs.declared.token.TokenKind.TheVariants.{RawText, Text}
use Rattle.facet_solver_types.specs.Entries.{Entry, EntryValue, entries, holds, is, nothing}
use Rattle.facet_solver_types.specs.Passages.{Passage, passage_view}
use Rattle.facet_solver_types.specs.Tokens.{Token, token_view}

-- the value of an attribute, as far as its meaning goes: none that says anything, a text, or a type
pub data Value : Type 0 where
  none : Value
  text : Token → Value
  of_type : Passage → Value

-- what is seen of a value
abbrev pub value_view : declared.Value → Value
value_view declared.TheVariants.None = none
value_view (declared.TheVariants.Text token) = text (token_view token)
value_view (declared.TheVariants.Type passage) = of_type (passage_view passage)

-- what an attribute of a meaning takes
abbrev pub form_of : Meaning → Form
form_of means.Default = form.Default
form_of means.Rename = form.Names
form_of means.RenameAll = form.Names
form_of means.RenameAllFields = form.Names
form_of means.Tag = form.Text
form_of means.Content = form.Text
form_of means.Proxy = form.Type
form_of means.With = form.Text
form_of means.Metadata = form.Value
form_of means.Nothing = form.Anything
form_of meaning = form.Nothing

-- whether a token is a text, and neither a byte's nor C's
abbrev pub is_text : TokenKind → Bool
is_text Text = true
is_text RawText = true
is_text kind = false

-- the text that some tokens are
abbrev pub only_text : List Token → Option Token
only_text [] = None
only_text (token ∷ []) = if is_text token.kind then Some token else None
only_text (token ∷ others) = None

-- the text after `=`
abbrev pub text_after : EntryValue → Option Token
text_after (is passage) = only_text passage.tokens
text_after value = None

-- whether an entry has a name
abbrev pub is_said : List ℕ → Entry → Bool
is_said name entry = is_none entry.qualifier && bytes_eq entry.name.text name

-- what an entry says of the name for reading, by what those before it said: that of `deserialize`,
-- which stands once at most; `serialize` says nothing
abbrev pub then_name : Option Token → Entry → Option (Option Token)
then_name found entry =
    if is_said (codes "serialize") entry then Some found
    else (if is_some found || not (is_said (codes "deserialize") entry) then None
    else option_map Some (text_after entry.value))

-- the name for reading among those of both directions, after one that was found
abbrev pub name_after : Option Token → List Entry → Option (Option Token)
name_after found [] = Some found
name_after found (entry ∷ entries) =
    option_and_then (λ name. name_after name entries) (then_name found entry)

-- the name for reading, if there is one, among those of both directions
abbrev pub read_name : List Entry → Option (Option Token)
read_name entries = name_after None entries

-- a value after `=`, which says nothing, if something stands there
abbrev pub some_value : List Token → Option Value
some_value [] = None
some_value (token ∷ tokens) = Some none

-- the value of what takes neither a text nor everything
abbrev pub simple_value : Form → EntryValue → Option Value
simple_value form.Nothing nothing = Some none
simple_value form.Default nothing = Some none
simple_value form.Default (is passage) = some_value passage.tokens
simple_value form.Value (is passage) = some_value passage.tokens
simple_value form.Type (is passage) = Some (of_type passage)
simple_value other value = None

-- the value of an attribute that takes this, where a list of names is not looked into
abbrev pub plain_value : Form → EntryValue → Option Value
plain_value form.Text value = option_map text (text_after value)
plain_value form.Names value = option_map text (text_after value)
plain_value form.Anything value = Some none
plain_value other value = simple_value other value

-- a name, if there is one
abbrev pub name_value : Option Token → Value
name_value None = none
name_value (Some token) = text token

-- the name for reading that entries say, or their fault
abbrev pub listed_name : Result (List Entry) Fault → Result (Option Value) Fault
listed_name (Ok found) = Ok (option_map name_value (read_name found))
listed_name (Err fault) = Err fault

-- the value of an attribute that takes this, if it is so
abbrev pub value_of : Form → EntryValue → Result (Option Value) Fault
value_of form.Names (holds list) = listed_name (entries list)
value_of other value = Ok (plain_value other value)
