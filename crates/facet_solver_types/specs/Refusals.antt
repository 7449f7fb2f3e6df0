-- The text of why an attribute is refused.
use Rattle.std.specs.Prelude.{ℕ, List, ◌++◌, Option, Some, None, codes}
use Rattle.facet_solver_types.specs.declared.attribute.meaning.Misuse.{Misuse}
use Rattle.facet_solver_types.specs.declared.attribute.meaning.Misuse.TheVariants as misuse
use Rattle.facet_solver_types.specs.declared.attribute.refusal.Refusal.{Refusal}
use Rattle.facet_solver_types.specs.declared.attribute.refusal.Refusal.TheVariants as refusal
use Rattle.facet_solver_types.specs.declared.attribute.value.Form.{Form}
use Rattle.facet_solver_types.specs.declared.attribute.value.Form.TheVariants as form
use Rattle.facet_solver_types.specs.Helps.{help_for}

-- what cannot be said, and what helps, if anything does, where this is met
abbrev pub unsaid_text : List ℕ → Option (List ℕ) → List ℕ
unsaid_text met None = codes "'" ++ (met ++ codes "' cannot be said")
unsaid_text met (Some help) = codes "'" ++ (met ++ (codes "' cannot be said: " ++ help))

-- why an attribute means nothing, where this is met
abbrev pub misused_text : Misuse → List ℕ → List ℕ
misused_text misuse.Unknown met = codes "'" ++ (met ++ codes "' is no attribute of serde or facet")
misused_text misuse.Misplaced met = codes "'" ++ (met ++ codes "' means nothing here")
misused_text misuse.Unsupported met = unsaid_text met (help_for met)

-- what an attribute takes
abbrev pub form_text : Form → List ℕ
form_text form.Nothing = codes "nothing"
form_text form.Default = codes "nothing, or a value after '='"
form_text form.Text = codes "a text"
form_text form.Names = codes "a text"
form_text form.Type = codes "a type"
form_text form.Value = codes "a value"
form_text form.Anything = codes "anything"

-- why an attribute is refused, where this is met
abbrev pub refusal_text : Refusal → List ℕ → List ℕ
refusal_text (refusal.Misused misuse) met = misused_text misuse met
refusal_text (refusal.Takes form) met = codes "'" ++ (met ++ (codes "' takes " ++ form_text form))
refusal_text refusal.NoText met = codes "no text: " ++ met
refusal_text refusal.NoCase met = codes "no case: " ++ met
refusal_text refusal.Clashes met =
    codes "'" ++ (met ++ codes "' and one before it exclude each other")
refusal_text refusal.NoTag met = codes "'" ++ (met ++ codes "' asks for a 'tag' beside it")
refusal_text refusal.Flattens met =
    codes "'" ++ (met ++ codes "' and a flattened field exclude each other")
refusal_text refusal.NotAscii met =
    codes "'" ++ (met ++ codes "' cannot be said in a case: write 'rename'")
