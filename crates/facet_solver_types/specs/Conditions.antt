-- Items that are declared under different conditions, of which one is taken.
use Rattle.std.specs.Prelude.{◌==◌, Bool, true, false, not, ◌&&◌, if◌then◌else◌, List, [], ◌∷◌, codes, drop, length, take}
use Rattle.std.specs.List.{list_any}
use Rattle.facet_solver_shape.specs.Names.{Name, name_eq}
use Rattle.facet_solver_types.specs.Ascii as ascii
use Rattle.facet_solver_types.specs.declared.token.Bracket.TheVariants.{Square}
use Rattle.facet_solver_types.specs.AttributeEntries.{is_named}
use Rattle.facet_solver_types.specs.Declarations.{Item, ModuleItem, alias, enum, faulty, struct}
use Rattle.facet_solver_types.specs.FirstTokens.{is_open}
use Rattle.facet_solver_types.specs.Runs.{group_len, is_mark}
use Rattle.facet_solver_types.specs.Sites.{same_site}
use Rattle.facet_solver_types.specs.Tokens.{Token}

-- whether a `cfg` stands first
abbrev pub sees_condition : List Token → Bool
sees_condition (mark ∷ bracket ∷ name ∷ tokens) =
    is_mark ascii.hash mark.kind && is_open Square bracket.kind && is_named (codes "cfg") name
sees_condition tokens = false

-- the brackets of the first `cfg` of attributes, with what stands in them, or nothing
abbrev pub condition : List Token → List Token
condition [] = []
condition (token ∷ tokens) =
    if sees_condition (token ∷ tokens) then take (group_len tokens) tokens else condition tokens

-- the attributes of a declaration
abbrev pub attributes_of : Item → List Token
attributes_of (struct attributes name parameters body) = attributes
attributes_of (enum attributes name parameters variants) = attributes
attributes_of (alias attributes name parameters written) = attributes
attributes_of (faulty attributes name fault) = attributes
attributes_of item = []

-- the name of a declaration, or nothing of another item
abbrev pub name_of : Item → Name
name_of (struct attributes name parameters body) = name.text
name_of (enum attributes name parameters variants) = name.text
name_of (alias attributes name parameters written) = name.text
name_of (faulty attributes name fault) = name.text
name_of item = []

-- the condition of a declaration, or nothing
abbrev pub condition_of : Item → List Token
condition_of item = condition (attributes_of item)

-- whether a token of this text stands first
abbrev pub sees_text : Name → List Token → Bool
sees_text text [] = false
sees_text text (token ∷ tokens) = name_eq token.text text

-- whether tokens have the texts of others
abbrev pub same_texts : List Token → List Token → Bool
same_texts [] others = length others == 0
same_texts (one ∷ ones) others = sees_text one.text others && same_texts ones (drop 1 others)

-- whether there is another condition than one
abbrev pub differs : List Token → List Token → Bool
differs condition other = not (length other == 0) && not (same_texts condition other)

-- whether an item is what another, with this condition, is under another condition: it has the
-- other's name, and stands where that does
abbrev pub is_other_form : List Token → ModuleItem → ModuleItem → Bool
is_other_form condition m other =
    name_eq (name_of other.item) (name_of m.item) && same_site m.site other.site
    && differs condition (condition_of other.item)

-- whether one of some items is what another, with this condition, is under another condition
abbrev pub has_form_in : List Token → ModuleItem → List ModuleItem → Bool
has_form_in condition m others = list_any (is_other_form condition m) others

-- whether one of some items, as those before an item, is what that is under another condition
abbrev pub has_other_form : List ModuleItem → ModuleItem → Bool
has_other_form before m =
    let condition = condition_of m.item in
    not (length condition == 0) && has_form_in condition m before
