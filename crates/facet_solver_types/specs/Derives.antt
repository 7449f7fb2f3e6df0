-- Which structs and enums are read as they are declared, by derives and impls.
use Rattle.std.specs.Prelude.{ℕ, ◌+◌, ◌-◌, ◌==◌, Bool, true, false, not, ◌&&◌, ◌||◌, if◌then◌else◌, List, [], ◌∷◌, drop, take, Option, Some, None, codes}
use Rattle.std.specs.List.{list_any}
use Rattle.facet_solver_shape.specs.Names.{Name, name_eq}
use Rattle.facet_solver_types.specs.Ascii as ascii
use Rattle.facet_solver_types.specs.declared.declare.derived.Around.{Around}
use Rattle.facet_solver_types.specs.declared.declare.derived.Derive.{Derive}
use Rattle.facet_solver_types.specs.declared.declare.derived.Derive.TheVariants.{OtherReading, Reading}
use Rattle.facet_solver_types.specs.declared.token.TokenKind.{TokenKind}
use Rattle.facet_solver_types.specs.declared.token.TokenKind.TheVariants.{Close, Open}
use Rattle.facet_solver_types.specs.declared.type_problem.TypeProblem.{TypeProblem}
use Rattle.facet_solver_types.specs.declared.type_problem.TypeProblem.TheVariants.{OwnImpl, Underived}
use Rattle.facet_solver_types.specs.AttributeEntries.{is_named}
use Rattle.facet_solver_types.specs.Declarations.{Item, ModuleItem, enum, faulty, implements, struct}
use Rattle.facet_solver_types.specs.FirstTokens.{is_name, sees_path}
use Rattle.facet_solver_types.specs.Modules.{is_of_stand_ins}
use Rattle.facet_solver_types.specs.Runs.{is_close, is_mark}
use Rattle.facet_solver_types.specs.Tokens.{Token}

-- whether there is a letter
abbrev pub is_some_text : Name → Bool
is_some_text [] = false
is_some_text (letter ∷ letters) = true

-- what stands behind `Deserialize` in a name that begins so
abbrev pub behind_reading : Name → Name
behind_reading name =
    if name_eq (take 11 name) (codes "Deserialize") then drop 11 name else []

-- whether a macro of a name derives this: `Deserialize` and `Facet` read a type as it is declared,
-- and what else begins with `Deserialize` by other rules
abbrev pub is_derived_by : Derive → Name → Bool
is_derived_by Reading name = name_eq name (codes "Deserialize") || name_eq name (codes "Facet")
is_derived_by OtherReading name = is_some_text (behind_reading name)

-- whether a token, before others, is the name of a macro that derives this: the last of its path
abbrev pub is_listed : Derive → Token → List Token → Bool
is_listed derive token behind =
    is_name token.kind && not (sees_path behind) && is_derived_by derive token.text

-- whether such a name stands among tokens, before the first bracket that closes
abbrev pub lists : Derive → List Token → Bool
lists derive [] = false
lists derive (token ∷ behind) =
    if is_close token.kind then false else is_listed derive token behind || lists derive behind

-- whether a token that stands so is `derive` of an attribute, or in a `cfg_attr`
abbrev pub is_derive : Around → Token → Bool
is_derive around token = around.brackets == 0 && is_named (codes "derive") token

-- whether a bracket behind a token would be that of an attribute or of `cfg_attr`
abbrev pub leads_in : Token → Bool
leads_in token = is_mark ascii.hash token.kind || is_named (codes "cfg_attr") token

-- in how many brackets of other things the token behind one stands
abbrev pub brackets_after : Around → TokenKind → ℕ
brackets_after around (Open bracket) =
    if around.enters then around.brackets else around.brackets + 1
brackets_after around (Close bracket) = around.brackets - 1
brackets_after around kind = around.brackets

-- where the token behind one stands
abbrev pub around_after : Around → Token → Around
around_after around token = record {
  brackets = brackets_after around token.kind;
  enters = around.brackets == 0 && leads_in token;
}

-- whether tokens of attributes derive this, of which the first stands so
abbrev pub derives_from : Derive → Around → List Token → Bool
derives_from derive around [] = false
derives_from derive around (token ∷ behind) =
    (is_derive around token && lists derive behind)
    || derives_from derive (around_after around token) behind

-- whether attributes derive this
abbrev pub derives : Derive → List Token → Bool
derives derive attributes =
    derives_from derive (record { brackets = 0; enters = false }) attributes

-- the attributes of an item
abbrev pub attributes_of : Item → List Token
attributes_of (struct attributes name parameters body) = attributes
attributes_of (enum attributes name parameters variants) = attributes
attributes_of (faulty attributes name fault) = attributes
attributes_of item = []

-- whether an item derives that it is read as it is declared, and is no stand-in
abbrev pub is_derived : ModuleItem → Bool
is_derived m = not (is_of_stand_ins m.site.module_name) && derives Reading (attributes_of m.item)

-- whether some item does
abbrev pub has_derives : List ModuleItem → Bool
has_derives items = list_any is_derived items

-- whether an item is the impl that reads the type of a name
abbrev pub is_impl : Name → Item → Bool
is_impl name (implements of) = name_eq of.text name
is_impl name item = false

-- whether one of some items is such an impl
abbrev pub has_impl : Name → List ModuleItem → Bool
has_impl name items = list_any (λ (m : ModuleItem). is_impl name m.item) items

-- why a struct or an enum of a module, with attributes and a name, isn't read as it is declared,
-- among items of which some derive that, or none: a stand-in is read so
abbrev pub own_reading
    : List ModuleItem → Bool → Name → List Token → Name → Option TypeProblem
own_reading items has_derives module_name attributes name =
    if is_of_stand_ins module_name || derives Reading attributes then None
    else (if derives OtherReading attributes || has_impl name items then Some OwnImpl
    else (if has_derives then Some Underived else None))
