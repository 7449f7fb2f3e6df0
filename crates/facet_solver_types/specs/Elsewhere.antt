-- Names that a `use` takes, where they may mean another type than a declared or a known one.
use Rattle.std.specs.Prelude.{Bool, true, false, ◌&&◌, ◌||◌, not, if◌then◌else◌, List, [], ◌∷◌, ◌++◌, map, Option, Some, None, codes}
use Rattle.std.specs.List.{flat_map, list_any}
use Rattle.std.specs.Option.{option_to_list}
use Rattle.facet_solver_shape.specs.Names.{Name, name_eq}
use Rattle.facet_solver_types.specs.declared.declare.source.Source.{Source}
use Rattle.facet_solver_types.specs.declared.declare.source.Source.TheVariants.{Home, Own, Other}
use Rattle.facet_solver_types.specs.Declarations.{Item, ModuleItem, takes}
use Rattle.facet_solver_types.specs.DeclaredNames.{declared_names}
use Rattle.facet_solver_types.specs.FirstTokens.{sees_path, sees_word}
use Rattle.facet_solver_types.specs.NamePlaces.{has_name}
use Rattle.facet_solver_types.specs.Sites.{Site}
use Rattle.facet_solver_types.specs.Tokens.{Token}
use Rattle.facet_solver_types.specs.Understood.{Declaration, Declared, home, elsewhere as from_elsewhere}
use Rattle.facet_solver_types.specs.UseSources.{source_of}

-- whether a known type has this name, and other crates have other types of it
abbrev pub is_shared : Name → Bool
is_shared name =
    list_any (λ one. name_eq name one)
    (codes "Value" ∷ codes "Map" ∷ codes "Number"
    ∷ codes "Duration" ∷ codes "SystemTime" ∷ codes "Result" ∷ codes "Bound" ∷ codes "OsString"
    ∷ codes "Range" ∷ codes "RangeInclusive" ∷ codes "RangeFrom" ∷ codes "RangeTo" ∷ [])

-- whether the name before these tokens is the last of its path, and goes by no other
abbrev pub ends_path : List Token → Bool
ends_path tokens = not (sees_path tokens) && not (sees_word (codes "as") tokens)

-- whether a name means another type where a `use` takes it from there, where these are declared
abbrev pub matters : List Name → Source → Name → Bool
matters declared Home name = has_name declared name
matters declared Own name = is_shared name && not (has_name declared name)
matters declared Other name = is_shared name || has_name declared name

-- what is said of a name that a `use` takes from there
abbrev pub said_of : Source → Declared
said_of Home = home
said_of source = from_elsewhere

-- what says that a `use` takes a name from there
abbrev pub taken_declaration : Source → Site → Token → Declaration
taken_declaration source site name = record {
  site = site;
  name = name;
  parameters = [];
  has_other_forms = false;
  denies_unknown = false;
  faults = [];
  declared = said_of source;
}

-- what says that a `use` takes the name that stands first from there, if it does and that matters
abbrev pub taken_at : List Name → Source → Site → List Token → Option Declaration
taken_at declared source site [] = None
taken_at declared source site (name ∷ others) =
    if ends_path others && matters declared source name.text
    then Some (taken_declaration source site name) else None

-- what says which names a `use` of these tokens takes from there
abbrev pub taken : List Name → Source → Site → List Token → List Declaration
taken declared source site [] = []
taken declared source site (token ∷ others) =
    option_to_list (taken_at declared source site (token ∷ others))
    ++ taken declared source site others

-- the same, if it is told where its paths begin
abbrev pub taken_if : List Name → Option Source → Site → List Token → List Declaration
taken_if declared (Some source) site tokens = taken declared source site tokens
taken_if declared None site tokens = []

-- the same of an item, if it is a `use`, where modules have these names
abbrev pub taken_by_item : List Name → List Name → Site → Item → List Declaration
taken_by_item modules declared site (takes tokens) =
    taken_if declared (source_of modules tokens) site tokens
taken_by_item modules declared site item = []

-- the same of an item where it stands
abbrev pub taken_by : List Name → List Name → ModuleItem → List Declaration
taken_by modules declared m = taken_by_item modules declared m.site m.item

-- whether an item is a `use`
abbrev pub is_use_item : Item → Bool
is_use_item (takes tokens) = true
is_use_item item = false

-- the same where it stands
abbrev pub is_use : ModuleItem → Bool
is_use m = is_use_item m.item

-- whether one of some items is a `use`
abbrev pub has_use : List ModuleItem → Bool
has_use items = list_any is_use items

-- the names of the modules in which items stand
abbrev pub module_names : List ModuleItem → List Name
module_names items = map (λ (m : ModuleItem). m.site.module_name) items

-- what says which names the `use`s among items take, where that matters, with these declared
abbrev pub elsewhere : List ModuleItem → List Declaration → List Declaration
elsewhere items declared = flat_map (taken_by (module_names items) (declared_names declared)) items
