-- Where the paths of a `use` begin.
use Rattle.std.specs.Prelude.{Bool, if◌then◌else◌, List, [], ◌∷◌, Option, Some, None, codes}
use Rattle.std.specs.List.{list_any}
use Rattle.facet_solver_shape.specs.Names.{Name, name_eq}
use Rattle.facet_solver_types.specs.declared.declare.source.Source.{Source}
use Rattle.facet_solver_types.specs.declared.declare.source.Source.TheVariants.{Home, Own, Other}
use Rattle.facet_solver_types.specs.declared.token.Bracket.TheVariants.{Curly}
use Rattle.facet_solver_types.specs.FirstTokens.{is_open, sees_path}
use Rattle.facet_solver_types.specs.NamePlaces.{has_name}
use Rattle.facet_solver_types.specs.Origins.{first_text, is_own}
use Rattle.facet_solver_types.specs.Tokens.{Token}

-- whether the known types are those of a crate of this name, or are read as these
abbrev pub is_home : Name → Bool
is_home name =
    list_any (λ one. name_eq name one)
    (codes "std" ∷ codes "core" ∷ codes "alloc"
    ∷ codes "serde_json" ∷ codes "serde_yaml" ∷ codes "toml"
    ∷ codes "facet" ∷ codes "facet_value" ∷ [])

-- where paths begin that begin with the name of a crate, or nothing of a list of paths
abbrev pub source_of_crate : List Token → Option Source
source_of_crate [] = None
source_of_crate (first ∷ others) =
    if is_home first.text then Some Home
    else (if is_open Curly first.kind then None else Some Other)

-- where paths begin that begin with the name of a module, or nothing where a known crate has it
abbrev pub source_of_module : Name → Option Source
source_of_module name = if is_home name then None else Some Own

-- where paths begin that have no `::` before them, where modules have these names
abbrev pub source_of_path : List Name → List Token → Option Source
source_of_path modules tokens =
    if is_own tokens then Some Own
    else (if has_name modules (first_text tokens) then source_of_module (first_text tokens)
    else source_of_crate tokens)

-- the tokens behind the first
abbrev pub behind_first : List Token → List Token
behind_first [] = []
behind_first (first ∷ others) = others

-- where the paths of a `use` of these tokens begin, if that tells what it takes, where modules have
-- these names
abbrev pub source_of : List Name → List Token → Option Source
source_of modules tokens =
    if sees_path tokens then source_of_crate (behind_first tokens)
    else source_of_path modules tokens
