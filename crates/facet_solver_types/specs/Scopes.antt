-- Where a type stands: the declarations that it can name, and what parameters stand for.
use Rattle.std.specs.Prelude.{ℕ, Bool, ◌&&◌, not, List, Option, option_map, map, slice_get}
use Rattle.std.specs.List.{position_or_len}
use Rattle.std.specs.String.{string_bytes}
use denote.Bor.{Bor}
use Rattle.facet_solver_shape.specs.Names.{Name, name_eq}
use Rattle.facet_solver_types.specs.Declarations.{Parameter, parameters_view}
use Rattle.facet_solver_types.specs.declared.declaration.Declaration as code
use Rattle.facet_solver_types.specs.declared.fault.Fault.{Fault}
use Rattle.facet_solver_types.specs.declared.fault.Fault.TheVariants.{At}
use Rattle.facet_solver_types.specs.declared.problem.Problem.TheVariants.{OfType}
use Rattle.facet_solver_types.specs.declared.type_problem.TypeProblem.TheVariants.{TooDeep}
use Rattle.facet_solver_types.specs.declared.typing.scope.Scope as declared
use Rattle.facet_solver_types.specs.Sites.{Site, site_view}
use Rattle.facet_solver_types.specs.Understood.{Declaration, declaration_view, declarations_view}

-- where a type stands: all declarations, its module and its block, the id for which `Self` stands,
-- if it does, the parameters that the type can name, the ids for which these stand, where the whole
-- type begins of which it is a part, and whether it is the root or a part of that
pub record Scope : Type 0 where
  pub declarations : List Declaration
  pub site : Site
  pub this : Option Name
  pub parameters : List Parameter
  pub arguments : List Name
  pub begin : ℕ
  pub is_root : Bool

-- what is seen of a text behind a reference
abbrev pub str_view : Bor (List ℕ) → Name
str_view text = text.now

-- what is seen of a declaration behind a reference
abbrev pub declared_view : Bor code.Declaration → Declaration
declared_view declaration = declaration_view declaration.now

-- what is seen of where a type stands
abbrev pub scope_view : declared.Scope → Scope
scope_view scope = record {
  declarations = declarations_view scope.declarations.list.now;
  site = site_view scope.site;
  this = option_map str_view scope.this;
  parameters = parameters_view scope.parameters.now;
  arguments = map string_bytes scope.arguments.now;
  begin = scope.begin;
  is_root = scope.is_root;
}

-- whether a parameter is a type of this name
abbrev pub binds : Name → Parameter → Bool
binds name parameter = not parameter.is_const && name_eq parameter.name.text name

-- the place of the first parameter that is a type of this name, or the number of parameters
abbrev pub parameter_place : List Parameter → Name → ℕ
parameter_place parameters name = position_or_len (binds name) parameters

-- the id for which a name stands as a parameter, if it does
abbrev pub bound_id : Scope → Name → Option Name
bound_id scope name = slice_get scope.arguments (parameter_place scope.parameters name)

-- the fault where the whole type is nested too deeply
abbrev pub too_deep : Scope → Fault
too_deep scope = At scope.begin (OfType TooDeep)
