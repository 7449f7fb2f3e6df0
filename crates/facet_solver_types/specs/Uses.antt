-- Declarations with the types that their parameters stand for.
use Rattle.std.specs.Prelude.{ℕ, List, map}
use Rattle.std.specs.String.{string_bytes}
use Rattle.facet_solver_shape.specs.Names.{Name}
use Rattle.facet_solver_types.specs.declared.typing.type_use.Use as declared

-- the declaration at an index with ids for its parameters, and the id of the type that it is then
pub record Use : Type 0 where
  pub index : ℕ
  pub id : Name
  pub arguments : List Name

-- what is seen of a use
abbrev pub use_view : declared.Use → Use
use_view u = record {
  index = u.index;
  id = string_bytes u.id;
  arguments = map string_bytes u.arguments.items;
}

-- what is seen of uses
abbrev pub uses_view : List declared.Use → List Use
uses_view uses = map use_view uses
