-- What is seen of all declarations.
use Rattle.std.specs.Prelude.{List}
use Rattle.facet_solver_types.specs.declared.named_declarations.NamedDeclarations.{NamedDeclarations}
use Rattle.facet_solver_types.specs.Understood.{Declaration, declarations_view}

-- what is seen of declarations whose names have places
abbrev pub all_view : NamedDeclarations → List Declaration
all_view declarations = declarations_view declarations.list.now
