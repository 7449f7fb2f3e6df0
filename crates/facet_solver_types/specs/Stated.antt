-- What structs and enums declare, beside what is wrong with it.
use Rattle.std.specs.Prelude.{List}
use Rattle.facet_solver_types.specs.declared.declare.stated.Stated as code
use Rattle.facet_solver_types.specs.declared.fault.Fault.{Fault}
use Rattle.facet_solver_types.specs.Understood.{Declared, declared_view}

-- what is declared, and what is wrong with its parts, which are left out
pub record Stated : Type 0 where
  pub declared : Declared
  pub faults : List Fault

-- what is seen of it
abbrev pub stated_view : code.Stated → Stated
stated_view stated =
    record { declared = declared_view stated.declared; faults = stated.faults.items }
