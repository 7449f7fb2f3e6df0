-- Why a text has no types, or not those of a root.
use Rattle.std.specs.Prelude.{◌≡◌, ◌≢◌, List, map, Result, Ok, Err}
use Rattle.std.specs.String.{string_bytes}
use Rattle.facet_solver_shape.specs.Names.{Name}
use Rattle.facet_solver_types.specs.declared.failure.Failure as declared
use Rattle.facet_solver_types.specs.declared.failure.Failure.TheVariants.{Text, Needed, Root, Roots}
use Rattle.facet_solver_types.specs.declared.fault.Fault.{Fault}
use Rattle.facet_solver_types.specs.declared.fault.Fault.TheVariants.{OutOfMemory}

-- why: a fault of the text, those of what the root needs, one of the root, whose tokens stand
-- behind those of the text, or the types that stand by themselves, where no root is named
pub data Failure : Type 0 where
  of_text : Fault → Failure
  needed : List Fault → Failure
  of_root : Fault → Failure
  roots : List Name → Failure

-- what is seen of it
abbrev pub failure_view : declared.Failure → Failure
failure_view (Text fault) = of_text fault
failure_view (Needed faults) = needed faults.items
failure_view (Root fault) = of_root fault
failure_view (Roots names) = roots (map string_bytes names.items)

-- an outcome, or the fault of a text
abbrev pub unless_fault
    : {A B : Type 0} → Result A Fault → (A → Result B Failure) → Result B Failure
unless_fault (Ok value) later = later value
unless_fault (Err fault) later = Err (of_text fault)

-- what follows an outcome that is no failure
abbrev pub unless_failure
    : {A B : Type 0} → Result A Failure → (A → Result B Failure) → Result B Failure
unless_failure (Ok value) later = later value
unless_failure (Err failure) later = Err failure

-- the outcome is the view of a result, or its failure, unless memory was refused
abbrev pub Leads
    : {A B : Type 0} → (A → B) → Result B Failure → Result A declared.Failure → Type 0
Leads view outcome (Ok value) = outcome ≡ Ok (view value)
Leads view outcome (Err failure) =
    failure ≢ Text OutOfMemory → outcome ≡ Err (failure_view failure)
