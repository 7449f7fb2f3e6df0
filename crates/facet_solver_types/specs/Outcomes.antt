-- What a function gives that may run out of memory.
use Rattle.std.specs.Prelude.{◌≡◌, ◌≢◌, Result, Ok, Err}
use Rattle.facet_solver_types.specs.declared.fault.Fault.{Fault}
use Rattle.facet_solver_types.specs.declared.fault.Fault.TheVariants.{OutOfMemory}

-- the outcome is the view of a result, or its fault, unless memory was refused
abbrev pub Gives : {A B : Type 0} → (A → B) → Result B Fault → Result A Fault → Type 0
Gives view outcome (Ok value) = outcome ≡ Ok (view value)
Gives view outcome (Err fault) = fault ≢ OutOfMemory → outcome ≡ Err fault

-- what is seen of a result, or its fault
abbrev pub outcome_view : {A B : Type 0} → (A → B) → Result A Fault → Result B Fault
outcome_view view (Ok value) = Ok (view value)
outcome_view view (Err fault) = Err fault
