-- What is read of several things, of which some have faults.
use Rattle.std.specs.Prelude.{◌≡◌, ◌≢◌, List, [], ◌∷◌, ◌++◌, map, Option, Result, Ok, Err}
use Rattle.std.specs.Option.{option_to_list}
use Rattle.facet_solver_types.specs.declared.fault.Fault.{Fault}
use Rattle.facet_solver_types.specs.declared.fault.Fault.TheVariants.{OutOfMemory}
use Rattle.facet_solver_types.specs.declared.gathering.Gathering as declared

-- what was read, and what is wrong with the rest
pub record Gathering (A : Type 0) : Type 0 where
  pub values : List A
  pub faults : List Fault

-- what is seen of it
abbrev pub gathering_view : {A B : Type 0} → (A → B) → declared.Gathering A → Gathering B
gathering_view view found =
    record { values = map view found.values.items; faults = found.faults.items }

-- nothing
abbrev pub nothing : {A : Type 0} → Gathering A
nothing = record { values = []; faults = [] }

-- faults alone
abbrev pub faulty : {A : Type 0} → List Fault → Gathering A
faulty faults = record { values = []; faults = faults }

-- what was read, or its fault, alone
abbrev pub told : {A : Type 0} → Result A Fault → Gathering A
told (Ok value) = record { values = value ∷ []; faults = [] }
told (Err fault) = faulty (fault ∷ [])

-- the same of code, where memory was not refused
abbrev pub IsTold : {A : Type 0} → Result A Fault → declared.Gathering A → Type 0
IsTold (Ok value) found = (found.values.items ≡ value ∷ []) × (found.faults.items ≡ [])
IsTold (Err fault) found =
    (fault ≢ OutOfMemory) × (found.values.items ≡ []) × (found.faults.items ≡ fault ∷ [])

-- one, and then another
abbrev pub joined : {A : Type 0} → Gathering A → Gathering A → Gathering A
joined one other = record {
  values = one.values ++ other.values;
  faults = one.faults ++ other.faults;
}

-- faults, or else another, if there is one
abbrev pub or_fault : List Fault → Option Fault → List Fault
or_fault [] fault = option_to_list fault
or_fault (first ∷ others) fault = first ∷ others

-- what was read, with a fault if there is one and no other
abbrev pub with_fault : {A : Type 0} → Gathering A → Option Fault → Gathering A
with_fault found fault =
    record { values = found.values; faults = or_fault found.faults fault }

-- a rule that reads an element behind others, by what was read of these
abbrev pub Rule : Type 0 → Type 0 → Type 0
Rule A B = List B → A → Gathering B

-- what a rule reads of elements behind what was read
abbrev pub gathered_after : {A B : Type 0} → Rule A B → Gathering B → List A → Gathering B
gathered_after rule found [] = found
gathered_after rule found (x ∷ xs) = gathered_after rule (joined found (rule found.values x)) xs

-- what a rule reads of elements
abbrev pub all_gathered : {A B : Type 0} → Rule A B → List A → Gathering B
all_gathered rule xs = gathered_after rule nothing xs
