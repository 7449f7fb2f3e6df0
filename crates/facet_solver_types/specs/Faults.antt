-- Faults in the order of the text.
use Rattle.std.specs.Prelude.{ℕ, nat_le, ◌==◌, Bool, false, if◌then◌else◌, List, [], Option, slice_get}
use Rattle.std.specs.List.{fold, insert, position_or_len}
use Rattle.std.specs.Option.{option_map_or}
use Rattle.facet_solver_types.specs.declared.fault.Fault.{Fault}
use Rattle.facet_solver_types.specs.declared.fault.Fault.TheVariants.{At}

-- where a fault stands in the text
abbrev pub offset_of : Fault → ℕ
offset_of (At offset problem) = offset
offset_of fault = 0

-- the place of the first of some faults that stands no earlier than one, or their number
abbrev pub fault_place : List Fault → Fault → ℕ
fault_place faults fault =
    position_or_len (λ other. nat_le (offset_of fault) (offset_of other)) faults

-- whether a fault, if there is one, stands at an offset
abbrev pub stands_at : Option Fault → ℕ → Bool
stands_at fault offset = option_map_or (λ f. offset_of f == offset) fault false

-- faults, and one where it stands among them, unless one of them stands there
abbrev pub with_fault : List Fault → Fault → List Fault
with_fault faults fault =
    let place = fault_place faults fault in
    if stands_at (slice_get faults place) (offset_of fault) then faults
    else insert faults place fault

-- faults in the order of the text, of those that stand at one place the first
abbrev pub told : List Fault → List Fault
told faults = fold with_fault [] faults
