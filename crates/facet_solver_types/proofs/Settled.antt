-- Outcomes that may be faults, unless memory was refused.
use Rattle.std.proofs.Common.{◌≡◌, Result, Ok, Err, IfOk, sym}
use Rattle.facet_solver_types.specs.declared.fault.Fault.{Fault}
use Rattle.facet_solver_types.specs.Outcomes.{Gives, outcome_view}

-- what a settled outcome is seen as, where the outcome gives something
pub settled_as : {A B E : Type 0} (view : A → B) (r : Result (Result A Fault) E)
    (outcome : Result A Fault) (given : Result B Fault)
    → IfOk r (λ settled. (real : Result B Fault) → Gives view real outcome
    → real ≡ outcome_view view settled)
    → Gives view given outcome
    → IfOk r (λ settled. outcome_view view settled ≡ given)
settled_as view (Ok settled) outcome given all gives = sym (all given gives)
settled_as view (Err refused) outcome given all gives = tt
