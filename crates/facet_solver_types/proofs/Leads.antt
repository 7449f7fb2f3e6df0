-- Outcomes that may be failures, unless memory was refused.
use Rattle.std.proofs.Common.{◌≡◌, Result, Ok, Err, ◌∙◌}
use Rattle.facet_solver_types.specs.declared.failure.Failure as code
use Rattle.facet_solver_types.specs.Failures.{Failure, Leads}

-- the same outcome leads there
pub leads_same : {A B : Type 0} (view : A → B) (one other : Result B Failure)
    (r : Result A code.Failure) → one ≡ other → Leads view other r → Leads view one r
leads_same view one other (Ok value) e h = e ∙ h
leads_same view one other (Err failure) e h = λ real. e ∙ h real
