-- Two lists of parts that read no object in common, whatever the numbers of a plan stand for.
use Rattle.std.proofs.Common.{◌≡◌, Bool, IsTrue, Ok, Err, Result, true, ℕ}
use Rattle.std.specs.Result.{IfOk}
use Rattle.std.specs.declared.alloc.AllocError.{AllocError}
use Rattle.facet_solver_reader.specs.declared.plan.Plan.{Plan}
use Rattle.facet_solver_reader.specs.Plans.{Meaning}
use Rattle.facet_solver_checker.specs.declared.apart.Apart.{Apart}
use Rattle.facet_solver_checker.specs.Apartness.{AreNamesRequired, PartsApart}
use Rattle.facet_solver_checker.specs.Atoms.{IsPlanFor}
use Rattle.facet_solver_checker.specs.ListsMeet.{AreListsApart}
use Rattle.facet_solver_checker.specs.PlanMembers.{IsMeaningOf}
use Rattle.facet_solver_checker.specs.Requires.{AreRequired, NameLists}

-- what is told of two lists for one meaning is so for each
pub parts_apart : (plan : Plan) (apart : Apart) (names : NameLists) (p q : ℕ)
    → AreNamesRequired plan names → (r : Result Bool AllocError)
    → ((m : Meaning) → IsMeaningOf m plan → AreRequired m names
    → IfOk r (λ b. b ≡ true → AreListsApart m apart p q))
    → IfOk r (λ b. IsTrue b → PartsApart plan apart p q)
parts_apart plan apart names p q required (Ok b) f = λ h m is depth leaves ms x y.
    f m is.meaning (required m is.meaning.lists) h x.list y.list depth
    x.number_is y.number_is leaves
    (record {
      members = ms;
      first_choice = x.choice;
      second_choice = y.choice;
      first_reads = x.is_read;
      second_reads = y.is_read;
    })
parts_apart plan apart names p q required (Err e) f = tt
