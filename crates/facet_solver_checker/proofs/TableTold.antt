-- A closed table leaves all pairs of targets that read one value.
use Rattle.std.proofs.Common.{◌≡◌, ℕ, List, []}
use Rattle.facet_solver_reader.specs.declared.plan.Plan.{Plan}
use Rattle.facet_solver_reader.specs.Plans.{Meaning}
use Rattle.facet_solver_checker.specs.declared.apart.Apart.{Apart}
use Rattle.facet_solver_witnesses.specs.declared.place.Place.{Place}
use Rattle.facet_solver_checker.specs.Ambiguity.{AreAllPlaces, IsCertain}
use Rattle.facet_solver_checker.specs.Aparts.{left}
use Rattle.facet_solver_checker.specs.Atoms.{AsksLower, IsPlanFor}
use Rattle.facet_solver_checker.specs.Pairs.{IsClosedDown}
use Rattle.facet_solver_checker.specs.Told.{AreAllTold, IsPlanned, IsTold}
use Rattle.facet_solver_checker.specs.Aparts.{LeavesAll}
use Rattle.facet_solver_checker.proofs.AskedLower.{asks_lower}
use Rattle.facet_solver_checker.proofs.ClosedPairs.{among_down}

-- what a target asks of the same value has a lower number
pub planned_lower : (plan : Plan) → IsPlanned plan → AsksLower plan
planned_lower plan is = asks_lower is.0 plan is.1

-- a closed table leaves them
leaves_all : (m : Meaning) (apart : Apart) → IsClosedDown m.rules (left m apart)
    → LeavesAll m apart
leaves_all m apart closed d = among_down m.rules (left m apart) closed d

module _ (plan : Plan) (apart : Apart) (places : List Place)
    (closed : (m : Meaning) → IsPlanFor m plan → IsClosedDown m.rules (left m apart))
  where
    -- so what is listed by it is all
    pub all_told : AreAllPlaces plan apart places → AreAllTold plan places
    all_told h m is t n at = h m is (leaves_all m apart (closed m is)) t n at

    pub is_told : IsCertain plan apart places → IsTold plan places
    is_told h m is t n at none = h m is (leaves_all m apart (closed m is)) t n at none
