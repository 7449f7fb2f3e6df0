-- A settled list of places has each at which two readings differ first; where it has none, no
-- document has two readings.
use Rattle.std.proofs.Common.{◌≡◌, ⊎_elim, sym, subst, ℕ, suc, List, [], Result, Ok, Err, IfOk, Any}
use Rattle.facet_solver_shape.specs.Catalogues.{Catalogue}
use Rattle.facet_solver_shape.specs.Names.{Name}
use Rattle.facet_solver_checker.specs.declared.apart.Apart.{Apart}
use Rattle.facet_solver_witnesses.specs.declared.place.Place.{Place}
use Rattle.facet_solver_reader.specs.declared.plan.Plan.{Plan}
use Rattle.facet_solver_checker.specs.Ambiguity.{AreAllPlaces, IsCertain, IsPlaceOf}
use Rattle.facet_solver_checker.specs.Certain.{IsUnambiguous}
use Rattle.facet_solver_checker.specs.Differing.{Differ, Difference}
use Rattle.facet_solver_checker.specs.Told.{IsTold}
use Rattle.facet_solver_reader.specs.Documents.{depth}
use Rattle.facet_solver_checker.specs.Forks.{AllSettled, IsPlanFor}
use Rattle.facet_solver_reader.specs.Parts.{Target}
use Rattle.facet_solver_reader.specs.Plans.{IsPlanOf, IsPlannedList, IsPlannedTarget}
use Rattle.facet_solver_reader.specs.Plans.{Meaning, meaning}
use Rattle.facet_solver_reader.specs.Readings.{ReadsValue}
use Rattle.facet_solver_reader.specs.Rules.{Rules}
use Rattle.facet_solver_reader.specs.Types.{is_key}
use Rattle.facet_solver_checker.proofs.EqualOrDifferent.{differ_somewhere}
use Rattle.facet_solver_checker.proofs.Listing.{difference_listed}
use Rattle.facet_solver_checker.proofs.ObjectSites.{AreListed}
use Rattle.facet_solver_reader.proofs.Pairs.{pair_of}
use Rattle.facet_solver_reader.proofs.Quantifiers.{any_of_none}
use Rattle.facet_solver_checker.proofs.ValueSites.{ArePlanned, value_sites}

-- what follows of what is there
pub if_ok : {T E : Type 0} (r : Result T E) (P Q : T → Type 0) → ((x : T) → P x → Q x)
    → IfOk r P → IfOk r Q
if_ok (Ok x) P Q f h = f x h
if_ok (Err e) P Q f h = h

module _ (m : Meaning) (plan : Plan) (is : IsPlanFor m plan) where
  -- what the targets and the lists of a plan say
  targets_of : ArePlanned m
  targets_of t n at =
      let pair = pair_of (IsPlannedTarget m) m.targets plan.targets.items n t is.each_target at in
      (pair.0.end, pair.2.end)

  lists_of : AreListed m
  lists_of id n at =
      let pair = pair_of (IsPlannedList m) m.lists plan.lists.items n id is.meaning.lists.each at in
      (pair.0, pair.2)

module _ (plan : Plan) (apart : Apart) (places : List Place)
    (settled : AllSettled plan apart places)
  where
    pub all_places_of : AreAllPlaces plan apart places
    unfolding ReadsValue
    all_places_of m is leaves t n at v r s d x y differ =
        difference_listed m plan apart places is leaves settled t d
        (value_sites m plan is (suc (depth v)) t n v r s d at x y differ)

    pub certain_of : IsCertain plan apart places
    unfolding ReadsValue
    certain_of m is leaves t n at none v r s x y =
        ⊎_elim (λ (e : r ≡ s). e)
        (λ (p : (d : Difference) × Differ r s d).
        absurd (any_of_none (λ place. IsPlaceOf m plan t place p.0)
        (subst (λ ps. Any (λ place. IsPlaceOf m plan t place p.0) ps) none
        (all_places_of m is leaves t n at v r s p.0 x y p.1))))
        (differ_somewhere m (targets_of m plan is) (lists_of m plan is) is.asked_first
        (suc (depth v)) t n at v r s x y)

-- a plan is of what its numbers stand for
pub plan_is_for : (rules : Rules) (shapes : Catalogue) (root : Target) (p : Plan)
    → (is : IsPlanOf rules shapes root p)
    → ((key : ℕ) (x : Name) → is_key shapes key x ≡ rules.is_key key x)
    → IsPlanFor (meaning shapes rules is.targets is.lists) p
plan_is_for rules shapes root p is keys = record {
  each_target = is.each_target;
  distinct = is.distinct;
  asked_first = is.asked_first;
  meaning = record {
    lists = record { each = is.each_list; below = is.below };
    strict = is.strict;
    keys = λ key x.
        subst (λ (c : Catalogue). is_key c key x ≡ rules.is_key key x) (sym is.keys) (keys key x);
  };
}

-- where no place is told, no document has two readings as the root
pub root_told : (rules : Rules) (shapes : Catalogue) (root : Target) (p : Plan)
    → (is : IsPlanOf rules shapes root p)
    → ((key : ℕ) (x : Name) → is_key shapes key x ≡ rules.is_key key x) → (places : List Place)
    → IsTold p places → places ≡ [] → IsUnambiguous rules root
root_told rules shapes root p is keys places told none =
    told (meaning shapes rules is.targets is.lists) (plan_is_for rules shapes root p is keys) root
    p.root is.root_is none
