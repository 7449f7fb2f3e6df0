use Rattle.std.proofs.Common.{List, refl, subst}
use Rattle.facet_solver_reader.specs.Parts.{of_shape}
use Rattle.facet_solver_reader.specs.Types.{rules_of}
use Rattle.facet_solver_witnesses.specs.Covered.{AreCovered}
use Rattle.facet_solver_witnesses.specs.declared.place.Place.{Place}
use Rattle.facet_solver_checker.proofs.Unambiguous.{plan_is_for, root_told}
use Rattle.facet_solver_checker.proofs.checking.check.Goals as goal

pub places_of-requires : goal.places_of-requires
places_of-requires c = (
  _,
  plan_is_for (rules_of c.args.reader.now.shapes c.args.reader.now.strict)
      c.args.reader.now.shapes (of_shape c.args.reader.now.root) c.in_ok-plan.plan
      c.in_ok-plan.ensures (λ key x. refl),
)

pub returns-clause-unambiguous : goal.returns-clause-unambiguous
returns-clause-unambiguous c =
    root_told (rules_of c.args.reader.now.shapes c.args.reader.now.strict)
    c.args.reader.now.shapes (of_shape c.args.reader.now.root) c.in_ok-plan.plan
    c.in_ok-plan.ensures (λ key x. refl) c.in_ok-places.places.items c.in_ok-places.ensures.certain

pub returns-clause-covered : goal.returns-clause-covered
returns-clause-covered c =
    subst (λ (places : List Place). AreCovered c.in_ok-ambiguities.ambiguities.items places)
    c.deref.ensures.value c.in_ok-ambiguities.ensures.covered
