use Rattle.std.proofs.Common.{◌≤◌, arith, length, take}
use Rattle.std.proofs.lemmas.List.Elements.{All-more, All-weaker}
use Rattle.facet_solver_witnesses.specs.Covered.{IsCovered}
use Rattle.facet_solver_witnesses.specs.declared.place.Fork.TheVariants.{Selection}
use Rattle.facet_solver_witnesses.proofs.Loops.{all_done}
use Rattle.facet_solver_witnesses.proofs.covering.add_unconfirmed.Goals as goal

pub loop-place-preserved : goal.loop-place-preserved
loop-place-preserved c =
    let old = c.loop-place.found.items in
    let new = c.add_place.new.found.items in
    let places = c.args.places.now in
    let i = c.loop-place.place-index in
    record {
      covered = All-more (IsCovered new) places i
          (record { fork = Selection 0 0; first = 0; second = 0 }) c.loop-place-test.true
          (All-weaker (IsCovered old) (IsCovered new) c.in_ok-add_place.ensures.kept
          (take i places) c.loop-place.invariant.covered) c.in_ok-add_place.ensures.covered;
      shown = λ r h. c.in_ok-add_place.ensures.shown r (c.loop-place.invariant.shown r h);
    }

pub returns-clause-covered : goal.returns-clause-covered
returns-clause-covered c =
    let past : length c.args.places.now ≤ c.loop-place.place-index =
    omega (arith, c.loop-place-test.false) in
    all_done (IsCovered c.loop-place.found.items) c.args.places.now c.loop-place.place-index past
    c.loop-place.invariant.covered
