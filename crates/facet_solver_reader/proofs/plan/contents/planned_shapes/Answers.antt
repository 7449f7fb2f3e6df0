use Rattle.std.proofs.Common.{◌≡◌, ◌≤◌, ℕ, List, Some, subst, arith, length, slice_get}
use Rattle.std.proofs.lemmas.List.{map-id}
use Rattle.facet_solver_reader.specs.Parts.{of_shape}
use Rattle.facet_solver_reader.specs.PlanNumbers.{HasNumber, targets_of}
use Rattle.facet_solver_reader.specs.Plans.{AreInPairs}
use Rattle.facet_solver_reader.proofs.Pairs.{pairs_all, pairs_pushed}
use Rattle.facet_solver_reader.proofs.Pairs.{one_of_those}
use Rattle.facet_solver_reader.proofs.plan.contents.planned_shapes.Goals as goal

pub of_shape-requires-clause-numbered : goal.of_shape-requires-clause-numbered
of_shape-requires-clause-numbered c =
    one_of_those (λ (id : ℕ). HasNumber c.args.numbers.now (of_shape id)) c.args.shapes.now
    c.loop-shape.shape-index c.shape-item.result c.loop-shape-test.true c.shape-item.is
    c.requires.numbered

pub loop-shape-preserved : goal.loop-shape-preserved
loop-shape-preserved c =
    let ids = c.args.shapes.now in
    let i = c.loop-shape.shape-index in
    pairs_pushed (λ (id n : ℕ). slice_get (targets_of c.args.numbers.now) n ≡ Some (of_shape id))
    (λ (id : ℕ). id) ids i c.shape-item.result c.loop-shape.planned.items c.of_shape.result
    c.push.new.self.items c.in_ok-push.ensures.items c.loop-shape-test.true c.shape-item.is
    c.loop-shape.invariant c.of_shape.ensures

pub returns : goal.returns
returns c =
    let R : ℕ → ℕ → Type 0 = λ id n. slice_get (targets_of c.args.numbers.now) n ≡ Some (of_shape id) in
    let ids = c.args.shapes.now in
    let past : length ids ≤ c.loop-shape.shape-index = omega (arith, c.loop-shape-test.false) in
    subst (λ (xs : List ℕ). AreInPairs R xs c.loop-shape.planned.items) (map-id ids)
    (pairs_all R (λ (id : ℕ). id) ids c.loop-shape.shape-index c.loop-shape.planned.items past
    c.loop-shape.invariant)
