use Rattle.std.proofs.Common.{◌≡◌, ◌++◌, ◌∷◌, [], ◌≤◌, List, subst, map, arith, length, rules, get_or}
use Rattle.facet_solver_reader.specs.declared.plan.target_key.TargetKey.{TargetKey}
use Rattle.facet_solver_reader.specs.declared.plan.target_key.TargetKey.TheVariants.{Shape}
use Rattle.facet_solver_reader.specs.PlanNumbers.{meaning_of}
use Rattle.facet_solver_reader.specs.Plans.{AreInPairs, IsPlannedTarget}
use Rattle.facet_solver_reader.specs.TargetKeys.{key_view}
use Rattle.facet_solver_reader.proofs.Pairs.{pairs_all, pairs_pushed}
use Rattle.facet_solver_reader.proofs.PlanNumbers.{read_there, target_served}
use Rattle.facet_solver_reader.proofs.plan.targets.planned_targets.Goals as goal

pub planned_target-requires-clause-served : goal.planned_target-requires-clause-served
planned_target-requires-clause-served c =
    target_served c.args.tables.now c.args.numbers.now c.deref-target-items.result.now
    c.loop-target.target-index (Shape 0) c.requires.numbers.numbers c.deref-target-items.ensures.value
    c.loop-target-test.true

pub loop-target-preserved : goal.loop-target-preserved
loop-target-preserved c =
    let old = c.loop-target.targets.items in
    let planned = c.in_ok-planned.planned in
    let ks = c.deref-target-items.result.now in
    let i = c.loop-target.target-index in
    let pushed : c.push.new.self.items ≡ old ++ planned ∷ [] = search rules in
    pairs_pushed (IsPlannedTarget (meaning_of c.args.tables.now c.args.numbers.now)) key_view ks i
    (get_or ks i (Shape 0)) old planned c.push.new.self.items pushed c.loop-target-test.true
    (read_there ks i (Shape 0) c.loop-target-test.true) c.loop-target.invariant
    c.in_ok-planned.ensures

pub returns : goal.returns
returns c =
    let m = meaning_of c.args.tables.now c.args.numbers.now in
    let ks = c.deref-target-items.result.now in
    let past : length ks ≤ c.loop-target.target-index = omega (arith, c.loop-target-test.false) in
    subst (λ (xs : List TargetKey). AreInPairs (IsPlannedTarget m) (map key_view xs) c.loop-target.targets.items)
    c.deref-target-items.ensures.value
    (pairs_all (IsPlannedTarget m) key_view ks c.loop-target.target-index
    c.loop-target.targets.items past c.loop-target.invariant)
