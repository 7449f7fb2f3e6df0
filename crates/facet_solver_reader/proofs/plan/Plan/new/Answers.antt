use Rattle.std.proofs.Common.{refl}
use Rattle.facet_solver_reader.proofs.Plans.{plan_of, shape_numbered}
use Rattle.facet_solver_reader.proofs.plan.Plan.new.Goals as goal

pub of_shape-requires-clause-numbered : goal.of_shape-requires-clause-numbered
of_shape-requires-clause-numbered c =
    shape_numbered c.args.tables.now c.in_ok-numbers.numbers c.args.root c.in_ok-numbers.ensures
    c.requires.served

pub returns : goal.returns
returns c =
    plan_of c.args.tables.now c.in_ok-numbers.numbers c.args.root _ c.requires.tables
    c.in_ok-numbers.ensures c.in_ok-planned_targets.ensures c.in_ok-planned_lists.ensures
    c.of_shape.ensures refl refl
