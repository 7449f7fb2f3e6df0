use Rattle.facet_solver_reader.proofs.Plans.{end_here_numbered, end_here_served}
use Rattle.facet_solver_reader.proofs.plan.targets.planned_end.Goals as goal

pub planned_shape-requires-clause-served : goal.planned_shape-requires-clause-served
planned_shape-requires-clause-served c =
    end_here_served c.args.tables.now c.args.numbers.now c.new.result c.end.result.now
    c.requires.tables c.requires.numbers c.end.ensures

pub planned_shape-requires-clause-numbered : goal.planned_shape-requires-clause-numbered
planned_shape-requires-clause-numbered c =
    end_here_numbered c.args.tables.now c.args.numbers.now c.new.result c.end.result.now
    c.requires.tables c.requires.numbers c.end.ensures
