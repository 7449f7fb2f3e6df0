use Rattle.facet_solver_reader.proofs.why.walk.step.Goals as goal

pub by_end-requires-clause-end : goal.by_end-requires-clause-end
by_end-requires-clause-end c =
    c.requires.sound.tables.ends c.in-Shape.shape c.end-end.result.now c.end-end.ensures
