use Rattle.facet_solver_json.proofs.error.JsonErrorDisplay.fmt.Goals as goal

pub returns-in-Invalid-clause-writes : goal.returns-in-Invalid-clause-writes
returns-in-Invalid-clause-writes g c plain ok =
    rw c.in-Invalid.is (c.write.ensures.writes plain ok)
