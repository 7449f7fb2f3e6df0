use Rattle.facet_solver_witnesses.proofs.finding.ambiguities.Goals as goal

pub returns-clause-shown : goal.returns-clause-shown
returns-clause-shown c =
    c.in_ok-add_unconfirmed.ensures.shown c.args.reader.now c.in_ok-found.ensures
