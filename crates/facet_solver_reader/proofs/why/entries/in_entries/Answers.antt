use Rattle.facet_solver_reader.proofs.why.entries.in_entries.Goals as goal

pub returns-then-is_some-clause-next : goal.returns-then-is_some-clause-next
returns-then-is_some-clause-next c = λ v. c.in_ok-next.ensures.next v
