use Rattle.facet_solver_witnesses.specs.Shown.{AreShown}
use Rattle.facet_solver_witnesses.proofs.telling.Teller.tell_all.Given as goal

-- all so far are shown
abbrev pub invariant-loop-site : goal.invariant-loop-site
invariant-loop-site l = AreShown l.self.reader.now l.ambiguities.items
