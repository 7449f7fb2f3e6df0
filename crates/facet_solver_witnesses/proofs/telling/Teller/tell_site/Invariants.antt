use Rattle.facet_solver_witnesses.specs.Shown.{AreShown}
use Rattle.facet_solver_witnesses.proofs.telling.Teller.tell_site.Given as goal

-- all so far are shown
abbrev pub invariant-loop-ways : goal.invariant-loop-ways
invariant-loop-ways l = AreShown l.self.reader.now l.ambiguities.items

abbrev pub invariant-loop-pair : goal.invariant-loop-pair
invariant-loop-pair l = AreShown l.self.reader.now l.ambiguities.items
