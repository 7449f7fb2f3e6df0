use Rattle.std.proofs.Common.{sym, ◌∙◌}
use Rattle.facet_solver_uses.proofs.AmbiguousPairs.{met_at}
use Rattle.facet_solver_uses.proofs.ambiguous_pairs.is_met.Goals as goal

pub returns-then-matched_by : goal.returns-then-matched_by
returns-then-matched_by c = sym (met_at c.args.keys.now c.loop-key.key-index _ c.args.field.now c.loop-key-test.true (sym c.matched_by.ensures ∙ c.if-matched_by.true))
