use Rattle.facet_solver.proofs.Told.{unknown_answered, unknown_seen}
use Rattle.facet_solver.proofs.laws.unknown_keys_are_only_seen.Goals as goal

pub returns-clause-seen : goal.returns-clause-seen
returns-clause-seen c = unknown_seen

pub returns-clause-answer : goal.returns-clause-answer
returns-clause-answer c = unknown_answered
