use Rattle.std.proofs.Common.{refl}
use Rattle.facet_solver.specs.KeyPath.{has_key_at}
use Rattle.facet_solver.proofs.Run.{call_leaves, calls_leave}
use Rattle.facet_solver.proofs.laws.no_candidate_is_added.Goals as goal

pub returns-clause-by_a_call : goal.returns-clause-by_a_call
returns-clause-by_a_call c = call_leaves

pub returns-clause-by_a_run : goal.returns-clause-by_a_run
returns-clause-by_a_run c = calls_leave

pub returns-clause-by_probing : goal.returns-clause-by_probing
returns-clause-by_probing c = λ path key candidates. record { stays = has_key_at path key; left = refl }
