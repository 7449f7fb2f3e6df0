use Rattle.std.proofs.Common.{◌∙◌}
use Rattle.facet_solver.proofs.State.{key_named}
use Rattle.facet_solver.proofs.solver.conditions.seen_name.was_name_seen.Goals as goal

pub returns : goal.returns
returns c = c.is_seen.ensures ∙ key_named c.args.seen.now.keys c.args.name.now
