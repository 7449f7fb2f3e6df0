use Rattle.std.proofs.Output.{displays_on_ok_of_eq}
use Rattle.std.specs.String.{string_bytes}
use Rattle.facet_solver.proofs.QuotedNames.{debug_names}
use Rattle.facet_solver.proofs.error.quoted.QuotedDisplay.fmt.Goals as goal

-- what `{:?}` writes of the names
pub returns-clause-writes : goal.returns-clause-writes
returns-clause-writes g c = displays_on_ok_of_eq _ _ _ _ _ _ (debug_names string_bytes c.args.self.now.0.now) c.write.ensures.writes
