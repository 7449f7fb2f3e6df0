use Rattle.std.proofs.lemmas.List.Elements.{All-contains_itself}
use Rattle.facet_solver_checker.proofs.atoms.Atoms.add_if.Goals as goal

pub returns-else-has-clause-kept : goal.returns-else-has-clause-kept
returns-else-has-clause-kept c = All-contains_itself c.args.self.now.each.items
