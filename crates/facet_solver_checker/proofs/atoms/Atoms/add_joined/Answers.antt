use Rattle.std.proofs.lemmas.List.Elements.{All-contains_itself}
use Rattle.facet_solver_checker.proofs.atoms.Atoms.add_joined.Goals as goal

pub returns-in-None-clause-kept : goal.returns-in-None-clause-kept
returns-in-None-clause-kept c = All-contains_itself c.args.self.now.each.items
