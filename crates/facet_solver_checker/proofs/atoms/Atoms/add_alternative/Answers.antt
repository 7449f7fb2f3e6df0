use Rattle.std.proofs.lemmas.List.Elements.{All-contains_itself}
use Rattle.facet_solver_checker.proofs.atoms.Atoms.add_alternative.Goals as goal

pub returns-in-Joins-clause-kept : goal.returns-in-Joins-clause-kept
returns-in-Joins-clause-kept c = All-contains_itself c.args.self.now.each.items
