use Rattle.std.specs.List.{Contains}
use Rattle.std.proofs.lemmas.List.Elements.{All-contains}
use Rattle.facet_solver_checker.proofs.atoms.atoms_of.Goals as goal

pub returns-clause-own : goal.returns-clause-own
returns-clause-own c = λ a own.
    All-contains (Contains c.add_asked.new.self.each.items) c.in_ok-atoms.atoms.each.items a
    c.in_ok-add_asked.ensures.kept (c.in_ok-atoms.ensures a own)
