use Rattle.std.proofs.Common.{◌≡◌, ◌∷◌, [], ◌++◌, rules}
use Rattle.std.proofs.lemmas.List.Elements.{All-contains_itself}
use Rattle.facet_solver_checker.proofs.AtomLists.{in_pushed}
use Rattle.facet_solver_checker.proofs.atoms.Atoms.add.Goals as goal

pub returns-then-has-clause-kept : goal.returns-then-has-clause-kept
returns-then-has-clause-kept c = All-contains_itself c.args.self.now.each.items

pub returns-clause-kept : goal.returns-clause-kept
returns-clause-kept c =
    let old = c.args.self.now.each.items in
    let pushed : c.push.new.self.items ≡ old ++ c.args.atom ∷ [] = search rules in
    in_pushed old c.push.new.self.items c.args.atom pushed
