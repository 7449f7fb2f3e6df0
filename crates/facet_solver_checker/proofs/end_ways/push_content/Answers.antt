use Rattle.std.proofs.Common.{◌≡◌, ◌∷◌, [], ◌++◌, rules}
use Rattle.std.proofs.lemmas.List.Elements.{All-contains_itself}
use Rattle.facet_solver_checker.proofs.AtomLists.{in_pushed}
use Rattle.facet_solver_checker.proofs.end_ways.push_content.Goals as goal

pub returns-in_ok-push-clause-kept : goal.returns-in_ok-push-clause-kept
returns-in_ok-push-clause-kept c =
    let old = c.args.contents.now.items in
    let new = c.push.new.self.items in
    let n = c.args.variant.now.content in
    let pushed : new ≡ old ++ n ∷ [] = search rules in
    in_pushed old new n pushed

pub returns-else-eq-clause-kept : goal.returns-else-eq-clause-kept
returns-else-eq-clause-kept c = All-contains_itself c.args.contents.now.items
