use Rattle.std.proofs.Common.{◌≡◌, ◌++◌, ◌∷◌, [], arith, rules}
use Rattle.facet_solver_reader.specs.Documents.{view}
use Rattle.facet_solver_reader.specs.declared.nodes.Opening.{Opening}
use Rattle.facet_solver_reader.specs.Nodes.{opened}
use Rattle.facet_solver_reader.proofs.Opened.{next_numbered}
use Rattle.facet_solver_reader.proofs.nodes.Nodes.open_next.Goals as goal

pub returns-clause-under_way : goal.returns-clause-under_way
returns-clause-under_way c =
    let old = c.args.self.now in
    let added = c.add_children.new.self in
    let number : c.len-number.result ≡ opened old = omega (arith, c.len-number.ensures, old.openings.ok.0) in
    let o : Opening = record { first = c.len.result; names = c.len-2.result } in
    let pushed : c.push.new.self.items ≡ added.openings.items ++ o ∷ [] = search rules in
    next_numbered old added c.push.new.self c.len-number.result (record { first = c.len.result; names = c.len-2.result }) (view c.value-document.result.now) c.requires.under_way c.requires.left number
    (omega (arith, c.len.ensures, old.nodes.ok.0)) (omega (arith, c.len-2.ensures, old.by_name.ok.0)) c.value-document.ensures c.in_ok-add_children.ensures.added pushed
