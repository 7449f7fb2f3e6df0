use Rattle.std.proofs.Common.{◌≡◌, ◌∙◌, [], List, ap, arith, subst, sym}
use Rattle.facet_solver_reader.specs.Documents.{Member, view}
use Rattle.facet_solver_reader.specs.Nodes.{AreNamesOf, first_in, members_in, value_of}
use Rattle.facet_solver_reader.proofs.NodeNames.{no_names}
use Rattle.facet_solver_reader.proofs.Trees.{long_object, no_members}
use Rattle.facet_solver_reader.proofs.nodes.Nodes.by_name.Goals as goal

pub members_by_name-requires-clause-all : goal.members_by_name-requires-clause-all
members_by_name-requires-clause-all c =
    let ms = c.in-Object.members in
    let long = long_object ms (value_of c.args.self.now c.args.node)
    (sym c.value.ensures ∙ ap view c.in-Object.is) in
    omega (arith, c.len.ensures, ms.ok.0, long)

pub returns-in_default : goal.returns-in_default
returns-in_default c =
    let none : members_in (value_of c.args.self.now c.args.node) ≡ [] =
    ap members_in (sym c.value.ensures) ∙ no_members c.value.result.now c.in_default.not-Object in
    subst (λ (ms : List Member). AreNamesOf ms (first_in c.args.self.now c.args.node) []) (sym none)
    (no_names (first_in c.args.self.now c.args.node))
