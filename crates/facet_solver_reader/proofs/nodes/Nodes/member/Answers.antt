use Rattle.std.proofs.Common.{◌∙◌, ap, arith, sym}
use Rattle.facet_solver_reader.specs.Documents.{view}
use Rattle.facet_solver_reader.specs.Nodes.{value_of}
use Rattle.facet_solver_reader.proofs.Numbering.{found_by_names}
use Rattle.facet_solver_reader.proofs.Trees.{long_object}
use Rattle.facet_solver_reader.proofs.nodes.Nodes.member.Goals as goal

pub members_by_name-requires-clause-all : goal.members_by_name-requires-clause-all
members_by_name-requires-clause-all c =
    let ms = c.in-Object.members in
    let long = long_object ms (value_of c.args.self.now c.args.node)
    (sym c.value.ensures ∙ ap view c.in-Object.is) in
    omega (arith, c.len.ensures, ms.ok.0, long)

pub returns-in-Object : goal.returns-in-Object
returns-in-Object c =
    found_by_names c.args.self.now c.requires.numbering c.args.node c.requires.in_range
    c.members_by_name.result.now c.members_by_name.ensures c.args.name.now c.find_by_name.result
    c.find_by_name.ensures
