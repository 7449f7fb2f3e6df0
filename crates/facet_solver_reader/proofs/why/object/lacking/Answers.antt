use Rattle.std.proofs.Common.{◌∙◌, ap, subst, sym}
use Rattle.facet_solver_reader.specs.Nodes.{members_in, value_of}
use Rattle.facet_solver_reader.specs.Tables.{rules_at}
use Rattle.facet_solver_reader.specs.TypeNames.{list_name}
use Rattle.facet_solver_reader.specs.Why.{IsMemberOf, Lacks}
use Rattle.facet_solver_reader.proofs.why.object.lacking.Goals as goal

pub returns-in-Some : goal.returns-in-Some
returns-in-Some c =
    let rules = rules_at c.args.tables.now in
    let ms = members_in (value_of c.args.nodes.now c.args.object.now.node) in
    let same = sym c.branch_of-branch.ensures.list in (
      c.branch_of-branch.ensures.name ∙ ap (list_name rules.shapes) same,
      subst (λ i. IsMemberOf rules ms i c.in-Some.member.now) same c.in-Some.ensures,
      subst (λ i. Lacks rules ms i c.args.name.now) same c.requires.lacks,
    )

pub returns : goal.returns
returns c =
    let rules = rules_at c.args.tables.now in
    let ms = members_in (value_of c.args.nodes.now c.args.object.now.node) in
    let same = sym c.branch_of-branch.ensures.list in (
      c.branch_of-branch.ensures.name ∙ ap (list_name rules.shapes) same,
      subst (λ i. Lacks rules ms i c.args.name.now) same c.requires.lacks,
    )
