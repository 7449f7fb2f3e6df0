use Rattle.std.proofs.Common.{◌∙◌, ap, arith, sym}
use Rattle.std.proofs.lemmas.List.{take_all}
use Rattle.facet_solver_reader.specs.Nodes.{first_in, members_in, value_of}
use Rattle.facet_solver_reader.proofs.UnknownNames.{known_more, lacks_names, unknown_at, unknown_by_name}
use Rattle.facet_solver_reader.proofs.count.unknown.has_unknown.Goals as goal

pub returns-then-not-has_name_next : goal.returns-then-not-has_name_next
returns-then-not-has_name_next c =
    let nodes = c.args.nodes.now in
    let es = c.by_name-member-items.result.now in
    sym (unknown_at c.args.list.now es c.loop-member.member-index _ c.loop-member-test.true
    (sym c.has_name_next.ensures ∙ c.if-not-has_name_next.true))
    ∙ unknown_by_name c.args.list.now (members_in (value_of nodes c.args.node))
    (first_in nodes c.args.node) es c.by_name-member-items.ensures

pub loop-member-preserved : goal.loop-member-preserved
loop-member-preserved c =
    known_more c.args.list.now c.by_name-member-items.result.now c.loop-member.member-index _
    c.loop-member-test.true c.loop-member.invariant
    (sym c.has_name_next.ensures ∙ c.if-not-has_name_next.false)

pub returns : goal.returns
returns c =
    let nodes = c.args.nodes.now in
    let es = c.by_name-member-items.result.now in
    let all = take_all c.loop-member.member-index es (omega (arith, c.loop-member-test.false)) in
    sym c.loop-member.invariant
    ∙ ap (lacks_names c.args.list.now) all
    ∙ unknown_by_name c.args.list.now (members_in (value_of nodes c.args.node))
    (first_in nodes c.args.node) es c.by_name-member-items.ensures
