use Rattle.std.proofs.Common.{◌∙◌, arith, sym}
use Rattle.facet_solver_reader.proofs.NodeNames.{found_here, none_here}
use Rattle.facet_solver_reader.proofs.nodes.by_name.find_by_walk.Goals as goal

pub returns-then-eq : goal.returns-then-eq
returns-then-eq c =
    found_here c.args.named.now c.args.name.now c.loop-member.member-index _ c.loop-member-test.true
    (sym c.eq.ensures ∙ c.if-eq.true)

pub returns : goal.returns
returns c =
    none_here c.args.named.now c.args.name.now
    (λ k d within. c.loop-member.invariant k d (omega (arith, within, c.loop-member-test.false)))
