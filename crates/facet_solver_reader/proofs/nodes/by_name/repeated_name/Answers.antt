use Rattle.std.proofs.Common.{◌<◌, arith, sym, ◌∙◌}
use Rattle.facet_solver_reader.proofs.NodeNames.{by_name_apart, least_here, repeated_here}
use Rattle.facet_solver_reader.proofs.nodes.by_name.repeated_name.Goals as goal

pub returns-then-eq : goal.returns-then-eq
returns-then-eq c =
    let some : 0 < c.loop-later.later = omega (arith, c.loop-later.auto.later) in
    record {
      repeated = repeated_here c.args.named.now c.loop-later.later _ _ some c.loop-later-test.true (sym c.eq.ensures ∙ c.if-eq.true);
      least = least_here c.args.named.now _ c.requires c.loop-later.later some c.loop-later.invariant;
    }

pub returns : goal.returns
returns c = by_name_apart c.args.named.now c.requires (λ k d within. c.loop-later.invariant k d (omega (arith, within, c.loop-later-test.false)))
