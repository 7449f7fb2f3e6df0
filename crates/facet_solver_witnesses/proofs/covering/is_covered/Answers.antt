use Rattle.facet_solver_witnesses.specs.Covered.{Covers}
use Rattle.facet_solver_witnesses.proofs.Loops.{found_at}
use Rattle.facet_solver_witnesses.proofs.covering.is_covered.Goals as goal

pub returns-then-covers : goal.returns-then-covers
returns-then-covers c is =
    found_at (λ a. Covers a c.args.place) c.args.found.now c.loop-ambiguity.ambiguity-index
    c.ambiguity-item.result c.loop-ambiguity-test.true c.ambiguity-item.is
    (c.covers.ensures c.if-covers.true)
