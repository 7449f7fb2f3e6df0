use Rattle.std.proofs.Common.{◌≡◌, zero, ◌-◌, length, sym, ap, ◌∙◌, arith}
use Rattle.facet_solver_reader.specs.Ends.{last_within}
use Rattle.facet_solver_reader.proofs.Ways.{last_within-over, last_within-on}
use Rattle.facet_solver_reader.proofs.ends.last_of.Goals as goal

pub returns-in-None : goal.returns-in-None
returns-in-None c =
    let over = sym c.next_at.ensures ∙ c.in-None.is in
    sym (c.loop.invariant ∙ last_within-over c.args.shapes.now _ c.loop.last over)

pub loop-preserved : goal.loop-preserved
loop-preserved c =
    let leads = sym c.next_at.ensures ∙ c.in-Some.is in
    c.loop.invariant ∙ last_within-on c.args.shapes.now _ _ c.loop.last c.in-Some.next (omega arith) leads

pub returns : goal.returns
returns c =
    let none_left : length c.args.shapes.now - c.loop.counter ≡ zero = omega arith in
    sym (c.loop.invariant ∙ ap (λ n. last_within c.args.shapes.now n c.loop.last) none_left)
