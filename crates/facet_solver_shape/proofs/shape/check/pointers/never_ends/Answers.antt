use Rattle.std.proofs.Common.{◌≡◌, ◌<◌, sym, ap, ◌∙◌, arith}
use Rattle.std.specs.Option.{is_some}
use Rattle.std.proofs.lemmas.Bool.{eqb-true, false≢true}
use Rattle.facet_solver_shape.proofs.Pointers.{leads_on, ends_here, ends_there, told_by_one_more}
use Rattle.facet_solver_shape.proofs.shape.check.pointers.never_ends.Goals as goal
use Rattle.facet_solver_shape.proofs.shape.check.pointers.never_ends.Goals.{then-index-via-then-index, then-index-via-else-index+then-eq}

-- here is an index from where the way is known to end
pub returns-then-index : goal.returns-then-index
returns-then-index c =
    let shapes = c.args.shapes.now in
    let here = c.loop.here in
    let over = ends_there shapes c.loop.counter c.args.index here c.loop.invariant in
    elim c.then-index.branch [
      | then-index-via-then-index w ↦
          let lower : here < c.args.index = omega (arith, w.if-index.true, c.index.ensures) in
          (λ yes. absurd (false≢true yes), λ never. absurd (over (c.requires.earlier here lower) never))
      | then-index-via-else-index+then-eq w ↦
          let same : here ≡ c.args.ending = eqb-true here c.args.ending (sym w.eq.ensures ∙ w.if-eq.true) in
          (λ yes. absurd (false≢true yes), λ never. absurd (over (rw same c.requires.known) never))
    ]

pub returns-in-None : goal.returns-in-None
returns-in-None c =
    let last = sym c.pointee_at.ensures ∙ c.in-None.is in
    (λ yes. absurd (false≢true yes), λ never. absurd (ends_here c.args.shapes.now c.loop.counter c.args.index c.loop.here c.loop.invariant last never))

pub loop-preserved : goal.loop-preserved
loop-preserved c =
    leads_on c.args.shapes.now c.loop.counter c.args.index c.loop.here c.in-Some.next c.loop.invariant (sym c.pointee_at.ensures ∙ c.in-Some.is)

pub returns : goal.returns
returns c =
    told_by_one_more c.args.shapes.now c.loop.counter c.args.index c.loop.here c.loop.invariant (omega arith) c.is_some.result (c.is_some.ensures ∙ ap is_some c.pointee_at-2.ensures)
