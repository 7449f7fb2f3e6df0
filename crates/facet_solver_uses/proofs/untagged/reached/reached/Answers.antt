use Rattle.std.proofs.Common.{◌≡◌, ℕ, zero, suc, ◌<◌, ◌+◌, ◌-◌, List, Option, length, slice_get, sym, ap, ◌∙◌, arith}
use Rattle.std.specs.Option.{option_copied}
use Rattle.facet_solver.specs.declared.Shape.{Shape}
use Rattle.facet_solver_uses.specs.Reached.{reached, reached_within}
use Rattle.facet_solver_uses.proofs.Reached.{by_next, from_shape}
use Rattle.facet_solver_uses.proofs.untagged.reached.reached.Goals as goal

-- what is reached goes by the shape that the way has come to
goes_on : (shapes : List Shape) (start k id : ℕ) → reached shapes start ≡ reached_within (length shapes - k) shapes id → k < length shapes → (o : Option Shape) → o ≡ slice_get shapes id → reached shapes start ≡ from_shape (length shapes - (k + 1)) shapes o
goes_on shapes start k id so_far left o here =
    let one_more : length shapes - k ≡ suc (length shapes - (k + 1)) = omega arith in
    so_far
    ∙ ap (λ n. reached_within n shapes id) one_more
    ∙ ap (from_shape (length shapes - (k + 1)) shapes) (sym here)

pub returns-in_err-shape : goal.returns-in_err-shape
returns-in_err-shape c =
    ap option_copied c.from_residual.ensures
    ∙ sym (goes_on c.args.shapes.now c.args.start c.loop.counter c.loop.id c.loop.invariant (omega arith) _ c.in_err-shape.ensures.entry)

pub returns-in-None : goal.returns-in-None
returns-in-None c =
    let shapes = c.args.shapes.now in
    sym (goes_on shapes c.args.start c.loop.counter c.loop.id c.loop.invariant (omega arith) _ c.in_ok-shape.ensures.entry
    ∙ ap (by_next (length shapes - (c.loop.counter + 1)) shapes c.in_ok-shape.shape.now) (sym c.in-None.ensures))

pub loop-preserved : goal.loop-preserved
loop-preserved c =
    let shapes = c.args.shapes.now in
    goes_on shapes c.args.start c.loop.counter c.loop.id c.loop.invariant (omega arith) _ c.in_ok-shape.ensures.entry
    ∙ ap (by_next (length shapes - (c.loop.counter + 1)) shapes c.in_ok-shape.shape.now) (sym c.in-Some.ensures)

pub returns : goal.returns
returns c =
    let shapes = c.args.shapes.now in
    let none_left : length shapes - c.loop.counter ≡ zero = omega arith in
    sym (c.loop.invariant ∙ ap (λ n. reached_within n shapes c.loop.id) none_left)
