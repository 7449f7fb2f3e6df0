use Rattle.std.proofs.Common.{◌≡◌, sym, ◌∙◌}
use Rattle.facet_solver_shape.specs.Pointers.{end_of}
use Rattle.facet_solver_shape.proofs.Pointers.{end_of_is_end, end_of-last, end_of-next, fewer_steps, pointee_within}
use Rattle.facet_solver_shape.proofs.shape.catalogue.Shapes.end_of.Goals as goal

pub loop-next-smaller : goal.loop-next-smaller
loop-next-smaller c = fewer_steps _ c.pointee.ensures.checked _ _ (sym c.pointee.ensures.value ∙ c.in-Some.is)

pub loop-next-preserved : goal.loop-next-preserved
loop-next-preserved c =
    let leads = sym c.pointee.ensures.value ∙ c.in-Some.is in
    (sym (end_of-next _ c.pointee.ensures.checked _ _ leads) ∙ c.loop-next.invariant.0, λ _. pointee_within _ c.pointee.ensures.checked _ _ leads)

pub returns-clause-is_end : goal.returns-clause-is_end
returns-clause-is_end c =
    let last = end_of-last _ c.pointee.ensures.checked _ (sym c.pointee.ensures.value ∙ c.in_default.is) in
    let reached : end_of c.args.self.now c.args.id ≡ c.loop-next.end = sym c.loop-next.invariant.0 ∙ last in
    rw reached at (end_of_is_end _ c.pointee.ensures.checked c.args.id)
