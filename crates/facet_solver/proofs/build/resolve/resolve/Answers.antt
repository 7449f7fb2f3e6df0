use Rattle.std.proofs.Common.{ap, ◌∙◌, sym, subst}
use Rattle.std.proofs.lemmas.Result.{err_from_is_err_and}
use Rattle.facet_solver.specs.build.Walk.{walk_root}
use Rattle.facet_solver_shape.specs.Resolved.{Resolved}
use Rattle.facet_solver.specs.build.Outcome.{effect, StopsBy}
use Rattle.facet_solver.specs.build.Build.{build_of}
use Rattle.facet_solver.specs.build.Choice.{IsResolution}
use Rattle.facet_solver.proofs.ChoiceResolutions.{choice-walked, resolution-is, stops-duplicate}
use Rattle.facet_solver.proofs.build.resolve.resolve.Goals as goal

pub walk_root-requires-clause-walked : goal.walk_root-requires-clause-walked
walk_root-requires-clause-walked c =
    choice-walked (build_of c.args.walker.now.build) c.args.root c.args.choice.now c.requires.choice

pub returns-in_err-walk_root-clause-refused : goal.returns-in_err-walk_root-clause-refused
returns-in_err-walk_root-clause-refused c =
    let build = build_of c.args.walker.now.build in
    let p = err_from_is_err_and c.from_residual.result c.from_residual.ensures.1 in
    rw (p.1, p.2)
    (stops-duplicate build c.args.root c.args.choice.now _ c.requires.choice
    (subst (λ (r : Resolved). StopsBy (effect r (walk_root build c.args.root c.args.choice.now)) c.in_err-walk_root.field-0.0) c.new-resolution.ensures c.in_err-walk_root.ensures))

pub returns-clause-resolved : goal.returns-clause-resolved
returns-clause-resolved c =
    let build = build_of c.args.walker.now.build in
    subst (λ (r : Resolved). IsResolution build c.args.root c.args.choice.now r) (sym c.in_ok-finish.ensures)
    (resolution-is build c.args.root c.args.choice.now c.in_ok-walk_root.field-0.now _ c.requires.choice
    (ap (λ (r : Resolved). effect r (walk_root build c.args.root c.args.choice.now)) (sym c.new-resolution.ensures) ∙ c.in_ok-walk_root.ensures))
