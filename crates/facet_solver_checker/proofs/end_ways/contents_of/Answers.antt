use Rattle.std.proofs.Common.{All, arith, take}
use Rattle.std.specs.List.{Contains}
use Rattle.std.proofs.lemmas.List.Elements.{All-contains, All-more, All-weaker}
use Rattle.facet_solver_reader.specs.declared.plan.PlannedName.{PlannedName}
use Rattle.facet_solver_checker.specs.EndWays.{HasContent}
use Rattle.facet_solver_checker.proofs.Loops.{all_done}
use Rattle.facet_solver_checker.proofs.end_ways.contents_of.Goals as goal

pub loop-variant-preserved : goal.loop-variant-preserved
loop-variant-preserved c =
    let x = c.args.name.now in
    let old = c.loop-variant.contents.items in
    let new = c.push_content.new.contents.items in
    All-more (HasContent x new) c.args.names.now c.loop-variant.variant-index _
    c.loop-variant-test.true
    (All-weaker (HasContent x old) (HasContent x new)
    (λ (p : PlannedName) h e. All-contains (Contains new) old p.content
    c.in_ok-push_content.ensures.kept (h e))
    (take c.loop-variant.variant-index c.args.names.now) c.loop-variant.invariant)
    c.in_ok-push_content.ensures.added

pub returns : goal.returns
returns c =
    all_done (HasContent c.args.name.now c.loop-variant.contents.items) c.args.names.now
    c.loop-variant.variant-index (omega (arith, c.loop-variant-test.false)) c.loop-variant.invariant
