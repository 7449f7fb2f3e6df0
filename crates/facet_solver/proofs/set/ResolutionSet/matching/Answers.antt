use Rattle.std.proofs.Common.{◌<◌, ap, sym, ◌∙◌}
use Rattle.facet_solver.specs.set.IndexSet.{matches_view}
use Rattle.facet_solver.proofs.IndexSet.{rest_more, item_passes, first_passes}
use Rattle.facet_solver.proofs.set.ResolutionSet.matching.Goals as goal

pub loop-index-preserved-in-None-found : goal.loop-index-preserved-in-None-found
loop-index-preserved-in-None-found g c =
    let before = c.loop-index.invariant in
    let step = c.in-Some.ensures.steps in
    record {
      parts = rest_more c.loop-index.yielded _ _ _ c.in-Some.index before.parts step;
      number = first_passes (g.C.Condition.holds c.args.condition.now) c.loop-index.yielded c.in-Some.index (sym before.number ∙ ap matches_view c.in-None-found.is) (sym c.holds.ensures ∙ c.if-holds.true);
      within = item_passes (λ i. i < c.args.self.now.bound) c.loop-index.yielded _ _ _ c.in-Some.index before.parts step c.iter-index-items.ensures.within;
    }
