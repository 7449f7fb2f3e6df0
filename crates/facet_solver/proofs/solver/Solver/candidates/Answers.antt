use Rattle.std.proofs.Common.{◌++◌, ◌∷◌, [], map, ap, ◌∙◌}
use Rattle.std.proofs.lemmas.List.{map-append}
use Rattle.std.proofs.lemmas.List.Elements.{All-push}
use Rattle.facet_solver.specs.schema.ResolutionHandle.{IsHandleOf, index_of}
use Rattle.facet_solver.proofs.IndexSet.{rest_more}
use Rattle.facet_solver.proofs.solver.Solver.candidates.Goals as goal

pub loop-index-preserved : goal.loop-index-preserved
loop-index-preserved c =
    let before = c.loop-index.invariant in
    let handles = c.loop-index.handles.items in
    record {
      parts = rest_more c.loop-index.yielded _ _ _ c.in-Some.index before.parts c.in-Some.ensures.steps;
      indices = ap (map index_of) c.in_ok-push.ensures.items
          ∙ map-append index_of handles (c.new.result ∷ [])
          ∙ (λ j. before.indices j ++ c.new.ensures.index j ∷ []);
      handles = rw c.in_ok-push.ensures.items (All-push (IsHandleOf c.self.inside.schema.now) handles c.new.result before.handles c.new.ensures.of_schema);
    }
