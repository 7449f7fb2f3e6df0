use Rattle.std.proofs.Common.{◌≡◌, ℕ, [], ◌∷◌, ◌++◌, ap, ◌∙◌, map, reverse, List}
use Rattle.std.proofs.lemmas.List.{reverse-append}
use Rattle.facet_solver_reader.specs.declared.place.PlaceSegment.{PlaceSegment}
use Rattle.facet_solver_reader.specs.Places.{PlaceStep, at, step_of, inside}
use Rattle.facet_solver_reader.specs.Nodes.{value_of}
use Rattle.facet_solver_reader.proofs.Trees.{at-step}
use Rattle.facet_solver_reader.proofs.Numbering.{parent_read, parent_within, stands_inside}
use Rattle.facet_solver_reader.proofs.nodes.Nodes.place.Goals as goal

pub loop-inner-smaller : goal.loop-inner-smaller
loop-inner-smaller c =
    (stands_inside c.args.self.now c.requires.under_way c.loop-inner.inner c.index.result.now c.loop-inner-test.true c.loop-inner.invariant.within c.index.ensures).earlier

pub loop-inner-preserved : goal.loop-inner-preserved
loop-inner-preserved c =
    let nodes = c.args.self.now in
    let inner = c.loop-inner.inner in
    let so_far : List PlaceStep = map step_of (reverse c.loop-inner.segments.items) in
    let segment = c.last_segment.result in
    let segments : c.push.new.self.items ≡ c.loop-inner.segments.items ++ segment ∷ [] = c.in_ok-push.ensures.items in
    let turned : map step_of (reverse c.push.new.self.items) ≡ step_of segment ∷ so_far =
    ap (λ (ss : List PlaceSegment). map step_of (reverse ss)) segments
    ∙ ap (map step_of) (reverse-append c.loop-inner.segments.items (segment ∷ [])) in
    record {
      within = parent_within nodes c.requires.under_way inner c.index.result.now c.loop-inner-test.true c.loop-inner.invariant.within c.index.ensures;
      leads =
          ap (λ (ss : List PlaceStep). at (value_of nodes c.index.result.now.parent) ss) turned
          ∙ at-step (value_of nodes c.index.result.now.parent) (value_of nodes inner) (step_of segment) so_far
          (ap (λ (p : ℕ). inside (value_of nodes p) (step_of segment)) (parent_read nodes inner c.index.result.now c.loop-inner.invariant.within c.index.ensures) ∙ c.last_segment.ensures)
          ∙ c.loop-inner.invariant.leads;
    }
