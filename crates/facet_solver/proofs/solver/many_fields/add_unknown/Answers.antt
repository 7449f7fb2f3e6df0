use Rattle.std.proofs.Common.{◌∷◌, ◌++◌, [], length, ap, refl, sym, ◌∙◌, append-nil, append_assoc, arith}
use Rattle.facet_solver_shape.specs.Steps.{StepCounts}
use Rattle.facet_solver_shape.specs.Keys.{key_of}
use Rattle.facet_solver.specs.solver.KeyResult.{distinct_fields}
use Rattle.facet_solver.proofs.IndexSet.{rest_more}
use Rattle.facet_solver.proofs.Counted.{no_fall-trans, searched}
use Rattle.facet_solver.proofs.solver.many_fields.add_unknown.Goals as goal

pub loop-index-init : goal.loop-index-init
loop-index-init c =
    let search = c.args.search.now in
    let shown = distinct_fields (key_of search.key) search.schema.now in
    record {
      known = c.requires;
      shown = ([], refl, λ seen so_far. so_far ∙ ap shown (sym (append-nil seen)));
      words = omega arith;
      searches = omega arith;
      no_fall = record { words = omega arith; searches = omega arith; visits = omega arith };
    }

pub loop-index-preserved : goal.loop-index-preserved
loop-index-preserved c =
    let search = c.args.search.now in
    let shown = distinct_fields (key_of search.key) search.schema.now in
    let before = c.loop-index.invariant in
    let step = c.in-Some.ensures.next in
    let added = c.in_ok-add_if_unknown.ensures in
    let words = ap (λ (s : StepCounts). s.words) added.steps in
    let searches = ap (λ (s : StepCounts). s.searches) added.steps in
    let shorter = ap length step in
    let yielded = before.shown.0 in
    record {
      known = added.shapes;
      shown = (
        yielded ++ c.in-Some.index ∷ [],
        rest_more yielded _ _ _ c.in-Some.index before.shown.1 step,
        λ seen so_far.
            added.fields (seen ++ yielded) (before.shown.2 seen so_far)
            ∙ ap shown (append_assoc seen yielded (c.in-Some.index ∷ [])),
      );
      words = omega (arith, words, c.in-Some.ensures.unread, before.words);
      searches = omega (arith, searches, shorter, c.in-Some.ensures.searches, before.searches);
      no_fall = no_fall-trans _ _ _ (no_fall-trans _ _ _ before.no_fall c.in-Some.ensures.no_fall) (searched _ _ added.steps);
    }
