use Rattle.std.proofs.Common.{ℕ, List, ◌∷◌, ◌++◌, [], length, map, ap, refl, ◌∙◌, arith}
use Rattle.facet_solver_shape.specs.Steps.{StepCounts}
use Rattle.facet_solver_shape.specs.Keys.{key_of}
use Rattle.facet_solver.specs.Resolutions.{field_at}
use Rattle.facet_solver.specs.solver.KeyResult.{distinct_fields, scored_view}
use Rattle.facet_solver.proofs.IndexSet.{rest_more}
use Rattle.facet_solver.proofs.KeyResultFields.{all_shown}
use Rattle.facet_solver.proofs.Counted.{no_fall-trans, searched}
use Rattle.facet_solver.proofs.solver.distinct_fields.distinct_fields.Goals as goal

pub loop-index-init : goal.loop-index-init
loop-index-init c =
    let words = ap (λ (s : StepCounts). s.words) c.in_ok-add_if_new.ensures.steps in
    let words_2 = ap (λ (s : StepCounts). s.words) c.in_ok-add_if_new-2.ensures.steps in
    let searches = ap (λ (s : StepCounts). s.searches) c.in_ok-add_if_new.ensures.steps in
    let searches_2 = ap (λ (s : StepCounts). s.searches) c.in_ok-add_if_new-2.ensures.steps in
    record {
      shown = ([], refl, c.in_ok-add_if_new-2.ensures.fields (c.args.first ∷ []) (c.in_ok-add_if_new.ensures.fields [] (ap (map scored_view) c.new-fields.ensures.items)));
      words = omega (arith, words, words_2);
      searches = omega (arith, searches, searches_2);
      no_fall = no_fall-trans _ _ _ (searched _ _ c.in_ok-add_if_new.ensures.steps) (searched _ _ c.in_ok-add_if_new-2.ensures.steps);
    }

pub loop-index-preserved : goal.loop-index-preserved
loop-index-preserved c =
    let before = c.loop-index.invariant in
    let step = c.in-Some.ensures.next in
    let words = ap (λ (s : StepCounts). s.words) c.in_ok-add_if_new-3.ensures.steps in
    let searches = ap (λ (s : StepCounts). s.searches) c.in_ok-add_if_new-3.ensures.steps in
    let shorter = ap length step in
    record {
      shown = (
        before.shown.0 ++ c.in-Some.index ∷ [],
        rest_more before.shown.0 _ _ _ c.in-Some.index before.shown.1 step,
        c.in_ok-add_if_new-3.ensures.fields (c.args.first ∷ c.args.second ∷ before.shown.0) before.shown.2,
      );
      words = omega (arith, words, c.in-Some.ensures.unread, before.words);
      searches = omega (arith, searches, shorter, c.in-Some.ensures.searches, before.searches);
      no_fall = no_fall-trans _ _ _ (no_fall-trans _ _ _ before.no_fall c.in-Some.ensures.no_fall) (searched _ _ c.in_ok-add_if_new-3.ensures.steps);
    }

pub returns-then-has_all-clause-fields : goal.returns-then-has_all-clause-fields
returns-then-has_all-clause-fields c =
    let before = c.loop-index.invariant in
    let search = c.args.search.now in
    let key = key_of search.key in
    let indices : List ℕ = c.args.first ∷ c.args.second ∷ before.shown.0 in
    all_shown search.schema.now.build.catalogue (field_at key search.schema.now.resolutions) indices c.loop-index.rest.items c.loop-index.fields.items c.args.known c.requires
    (c.if-has_all.ensures.known refl) (rw c.deref.ensures.value at (c.if-has_all.ensures.all refl)) before.shown.2
    ∙ ap (λ is. distinct_fields key search.schema.now (c.args.first ∷ c.args.second ∷ is)) before.shown.1

pub returns-then-are_many-clause-fields : goal.returns-then-are_many-clause-fields
returns-then-are_many-clause-fields c =
    let before = c.loop-index.invariant in
    let search = c.args.search.now in
    let shown = distinct_fields (key_of search.key) search.schema.now in
    let indices : List ℕ = c.args.first ∷ c.args.second ∷ before.shown.0 in
    c.in_ok-add_rest.ensures.fields (indices ++ c.in-Some.index ∷ []) (c.in_ok-add_if_new-3.ensures.fields indices before.shown.2)
    ∙ ap (λ is. shown (c.args.first ∷ c.args.second ∷ is)) (rest_more before.shown.0 _ _ _ c.in-Some.index before.shown.1 c.in-Some.ensures.next)
