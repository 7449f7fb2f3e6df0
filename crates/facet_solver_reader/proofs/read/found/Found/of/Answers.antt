use Rattle.std.proofs.Common.{◌≡◌, ◌++◌, ◌∷◌, [], ◌∙◌, ap, sym, map, List, length, arith}
use Rattle.std.proofs.Common.{append_assoc, append-nil}
use Rattle.std.specs.Vec.Iter.{into_iter_items}
use Rattle.std.proofs.lemmas.List.{map-append}
use Rattle.facet_solver_reader.specs.declared.read.steps.Step.{Step}
use Rattle.facet_solver_reader.specs.Found as spec
use Rattle.facet_solver_reader.specs.Planned.{step_view}
use Rattle.facet_solver_reader.proofs.FoundSteps.{absences_in-append, places_in-append}
use Rattle.facet_solver_reader.proofs.FoundSteps.{selections_in-append}
use Rattle.facet_solver_reader.proofs.read.found.Found.of.Goals as goal

-- a list of no length has nothing
none_left : (ss : List Step) → length ss ≡ 0 → ss ≡ []
none_left [] h = cc
none_left (s ∷ ss) h = absurd (omega arith)

pub loop-step-preserved : goal.loop-step-preserved
loop-step-preserved c =
    let at = c.loop-step in
    let shapes = c.args.shapes.now in
    let ss = map step_view at.yielded in
    let s = step_view c.in-Some.step in
    let next : into_iter_items at.step-iterator ≡ c.in-Some.step ∷ into_iter_items c.next.new.self =
    c.in-Some.ensures.steps.0 in
    let more = map-append step_view at.yielded (c.in-Some.step ∷ []) in
    record {
      all = append_assoc at.yielded (c.in-Some.step ∷ []) _ ∙ rw (← next) at.invariant.all;
      len = let was = at.invariant.len in
          let gone = c.in-Some.ensures.steps.1 in
          let short = ap length next in
          omega arith;
      selections = c.in_ok-add.ensures.selections
          ∙ (ap (λ xs. xs ++ spec.selections_in shapes (s ∷ [])) at.invariant.selections
          ∙ sym (ap (spec.selections_in shapes) more ∙ selections_in-append shapes ss (s ∷ [])));
      absent = c.in_ok-add.ensures.absent
          ∙ (ap (λ xs. xs ++ spec.absences_in (s ∷ [])) at.invariant.absent
          ∙ sym (ap spec.absences_in more ∙ absences_in-append ss (s ∷ [])));
      fields = c.in_ok-add.ensures.fields
          ∙ (ap (λ xs. xs ++ spec.places_in (s ∷ [])) at.invariant.fields
          ∙ sym (ap spec.places_in more ∙ places_in-append ss (s ∷ [])));
    }

pub returns-clause-selections : goal.returns-clause-selections
returns-clause-selections c =
    let at = c.loop-step in
    let empty : into_iter_items at.step-iterator ≡ [] =
    none_left (into_iter_items at.step-iterator) (sym at.invariant.len ∙ c.in-None.ensures.steps.0) in
    let all : at.yielded ≡ c.args.steps.items =
    sym (append-nil at.yielded) ∙ (rw empty at at.invariant.all
    ∙ c.into_iter-step-iterator.ensures.into_iter_gives.0) in
    at.invariant.selections
    ∙ ap (λ xs. spec.selections_in c.args.shapes.now (map step_view xs)) all

pub returns-clause-absent : goal.returns-clause-absent
returns-clause-absent c =
    let at = c.loop-step in
    let empty : into_iter_items at.step-iterator ≡ [] =
    none_left (into_iter_items at.step-iterator)
    (sym at.invariant.len ∙ c.in-None.ensures.steps.0) in
    let all : at.yielded ≡ c.args.steps.items =
    sym (append-nil at.yielded) ∙ (rw empty at at.invariant.all
    ∙ c.into_iter-step-iterator.ensures.into_iter_gives.0) in
    at.invariant.absent ∙ ap (λ xs. spec.absences_in (map step_view xs)) all

pub returns-clause-fields : goal.returns-clause-fields
returns-clause-fields c =
    let at = c.loop-step in
    let empty : into_iter_items at.step-iterator ≡ [] =
    none_left (into_iter_items at.step-iterator) (sym at.invariant.len ∙ c.in-None.ensures.steps.0) in
    let all : at.yielded ≡ c.args.steps.items =
    sym (append-nil at.yielded) ∙ (rw empty at at.invariant.all
    ∙ c.into_iter-step-iterator.ensures.into_iter_gives.0) in
    at.invariant.fields ∙ ap (λ xs. spec.places_in (map step_view xs)) all
