use Rattle.std.proofs.Common.{◌≡◌, ap, arith, length, map, refl, subst, sym, ◌∙◌}
use Rattle.std.proofs.lemmas.Bool.{false≢true}
use Rattle.facet_solver_shape.specs.Keys.{key_of}
use Rattle.facet_solver_shape.specs.Steps.{StepCounts}
use Rattle.facet_solver.specs.set.IndexSet.{IndexSet}
use Rattle.facet_solver.specs.solver.KeyResult.{HaveShape, key_result, unknown}
use Rattle.facet_solver.specs.solver.State.{State, see_key}
use Rattle.facet_solver.proofs.Kept.{left_known, left_long, left_unknown, members_pass, passing_long, seen_from, unknown_key}
use Rattle.facet_solver.proofs.solver.Solver.see_key_counted.Goals as goal
use Rattle.facet_solver.proofs.solver.Solver.see_key_counted.Goals.{then-not-is_unknown, else-not-is_unknown}

pub returns-in_default-clause-answer : goal.returns-in_default-clause-answer
returns-in_default-clause-answer c =
    let s = c.self.inside in
    let key = key_of c.args.key in
    let before : State = record { schema = s.schema.now; candidates = s.candidates.members; seen = map key_of s.seen.keys } in
    sym (unknown_key key before c.in_default.ensures) ∙ ap (key_result key) c.self.view_is

pub returns-in_default-clause-ok : goal.returns-in_default-clause-ok
returns-in_default-clause-ok c =
    let s = c.self.inside in
    let key = key_of c.args.key in
    let before : State = record { schema = s.schema.now; candidates = s.candidates.members; seen = map key_of s.seen.keys } in
    seen_from key before s.candidates.members c.insert.new.self.keys c.args.key s.seen.keys refl refl
    (left_unknown key before (unknown_key key before c.in_default.ensures)) c.in_ok-insert.ensures.keys
    ∙ ap (see_key key) c.self.view_is

pub returns-clause-ok : goal.returns-clause-ok
returns-clause-ok c =
    let s = c.self.inside in
    let key = key_of c.args.key in
    let before : State = record { schema = s.schema.now; candidates = s.candidates.members; seen = map key_of s.seen.keys } in
    elim c.if-not-is_unknown.branch [
      | then-not-is_unknown w ↦
          let known : key_result key before ≡ unknown → ⊥ = λ e. false≢true (sym w.if-not-is_unknown.true ∙ c.is_unknown.ensures.1 (c.in_ok-answer.ensures.answer ∙ e)) in
          w.self-is
          ∙ seen_from key before w.keep_common.new.self.members c.insert-2.new.self.keys c.args.key s.seen.keys refl refl
          (ap (λ (set : IndexSet). set.members) w.keep_common.ensures.kept ∙ members_pass key s.schema.now.resolutions c.in-Some.entry.now c.in-Some.ensures s.candidates.members ∙ left_known key before known) c.in_ok-insert-2.ensures.keys
          ∙ ap (see_key key) c.self.view_is
      | else-not-is_unknown w ↦
          let unseen : key_result key before ≡ unknown = sym c.in_ok-answer.ensures.answer ∙ c.is_unknown.ensures.0 w.if-not-is_unknown.false in
          w.self-is
          ∙ seen_from key before s.candidates.members c.insert-2.new.self.keys c.args.key s.seen.keys refl refl
          (left_unknown key before unseen) c.in_ok-insert-2.ensures.keys
          ∙ ap (see_key key) c.self.view_is
    ]

pub returns-in_err-answer-clause-searches : goal.returns-in_err-answer-clause-searches
returns-in_err-answer-clause-searches c =
    let s = c.self.inside in
    let key = key_of c.args.key in
    let before : State = record { schema = s.schema.now; candidates = s.candidates.members; seen = map key_of s.seen.keys } in
    let same = ap (λ (s : State). length s.candidates) c.self.view_is in
    omega (arith, c.in_err-answer.ensures.searches, passing_long key before, same)

pub returns-in_err-insert-2-clause-searches : goal.returns-in_err-insert-2-clause-searches
returns-in_err-insert-2-clause-searches c =
    let s = c.self.inside in
    let key = key_of c.args.key in
    let before : State = record { schema = s.schema.now; candidates = s.candidates.members; seen = map key_of s.seen.keys } in
    omega (arith, c.in_ok-answer.ensures.searches, passing_long key before)

pub returns-clause-searches : goal.returns-clause-searches
returns-clause-searches c =
    let s = c.self.inside in
    let key = key_of c.args.key in
    let before : State = record { schema = s.schema.now; candidates = s.candidates.members; seen = map key_of s.seen.keys } in
    let same_steps : c.if-not-is_unknown.steps.searches ≡ c.key_result.new.steps.searches =
    elim c.if-not-is_unknown.branch [
      | then-not-is_unknown w ↦ ap (λ (s : StepCounts). s.searches) w.steps-is ∙ w.keep_common.ensures.searches
      | else-not-is_unknown w ↦ ap (λ (s : StepCounts). s.searches) w.steps-is
    ] in
    let left = ap (λ (s : State). length s.candidates) (returns-clause-ok c) in
    let same = ap (λ (s : State). length (see_key key s).candidates) c.self.view_is in
    omega (arith, same_steps, c.in_ok-answer.ensures.searches, left_long key before, same, left)

-- what holds of the resolutions before holds of those of the state
pub returns-in_err-answer-clause-agreed : goal.returns-in_err-answer-clause-agreed
returns-in_err-answer-clause-agreed c = λ shape same.
    c.in_err-answer.ensures.agreed shape
    (subst (HaveShape shape (key_of c.args.key)) (ap (λ (s : State). s.schema.resolutions) (sym c.self.view_is)) same)

pub returns-in_err-insert-2-clause-agreed : goal.returns-in_err-insert-2-clause-agreed
returns-in_err-insert-2-clause-agreed c = λ shape same.
    c.in_ok-answer.ensures.agreed shape
    (subst (HaveShape shape (key_of c.args.key)) (ap (λ (s : State). s.schema.resolutions) (sym c.self.view_is)) same)

pub returns-clause-agreed : goal.returns-clause-agreed
returns-clause-agreed c = λ shape same.
    let none = c.in_ok-answer.ensures.agreed shape
    (subst (HaveShape shape (key_of c.args.key)) (ap (λ (s : State). s.schema.resolutions) (sym c.self.view_is)) same) in
    elim c.if-not-is_unknown.branch [
      | then-not-is_unknown w ↦ ap (λ (s : StepCounts). s.searches) w.steps-is ∙ w.keep_common.ensures.searches ∙ none
      | else-not-is_unknown w ↦ ap (λ (s : StepCounts). s.searches) w.steps-is ∙ none
    ]
