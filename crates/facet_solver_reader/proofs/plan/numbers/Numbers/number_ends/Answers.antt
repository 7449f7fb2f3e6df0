use Rattle.std.proofs.Common.{◌≡◌, ◌∙◌, ◌+◌, ap, sym, subst, refl, ℕ, Some, arith, slice_get}
use Rattle.std.proofs.lemmas.Option.{slice_get_read, slice_get_within}
use Rattle.facet_solver_reader.specs.declared.plan.numbers.Numbers.{Numbers}
use Rattle.facet_solver_reader.specs.Parts.{of_shape}
use Rattle.facet_solver_reader.specs.PlanNumbers.{HasNumber}
use Rattle.facet_solver_reader.proofs.PlanNumbers.{EndsUpto, ends_none, ends_skip, ends_some}
use Rattle.facet_solver_reader.proofs.plan.numbers.Numbers.number_ends.Goals as goal
use Rattle.facet_solver_reader.proofs.plan.numbers.Numbers.number_ends.Goals.{in-Some+in_ok-number_end-in-Some, in-None}

pub loop-index-init : goal.loop-index-init
loop-index-init c = ends_none c.args.tables.now c.args.self.now c.requires.numbers

pub loop-index-preserved : goal.loop-index-preserved
loop-index-preserved c =
    let t = c.args.tables.now in
    let start = c.args.self.now in
    let i = c.loop-index.index in
    let here : slice_get t.ends.items i ≡ Some c.index.result.now =
    slice_get_read t.ends.items _ i c.index.result.now refl (omega (arith, t.ends.ok.0)) c.index.ensures in
    elim c.match-index.branch [
      | in-Some+in_ok-number_end-in-Some w ↦
          let new = w.number_end.new.self in
          let done = w.in_ok-number_end-in-Some.ensures in
          subst (λ (s : Numbers). EndsUpto t start s (i + 1)) (sym w.self-is)
          (ends_some t start c.loop-index.self new i _ c.loop-index.invariant done.more
          (here ∙ ap Some w.in-Some.is)
          (subst (λ (k : ℕ). HasNumber new (of_shape k)) w.new.ensures done.shape) done.variants)
      | in-None w ↦
          subst (λ (s : Numbers). EndsUpto t start s (i + 1)) (sym w.self-is)
          (ends_skip t start c.loop-index.self i c.loop-index.invariant (here ∙ ap Some w.in-None.is))
    ]

pub returns-clause-numbered : goal.returns-clause-numbered
returns-clause-numbered c =
    let t = c.args.tables.now in
    record {
      shapes = λ id e at.
          c.loop-index.invariant.shapes id e
          (let l = slice_get_within t.ends.items id _ at in
          omega (arith, l, c.loop-index-test.false, c.len-index-end.ensures, t.ends.ok.0)) at;
      variants = λ id e at.
          c.loop-index.invariant.variants id e
          (let l = slice_get_within t.ends.items id _ at in
          omega (arith, l, c.loop-index-test.false, c.len-index-end.ensures, t.ends.ok.0)) at;
    }
