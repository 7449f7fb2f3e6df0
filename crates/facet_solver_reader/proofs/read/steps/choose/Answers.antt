use Rattle.std.proofs.Common.{◌≡◌, ◌∙◌, sym, subst, true, false, inl, inr}
use Rattle.std.proofs.Common.{refl}
use Rattle.facet_solver_reader.specs.Branches.{CanBePresent, ReadsPart}
use Rattle.facet_solver_reader.specs.Counted.{Counted}
use Rattle.facet_solver_reader.specs.Known.{Chooses, HasChoice}
use Rattle.facet_solver_reader.specs.Objects.{Touches}
use Rattle.facet_solver_reader.specs.Parts.{a_selection}
use Rattle.facet_solver_reader.specs.Reading.{object_view}
use Rattle.facet_solver_reader.specs.Readings.{ReadsValue}
use Rattle.facet_solver_reader.specs.Tables.{ListIsServed, rules_at}
use Rattle.facet_solver_reader.specs.UnderWay.{AreKnownCounts}
use Rattle.facet_solver_reader.specs.Views.{list_view, selection_view}
use Rattle.facet_solver_reader.proofs.CountingObjects.{seen_read}
use Rattle.facet_solver_reader.proofs.Picked.{picked_counted}
use Rattle.facet_solver_reader.proofs.Quantifiers.{all_at}
use Rattle.facet_solver_reader.proofs.ReadOnce.{not_one_of}
use Rattle.facet_solver_reader.proofs.Selections.{count_of_absent, reads_absent}
use Rattle.facet_solver_reader.proofs.read.steps.choose.Goals as goal
use Rattle.facet_solver_reader.proofs.read.steps.choose.Goals.{
  else-selection-via-then-selection+else-not-touches,
  else-selection-via-else-selection,
  in-Some-take,
  in-None+in_ok-known-in-None,
}

pub returns-then-not-touches-clause-chosen : goal.returns-then-not-touches-clause-chosen
returns-then-not-touches-clause-chosen c =
    let rules = rules_at c.args.tables.now in
    let object = object_view c.args.nodes.now c.args.object.now in
    let s = selection_view c.args.selection.now in
    let untouched : Touches rules object s → ⊥ = λ touched.
    let is : c.touches.result ≡ true = c.touches.ensures.1 touched in
    let isnt : c.touches.result ≡ false = c.if-not-touches.true in
    absurd (cc) in (
      reads_absent rules (ReadsValue rules) object s c.if-selection.true untouched,
      count_of_absent rules (ReadsValue rules) object s c.if-selection.true untouched,
    )

pub is_sure-requires-clause-branch : goal.is_sure-requires-clause-branch
is_sure-requires-clause-branch c =
    let ids = (selection_view c.args.selection.now).branches in
    all_at (ListIsServed c.args.tables.now) ids c.in-Some.k (list_view c.index.result.now)
    c.requires.served
    (seen_read list_view c.args.selection.now.branches.items ids c.in-Some.k c.index.result.now refl
    c.in-Some.ensures.within c.index.ensures)

pub is_sure-requires-clause-at : goal.is_sure-requires-clause-at
is_sure-requires-clause-at c =
    let ids = (selection_view c.args.selection.now).branches in (
      c.in-Some.k,
      seen_read list_view c.args.selection.now.branches.items ids c.in-Some.k c.index.result.now
          refl c.in-Some.ensures.within c.index.ensures,
    )

pub returns-then-is_sure-clause-chosen : goal.returns-then-is_sure-clause-chosen
returns-then-is_sure-clause-chosen c =
    let t = c.args.tables.now in
    let s = selection_view c.args.selection.now in
    let present : CanBePresent (rules_at t) (object_view c.args.nodes.now c.args.object.now) s =
    elim c.else-selection.branch [
      | else-selection-via-then-selection+else-not-touches w ↦
          inr (w.touches.ensures.0 w.if-not-touches.false)
      | else-selection-via-else-selection w ↦ inl w.if-selection.false
    ] in
    let at = seen_read list_view c.args.selection.now.branches.items s.branches c.in-Some.k
    c.index.result.now refl c.in-Some.ensures.within c.index.ensures in
    let sure = c.is_sure.ensures c.if-is_sure.true in
    let is = c.requires.sound.tables.lists sure.index sure.list sure.listed in
    record {
      present = present;
      alone = c.in-Some.ensures.alone;
      branch = list_view c.index.result.now;
      branch_is = at;
      chosen = subst (λ i. HasChoice (Chooses (rules_at t).lists i)) sure.same is.chosen;
      sure = inl sure;
    }

pub returns-in_default-count_selection : goal.returns-in_default-count_selection
returns-in_default-count_selection c =
    let t = c.args.tables.now in
    let rules = rules_at t in
    let R = ReadsPart rules (ReadsValue rules) (object_view c.args.nodes.now c.args.object.now)
    (a_selection (selection_view c.args.selection.now)) in
    record {
      sound = elim c.match-take.branch [
        | in-Some-take w ↦ rw w.memo-is c.requires.sound
        | in-None+in_ok-known-in-None w ↦ rw w.memo-is w.in_ok-known-in-None.ensures.sound
      ];
      counts = tt;
      chosen = tt;
      none = not_one_of R c.count_selection.result c.in_default-count_selection.not-One
          c.count_selection.ensures;
    }

pub returns-clause-counts : goal.returns-clause-counts
returns-clause-counts c = elim c.match-take.branch [
  | in-Some-take w ↦
      let known = subst (AreKnownCounts c.args.tables.now c.args.nodes.now c.args.object.now)
      (sym c.take.ensures.value ∙ w.in-Some-take.is) c.requires.counts in
      rw w.known-is known
  | in-None+in_ok-known-in-None w ↦
      rw w.known-is
      (w.in_ok-known-in-None.ensures.counts, w.in_ok-known-in-None.ensures.all)
]

pub returns-clause-chosen : goal.returns-clause-chosen
returns-clause-chosen c =
    let t = c.args.tables.now in
    let s = selection_view c.args.selection.now in
    let rules = rules_at t in
    let R = ReadsPart rules (ReadsValue rules) (object_view c.args.nodes.now c.args.object.now)
    (a_selection s) in
    let present : CanBePresent rules (object_view c.args.nodes.now c.args.object.now) s =
    elim c.else-selection.branch [
      | else-selection-via-then-selection+else-not-touches w ↦
          inr (w.touches.ensures.0 w.if-not-touches.false)
      | else-selection-via-else-selection w ↦ inl w.if-selection.false
    ] in
    picked_counted t c.args.nodes.now c.args.object.now s present
    (subst (Counted R) c.in-One.is c.count_selection.ensures) c.chosen_branch-chosen.result
    c.chosen_branch-chosen.ensures
