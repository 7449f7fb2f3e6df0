use Rattle.std.proofs.Common.{◌≡◌, ◌<◌, ◌≤◌, ◌+◌, ℕ, List, ap, arith, length, slice_get, subst, sym, take, ◌∙◌}
use Rattle.std.proofs.lemmas.List.{length_push}
use Rattle.facet_solver_shape.specs.declared.shape.ShapeKind.{ShapeKind}
use Rattle.facet_solver.specs.build.Build.{kind_at, kind_of}
use Rattle.facet_solver.specs.build.Nested.{entered_view}
use Rattle.facet_solver.specs.build.FieldCount.{field_count}
use Rattle.facet_solver.specs.build.NestedTable.{AreFirstEntries, IsFilled, KindAsks, is_marked}
use Rattle.facet_solver.specs.declared.build.nested.table.Entry.{Entry}
use Rattle.facet_solver.proofs.Counted.{no_fall-trans}
use Rattle.facet_solver.proofs.NestedTable.{all_marked, asked_next, fields_mono, next_made, one_entry, shape_visits_more}
use Rattle.facet_solver.proofs.build.nested.table.NestedTable.new.Goals as goal

pub entry-requires-clause-asked : goal.entry-requires-clause-asked
entry-requires-clause-asked c = λ wanted.
    let e = entered_view c.args.entered in
    let cat = c.args.build.shapes.now in
    let ts = c.loop-entered.by_index.items in
    let at : c.len-index.result ≡ length ts = omega (arith, c.loop-entered.by_index.ok.0) in
    let index : c.new-in-loop-entered.result ≡ length ts = omega (arith, at, c.new-in-loop-entered.ensures) in
    let here = ap (slice_get cat) (sym index) ∙ c.shape-shape.ensures.found in
    let under = c.is_marked.ensures ∙ ap (is_marked c.args.marks.now) at in
    let variants = c.is_marked-in-loop-entered.ensures ∙ ap (is_marked c.args.apart.now) at in
    subst (λ (k : ShapeKind). KindAsks (IsFilled c.as_slice.result.now) e cat k) (ap kind_of here)
    (subst (λ (us : List Entry). KindAsks (IsFilled us) e cat (kind_at cat (length ts))) (sym c.as_slice.ensures.value)
    (asked_next e cat c.args.marks.now c.args.apart.now ts c.loop-entered.invariant.0 c.shape-shape.ensures.checked c.requires.closed c.requires.asked (rw (← under, ← variants) wanted)))

pub loop-entered-preserved : goal.loop-entered-preserved
loop-entered-preserved c =
    let e = entered_view c.args.entered in
    let cat = c.args.build.shapes.now in
    let marks = c.args.marks.now in
    let apart = c.args.apart.now in
    let ts = c.loop-entered.by_index.items in
    let s = c.shape-shape.result.now in
    let entry = c.in_ok-entry.entry in
    let first = c.loop-entered.invariant.0 in
    let at : c.len-index.result ≡ length ts = omega (arith, c.loop-entered.by_index.ok.0) in
    let index : c.new-in-loop-entered.result ≡ length ts = omega (arith, at, c.new-in-loop-entered.ensures) in
    let here = ap (slice_get cat) (sym index) ∙ c.shape-shape.ensures.found in
    let within : length ts < length marks = omega (arith, c.loop-entered-test.true, c.loop-entered.by_index.ok.0) in
    let under = c.is_marked.ensures ∙ ap (is_marked marks) at in
    let variants = c.is_marked-in-loop-entered.ensures ∙ ap (is_marked apart) at in
    let next = next_made _ marks apart ts first _ s.kind entry c.as_slice.ensures.value (ap kind_of here) under variants c.in_ok-entry.ensures.made in
    let longer = ap length c.in_ok-push.ensures.items ∙ length_push ts entry in (
      subst (λ (us : List Entry). AreFirstEntries e cat marks apart us) (sym c.in_ok-push.ensures.items)
          (one_entry e cat marks apart ts first entry next within),
      subst (λ (n : ℕ). c.entry.new.steps.visits ≤ c.args.steps.now.visits + field_count (take n cat)) (sym longer)
          (shape_visits_more cat (length ts) s _ _ _ here c.loop-entered.invariant.1 c.entry.ensures.visits),
      no_fall-trans _ _ _ c.loop-entered.invariant.2 c.entry.ensures.no_fall,
    )

-- an entry that is refused, or can't be put in
pub returns-in_err-entry-clause-visits : goal.returns-in_err-entry-clause-visits
returns-in_err-entry-clause-visits c =
    let cat = c.args.build.shapes.now in
    let ts = c.loop-entered.by_index.items in
    let at : c.len-index.result ≡ length ts = omega (arith, c.loop-entered.by_index.ok.0) in
    let index : c.new-in-loop-entered.result ≡ length ts = omega (arith, at, c.new-in-loop-entered.ensures) in
    let here = ap (slice_get cat) (sym index) ∙ c.shape-shape.ensures.found in
    let within : length ts + 1 ≤ length c.args.marks.now = omega (arith, c.loop-entered-test.true, c.loop-entered.by_index.ok.0) in
    let more = shape_visits_more cat (length ts) c.shape-shape.result.now _ _ _ here c.loop-entered.invariant.1 c.entry.ensures.visits in
    let le = fields_mono cat (length ts + 1) (length c.args.marks.now) within in
    omega (arith, more, le)

pub returns-in_err-push-clause-visits : goal.returns-in_err-push-clause-visits
returns-in_err-push-clause-visits c =
    let cat = c.args.build.shapes.now in
    let ts = c.loop-entered.by_index.items in
    let at : c.len-index.result ≡ length ts = omega (arith, c.loop-entered.by_index.ok.0) in
    let index : c.new-in-loop-entered.result ≡ length ts = omega (arith, at, c.new-in-loop-entered.ensures) in
    let here = ap (slice_get cat) (sym index) ∙ c.shape-shape.ensures.found in
    let within : length ts + 1 ≤ length c.args.marks.now = omega (arith, c.loop-entered-test.true, c.loop-entered.by_index.ok.0) in
    let more = shape_visits_more cat (length ts) c.shape-shape.result.now _ _ _ here c.loop-entered.invariant.1 c.entry.ensures.visits in
    let le = fields_mono cat (length ts + 1) (length c.args.marks.now) within in
    omega (arith, more, le)

pub returns-clause-marked : goal.returns-clause-marked
returns-clause-marked c =
    all_marked (λ entry. entry.under) c.loop-entered.by_index.items c.args.marks.now c.loop-entered.invariant.0.marked
    (omega (arith, c.loop-entered-test.false, c.loop-entered.by_index.ok.0))

pub returns-clause-apart : goal.returns-clause-apart
returns-clause-apart c =
    all_marked (λ entry. entry.variants) c.loop-entered.by_index.items c.args.apart.now c.loop-entered.invariant.0.apart_marked
    (omega (arith, c.loop-entered-test.false, c.loop-entered.by_index.ok.0, c.requires.apart_within))
