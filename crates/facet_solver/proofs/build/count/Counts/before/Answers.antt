use Rattle.std.proofs.Common.{◌≡◌, ◌+◌, ◌≤◌, Bool, List, ℕ, length, slice_get, subst, sym, take, ap, ◌∙◌, arith}
use Rattle.std.proofs.lemmas.List.{length_push}
use Rattle.std.proofs.lemmas.Option.{slice_get_within}
use Rattle.facet_solver.specs.build.Build.{build_of}
use Rattle.facet_solver.specs.build.Count.{count_kind}
use Rattle.facet_solver.specs.build.Counts.{AreFirstCounts, CountsTo}
use Rattle.facet_solver.specs.build.FieldCount.{field_count}
use Rattle.facet_solver.specs.declared.build.count.saturating.SaturatingCount.{SaturatingCount}
use Rattle.facet_solver.proofs.Counted.{no_fall-trans}
use Rattle.facet_solver.proofs.Count.{one_more_entry}
use Rattle.facet_solver.proofs.NestedTable.{fields_mono, shape_visits_more}
use Rattle.facet_solver.proofs.build.count.Counts.before.Goals as goal

pub count_shape-requires-clause-below : goal.count_shape-requires-clause-below
count_shape-requires-clause-below c =
    let ts = c.loop-build.by_index.items in
    let index : c.new.result ≡ length ts = omega (arith, c.loop-build.by_index.ok.0) in
    let here = ap (slice_get c.args.build.shapes.now) (sym index) ∙ c.shape-shape.ensures.found in
    rw c.as_slice.ensures.value ((c.requires.checked (length ts) c.shape-shape.result.now here).kind)

pub loop-build-preserved : goal.loop-build-preserved
loop-build-preserved c =
    let build = build_of c.args.build in
    let cat = c.args.build.shapes.now in
    let ts = c.loop-build.by_index.items in
    let s = c.shape-shape.result.now in
    let t = c.count_shape.result in
    let index : c.new.result ≡ length ts = omega (arith, c.loop-build.by_index.ok.0) in
    let here = ap (slice_get cat) (sym index) ∙ c.shape-shape.ensures.found in
    let within = slice_get_within cat (length ts) s here in
    let counted = subst (λ (walked : Bool). CountsTo t (count_kind build walked s.kind)) c.walks_content-walked.ensures c.count_shape.ensures.shape in
    let longer = ap length c.in_ok-push.ensures.items ∙ length_push ts t in (
      subst (λ (us : List SaturatingCount). AreFirstCounts build us) (sym c.in_ok-push.ensures.items)
          (one_more_entry build ts t s c.loop-build.invariant.0 within here counted),
      omega (arith, longer, index, c.loop-build-test.true),
      subst (λ (n : ℕ). c.count_shape.new.steps.visits ≤ c.args.steps.now.visits + field_count (take n cat)) (sym longer)
          (shape_visits_more cat (length ts) s _ _ _ here c.loop-build.invariant.2 c.count_shape.ensures.visits),
      no_fall-trans _ _ _ c.loop-build.invariant.3 c.count_shape.ensures.no_fall,
    )

pub returns-in_err-push-clause-visits : goal.returns-in_err-push-clause-visits
returns-in_err-push-clause-visits c =
    let cat = c.args.build.shapes.now in
    let ts = c.loop-build.by_index.items in
    let index : c.new.result ≡ length ts = omega (arith, c.loop-build.by_index.ok.0) in
    let here = ap (slice_get cat) (sym index) ∙ c.shape-shape.ensures.found in
    let more = shape_visits_more cat (length ts) c.shape-shape.result.now _ _ _ here c.loop-build.invariant.2 c.count_shape.ensures.visits in
    let below : length ts + 1 ≤ c.args.limit = omega (arith, index, c.loop-build-test.true) in
    let le = fields_mono cat (length ts + 1) c.args.limit below in
    omega (arith, more, le)
