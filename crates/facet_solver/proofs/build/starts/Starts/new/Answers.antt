use Rattle.std.proofs.Common.{◌≡◌, ◌∙◌, ℕ, List, ap, arith, eq-eqb, length, slice_get, subst, sym, true}
use Rattle.std.specs.Prelude.{Vec}
use Rattle.std.specs.declared.alloc.Global.{Global}
use Rattle.std.proofs.lemmas.Option.{slice_get_within}
use Rattle.facet_solver.specs.build.Build.{build_of, repr_for}
use Rattle.facet_solver_shape.specs.Representation.{is_walked}
use Rattle.facet_solver.specs.build.Starts.{IsMoreStarts, starts_or_none}
use Rattle.facet_solver.proofs.Roles.{KindBelow-mono}
use Rattle.facet_solver.proofs.Starts.{none_added, one_more_table, root_starts, walked_starts}
use Rattle.facet_solver.proofs.build.starts.Starts.new.Goals as goal
use Rattle.facet_solver.proofs.build.starts.Starts.new.Goals.{then-index, else-index, in-Some+in_ok-push_at, in_default}

pub starts_if-requires-clause-below : goal.starts_if-requires-clause-below
starts_if-requires-clause-below c =
    let cat = c.args.build.shapes.now in
    let s = c.shape-shape.result.now in
    let within = slice_get_within cat c.new.result s c.shape-shape.ensures.found in
    KindBelow-mono c.new.result (length cat) s.kind (omega (arith, within)) ((c.requires.checked c.new.result s c.shape-shape.ensures.found).kind)

pub loop-index-preserved : goal.loop-index-preserved
loop-index-preserved c =
    let build = build_of c.args.build in
    let n = c.loop-index.index in
    let old = c.loop-index.by_index.items in
    let s = c.shape-shape.result.now in
    let at : c.new.result ≡ n = c.new.ensures in
    let here = ap (slice_get build.catalogue) (sym at) ∙ c.shape-shape.ensures.found in
    let starts = starts_or_none c.in_ok-starts.field-0 in
    let by_root : n ≡ c.args.root → c.if-index.is_asked ≡ true = λ is.
    elim c.if-index.branch [
      | then-index w ↦ w.is_asked-is ∙ eq-eqb _ _ w.if-index.true
      | else-index w ↦ absurd (omega (arith, is, w.if-index.false, c.index.ensures))
    ] in
    let by_walk : is_walked (repr_for build s) ≡ true → c.if-index.is_asked ≡ true = λ is.
    elim c.if-index.branch [
      | then-index w ↦ w.is_asked-is ∙ eq-eqb _ _ w.if-index.true
      | else-index w ↦ w.is_asked-is ∙ w.walks_content-is_asked.ensures ∙ is
    ] in
    let more : IsMoreStarts n starts old c.match-branch-2.by_index.items =
    elim c.match-branch-2.branch [
      | in-Some+in_ok-push_at w ↦ subst (λ (new : List (Vec ℕ Global)). IsMoreStarts n starts old new) (sym (ap (λ v. v.items) w.by_index-is))
          (subst (λ (us : List ℕ). IsMoreStarts n us old w.push_at.new.by_index.items) (sym (ap starts_or_none w.in-Some.is)) w.in_ok-push_at.ensures)
      | in_default w ↦ subst (λ (new : List (Vec ℕ Global)). IsMoreStarts n starts old new) (sym (ap (λ v. v.items) w.by_index-is))
          (subst (λ (us : List ℕ). IsMoreStarts n us old old) (sym (ap starts_or_none w.in_default.is)) (none_added build c.args.root n old c.loop-index.invariant.ends))
    ] in
    one_more_table build c.args.root n old c.match-branch-2.by_index.items starts s c.if-index.is_asked here c.loop-index.invariant more by_root by_walk c.in_ok-starts.ensures

pub returns-clause-walked : goal.returns-clause-walked
returns-clause-walked c = walked_starts (build_of c.args.build) c.args.root c.loop-index.index c.loop-index.by_index.items c.loop-index.invariant (omega (arith, c.loop-index-test.false, c.len-index-end.ensures.value))

pub returns-clause-root : goal.returns-clause-root
returns-clause-root c = root_starts (build_of c.args.build) c.args.root c.loop-index.index c.loop-index.by_index.items c.loop-index.invariant (omega (arith, c.loop-index-test.false, c.len-index-end.ensures.value))
