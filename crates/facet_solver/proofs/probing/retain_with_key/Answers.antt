use Rattle.std.proofs.Common.{◌≡◌, ◌<◌, ◌≤◌, length, ap, sym, ◌∙◌, arith}
use Rattle.std.proofs.lemmas.List.Filters.{FiltersInPlace-all, FiltersInPlace-more_no, FiltersInPlace-more_set}
use Rattle.facet_solver_shape.specs.Names.{names_of}
use Rattle.facet_solver.specs.KeyPath.{has_key_at}
use Rattle.facet_solver.specs.Probing.{resolutions_of}
use Rattle.facet_solver.proofs.Probed.{kept}
use Rattle.facet_solver.proofs.probing.retain_with_key.Goals as goal
use Rattle.facet_solver.proofs.probing.retain_with_key.Goals.{then-is_in, else-is_in}

pub loop-index-preserved : goal.loop-index-preserved
loop-index-preserved c =
    let before = c.loop-index.invariant in
    let within : c.loop-index.index < length c.loop-index.resolutions.items = omega (arith, before.kept.long) in
    let told : has_key_at (names_of c.args.path.now) c.args.key.now c.index-resolution.result.now.now ≡ c.is_in.result =
    (λ i. has_key_at (names_of (sym before.path i)) (sym before.key i) c.index-resolution.result.now.now)
    ∙ sym c.is_in.ensures.has in
    record {
      path = ap (λ p. p.now) c.is_in.ensures.path ∙ before.path;
      key = ap (λ k. k.now) c.is_in.ensures.key ∙ before.key;
      kept = elim c.if-is_in.branch [
        | then-is_in w ↦
            rw (w.resolutions-is, w.kept-is)
            (FiltersInPlace-more_set before.kept within (told ∙ w.if-is_in.true) c.index-resolution.ensures)
        | else-is_in w ↦
            rw (w.resolutions-is, w.kept-is)
            (FiltersInPlace-more_no before.kept within (told ∙ w.if-is_in.false) c.index-resolution.ensures)
      ];
    }

pub returns : goal.returns
returns c =
    let all : length c.args.resolutions.now.items ≤ c.loop-index.index = omega arith in
    ap resolutions_of (c.truncate.ensures.items ∙ FiltersInPlace-all c.loop-index.invariant.kept all)
    ∙ kept (has_key_at (names_of c.args.path.now) c.args.key.now) c.args.resolutions.now.items
