use Rattle.std.proofs.Common.{◌≡◌, List, ap, arith, length, slice_get, subst, sym, ◌∙◌}
use Rattle.std.proofs.lemmas.Option.{slice_get_within}
use Rattle.facet_solver.specs.declared.build.contribution.Contribution.{Contribution}
use Rattle.facet_solver.specs.build.Contribution.{contribution_of_kind}
use Rattle.facet_solver.specs.build.Build.{build_of, kind_at, kind_of}
use Rattle.facet_solver.proofs.Contribution.{AreFirstContributions, one_contributed}
use Rattle.facet_solver.proofs.build.contribution.ContributionTable.new.Goals as goal

pub loop-build-preserved : goal.loop-build-preserved
loop-build-preserved c =
    let cat = c.args.build.shapes.now in
    let ts = c.loop-build.by_index.items in
    let b = c.contribution_of_kind-contribution.result in
    let index : c.new.result ≡ length ts = omega (arith, c.loop-build.by_index.ok.0) in
    let here = ap (slice_get cat) (sym index) ∙ c.shape-shape.ensures.found in
    let within = slice_get_within cat (length ts) c.shape-shape.result.now here in
    let build = build_of c.args.build in
    let is : b ≡ contribution_of_kind ts build (kind_at cat (length ts)) =
    c.contribution_of_kind-contribution.ensures
    ∙ ap (λ (us : List Contribution). contribution_of_kind us build c.shape-shape.result.now.kind) c.deref.ensures.value
    ∙ ap (contribution_of_kind ts build) (sym (ap kind_of here)) in
    subst (AreFirstContributions build) (sym c.in_ok-push.ensures.items)
    (one_contributed build c.shape-shape.ensures.checked ts c.loop-build.invariant within b is)
