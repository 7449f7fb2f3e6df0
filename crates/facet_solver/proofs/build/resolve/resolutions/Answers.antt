use Rattle.std.proofs.Common.{◌+◌, ◌<◌, ◌∙◌, ℕ, List, arith, subst, sym, take}
use Rattle.std.specs.List.{AllZip}
use Rattle.facet_solver_shape.specs.Resolved.{Resolved}
use Rattle.facet_solver.specs.build.Build.{build_of}
use Rattle.facet_solver.specs.build.Choice.{IsChoice, IsResolution}
use Rattle.facet_solver.specs.build.Count.{count_of_root}
use Rattle.facet_solver.specs.build.Listing.{choices_of_root}
use Rattle.facet_solver.proofs.Choice.{choices_listed}
use Rattle.facet_solver.proofs.Count.{exactly, root_count}
use Rattle.facet_solver.proofs.ChoiceResolutions.{choice_of_rank, resolved-more, resolved-end, resolves-length}
use Rattle.facet_solver.proofs.build.resolve.resolutions.Goals as goal

pub choice_at-requires-clause-rank : goal.choice_at-requires-clause-rank
choice_at-requires-clause-rank c =
    let known = exactly _ c.in-Some.count (sym c.in-Some.is ∙ c.exact.ensures (count_of_root (build_of c.args.build) c.args.root) c.of_root.ensures) in
    (subst (λ (n : ℕ). c.loop-rank.rank < n) (sym known.0) c.loop-rank-test.true, known.1)

pub resolve-requires-clause-choice : goal.resolve-requires-clause-choice
resolve-requires-clause-choice c =
    let build = build_of c.args.build in
    subst (λ (choice : List ℕ). IsChoice build c.args.root choice) (sym c.as_slice.ensures.value)
    (choice_of_rank build c.args.root c.loop-rank.rank c.choice_at.new.choice.items c.in_ok-choice_at.ensures)

pub loop-rank-preserved : goal.loop-rank-preserved
loop-rank-preserved c =
    let build = build_of c.args.build in
    let root = c.args.root in
    let choice = c.choice_at.new.choice.items in
    let r = c.in_ok-resolve.field-0 in
    let this = subst (λ (d : List ℕ). IsResolution build root d r) c.as_slice.ensures.value c.in_ok-resolve.ensures.resolved in
    let more = resolved-more build root c.loop-rank.rank choice c.loop-rank.resolutions.items r c.in_ok-choice_at.ensures c.loop-rank.invariant this in
    subst (λ (rs : List Resolved). AllZip (IsResolution build root) (take (c.loop-rank.rank + 1) (choices_of_root build root)) rs) (sym c.in_ok-push.ensures.items) more

pub returns-clause-built : goal.returns-clause-built
returns-clause-built c =
    let known = exactly _ c.in-Some.count (sym c.in-Some.is ∙ c.exact.ensures (count_of_root (build_of c.args.build) c.args.root) c.of_root.ensures) in
    record {
      choices = choices_of_root (build_of c.args.build) c.args.root;
      listed = choices_listed (build_of c.args.build) c.args.root;
      resolved = resolved-end (build_of c.args.build) c.args.root c.loop-rank.rank c.loop-rank.resolutions.items (omega (arith, known.0, c.loop-rank-test.false)) c.loop-rank.invariant;
    }

pub returns-clause-counted : goal.returns-clause-counted
returns-clause-counted c =
    let known = exactly _ c.in-Some.count (sym c.in-Some.is ∙ c.exact.ensures (count_of_root (build_of c.args.build) c.args.root) c.of_root.ensures) in
    resolves-length (build_of c.args.build) c.args.root (choices_of_root (build_of c.args.build) c.args.root) c.loop-rank.resolutions.items
    (resolved-end (build_of c.args.build) c.args.root c.loop-rank.rank c.loop-rank.resolutions.items (omega (arith, known.0, c.loop-rank-test.false)) c.loop-rank.invariant)
    ∙ root_count (build_of c.args.build) c.args.root
