use Rattle.std.proofs.Common.{◌≡◌, sym, subst, rules}
use Rattle.facet_solver_reader.specs.Reading.{IsCount}
use Rattle.facet_solver_reader.specs.Tables.{IsServed}
use Rattle.facet_solver_reader.specs.Views.{target_view}
use Rattle.facet_solver_reader.proofs.why.walk.into.Goals as goal

pub returns-then-eq-clause-next : goal.returns-then-eq-clause-next
returns-then-eq-clause-next c = λ v.
    let tb = c.args.tables.now in
    let nodes = c.args.nodes.now in
    let same : target_view c.args.target.now ≡ target_view c.same_target.result =
    sym c.same_target.ensures in
    let is : c.in_ok-count.count ≡ c.args.blame = search rules in (
      c.requires.inside,
      subst (IsServed tb) same c.requires.served,
      subst (λ t. IsCount tb nodes c.args.node t c.args.blame) same
          (subst (IsCount tb nodes c.args.node (target_view c.args.target.now)) is
          c.in_ok-count.ensures.count),
    )
