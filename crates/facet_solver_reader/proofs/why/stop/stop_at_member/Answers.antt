use Rattle.std.proofs.Common.{subst}
use Rattle.facet_solver_reader.specs.Documents.{Tree}
use Rattle.facet_solver_reader.specs.Nodes.{value_of}
use Rattle.facet_solver_reader.specs.Reading.{IsCount}
use Rattle.facet_solver_reader.specs.Tables.{rules_at}
use Rattle.facet_solver_reader.specs.Views.{target_view}
use Rattle.facet_solver_reader.specs.Blaming.{IsUnreadAs}
use Rattle.facet_solver_reader.proofs.Blaming.{told_unread}
use Rattle.facet_solver_reader.proofs.why.stop.stop_at_member.Goals as goal

pub returns-in-Ok-clause-inner : goal.returns-in-Ok-clause-inner
returns-in-Ok-clause-inner c =
    let t = c.args.tables.now in
    let nodes = c.args.nodes.now in
    let w = value_of nodes c.in-Some.value in
    let target = target_view c.args.member.now.target in
    let none = subst (IsCount t nodes c.in-Some.value target)
    (c.is_none.ensures.0 c.if-not-is_none.false) c.in_ok-count.ensures.count in (
      (
        w,
        c.in-Some.ensures.1,
        told_unread (rules_at t) w target c.in-Ok.unread none
            (subst (λ (v : Tree). IsUnreadAs (rules_at t) target v c.in-Ok.unread) c.value.ensures c.in-Ok.ensures),
      ),
      tt,
    )
