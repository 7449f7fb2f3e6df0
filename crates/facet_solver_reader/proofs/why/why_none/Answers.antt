use Rattle.std.proofs.Common.{subst, sym}
use Rattle.facet_solver_reader.specs.declared.read_error.NoReading.{NoReading}
use Rattle.facet_solver_reader.specs.Documents.{Tree, view}
use Rattle.facet_solver_reader.specs.Nodes.{value_of}
use Rattle.facet_solver_reader.specs.Parts.{Target}
use Rattle.facet_solver_reader.specs.Tables.{rules_at}
use Rattle.facet_solver_reader.specs.Views.{target_view}
use Rattle.facet_solver_reader.specs.Blaming.{IsUnreadAt}
use Rattle.facet_solver_reader.specs.Why.{IsUnread, IsWhyNone}
use Rattle.facet_solver_reader.proofs.Blaming.{ok_then, why_unread}
use Rattle.facet_solver_reader.proofs.why.why_none.Goals as goal

pub returns-in-Some-Splits : goal.returns-in-Some-Splits
returns-in-Some-Splits c =
    let rules = rules_at c.args.tables.now in
    let nodes = c.args.nodes.now in
    let v = value_of nodes c.in_ok-last.last.node in
    let seen = view c.value-value.result.now in
    let place = c.in_ok-place.place in
    let target = target_view c.same_target-target.result in
    let unread = subst (λ (u : Target). IsUnread rules u v) (sym c.same_target-target.ensures)
    c.in_ok-last.ensures.counted in
    ok_then (IsUnreadAt rules target seen place) (IsWhyNone rules (value_of nodes 0))
    c.unread_at.result
    (λ (n : NoReading) (h : IsUnreadAt rules target seen place n).
    why_unread rules (value_of nodes 0) v target place n c.in_ok-place.ensures unread
    (subst (λ (w : Tree). IsUnreadAt rules target w place n) c.value-value.ensures h))
    c.unread_at.ensures

pub returns-in-None : goal.returns-in-None
returns-in-None c =
    let rules = rules_at c.args.tables.now in
    let nodes = c.args.nodes.now in
    let v = value_of nodes c.in_ok-last.last.node in
    let seen = view c.value-value.result.now in
    let place = c.in_ok-place.place in
    let target = target_view c.same_target-target.result in
    let unread = subst (λ (u : Target). IsUnread rules u v) (sym c.same_target-target.ensures)
    c.in_ok-last.ensures.counted in
    ok_then (IsUnreadAt rules target seen place) (IsWhyNone rules (value_of nodes 0))
    c.unread_at-in-None.result
    (λ (n : NoReading) (h : IsUnreadAt rules target seen place n).
    why_unread rules (value_of nodes 0) v target place n c.in_ok-place.ensures unread
    (subst (λ (w : Tree). IsUnreadAt rules target w place n) c.value-value.ensures h))
    c.unread_at-in-None.ensures
