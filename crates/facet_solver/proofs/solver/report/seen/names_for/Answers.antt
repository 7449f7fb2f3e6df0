use Rattle.std.proofs.Common.{◌∷◌, ◌∙◌, List, sym, subst}
use Rattle.facet_solver_shape.specs.Names.{Name}
use Rattle.facet_solver.proofs.CategoryNames.{name_kept, name_passed, names_left}
use Rattle.facet_solver.proofs.NameSets.{Fills, fills_more, fills_start, filled_list, in_list}
use Rattle.facet_solver.proofs.solver.report.seen.names_for.Goals as goal

pub loop-key-init : goal.loop-key-init
loop-key-init c =
    rw c.into_iter-key-iterator.ensures.into_iter_gives.0 (fills_start c.new-names.result.keys (names_left c.args.category c.args.seen.now.keys) c.new-names.ensures.empty)

pub loop-key-preserved-in_ok-insert : goal.loop-key-preserved-in_ok-insert
loop-key-preserved-in_ok-insert c =
    let wanted = in_list (names_left c.args.category c.args.seen.now.keys) in
    let before = rw c.in-Some.ensures.steps at c.loop-key.invariant in
    let kept = name_kept c.args.category c.in-Some.key.now c.next.new.self (sym c.may_match.ensures ∙ c.if-may_match.true) in
    fills_more c.loop-key.names.keys c.insert.new.self.keys c.name.result (names_left c.args.category c.next.new.self) wanted
    (subst (λ (n : Name). Fills c.loop-key.names.keys (n ∷ names_left c.args.category c.next.new.self) wanted) (sym c.name.ensures)
    (subst (λ (ns : List Name). Fills c.loop-key.names.keys ns wanted) kept before))
    c.in_ok-insert.ensures.keys

pub loop-key-preserved : goal.loop-key-preserved
loop-key-preserved c =
    let wanted = in_list (names_left c.args.category c.args.seen.now.keys) in
    let before = rw c.in-Some.ensures.steps at c.loop-key.invariant in
    subst (λ (ns : List Name). Fills c.loop-key.names.keys ns wanted) (name_passed c.args.category c.in-Some.key.now c.next.new.self (sym c.may_match.ensures ∙ c.if-may_match.false)) before

pub returns : goal.returns
returns c =
    filled_list c.loop-key.names.keys (names_left c.args.category c.args.seen.now.keys) (rw c.in-None.ensures.steps.0 at c.loop-key.invariant)
