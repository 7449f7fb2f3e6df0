use Rattle.std.proofs.Common.{List, subst, sym}
use Rattle.std.proofs.lemmas.List.Elements.{All-push}
use Rattle.std.proofs.lemmas.List.Quantifiers.{Any-push}
use Rattle.facet_solver_witnesses.specs.declared.ambiguity.Ambiguity.{Ambiguity}
use Rattle.facet_solver_witnesses.specs.Covered.{Covers, IsCovered}
use Rattle.facet_solver_witnesses.specs.Shown.{AreShown, IsShown}
use Rattle.facet_solver_witnesses.proofs.Loops.{any_pushed}
use Rattle.facet_solver_witnesses.proofs.covering.add_place.Goals as goal

pub returns-in_ok-push-clause-covered : goal.returns-in_ok-push-clause-covered
returns-in_ok-push-clause-covered c =
    subst (λ (zs : List Ambiguity). IsCovered zs c.args.place) (sym c.in_ok-push.ensures)
    (Any-push (λ a. Covers a c.args.place) c.args.found.now.items c.in_ok-ambiguity.ambiguity
    c.in_ok-ambiguity.ensures.covers)

pub returns-in_ok-push-clause-kept : goal.returns-in_ok-push-clause-kept
returns-in_ok-push-clause-kept c = λ p h.
    subst (λ (zs : List Ambiguity). IsCovered zs p) (sym c.in_ok-push.ensures)
    (any_pushed (λ a. Covers a p) c.args.found.now.items c.in_ok-ambiguity.ambiguity h)

pub returns-in_ok-push-clause-shown : goal.returns-in_ok-push-clause-shown
returns-in_ok-push-clause-shown c = λ r h.
    let shown = subst (IsShown r) (sym c.in_ok-ambiguity.ensures.evidence) tt in
    subst (AreShown r) (sym c.in_ok-push.ensures)
    (All-push (λ a. IsShown r a.evidence) c.args.found.now.items c.in_ok-ambiguity.ambiguity h
    shown)

pub returns-else-not-is_covered-clause-covered : goal.returns-else-not-is_covered-clause-covered
returns-else-not-is_covered-clause-covered c =
    subst (λ (zs : List Ambiguity). IsCovered zs c.args.place) c.deref.ensures.value
    (c.is_covered.ensures c.if-not-is_covered.false)
