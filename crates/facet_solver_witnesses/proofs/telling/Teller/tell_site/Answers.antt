use Rattle.std.proofs.Common.{Global, Vec, subst, sym}
use Rattle.std.specs.Option.{IfSome}
use Rattle.std.proofs.lemmas.List.Elements.{All-push}
use Rattle.facet_solver_witnesses.specs.declared.ambiguity.Ambiguity.{Ambiguity}
use Rattle.facet_solver_witnesses.specs.Shown.{AreShown, IsShown}
use Rattle.facet_solver_witnesses.proofs.telling.Teller.tell_site.Goals.{in-Some+in_ok-push}
use Rattle.facet_solver_witnesses.proofs.telling.Teller.tell_site.Goals.{in_default}
use Rattle.facet_solver_witnesses.proofs.telling.Teller.tell_site.Goals as goal

pub loop-pair-preserved : goal.loop-pair-preserved
loop-pair-preserved c =
    let r = c.args.self.now.reader.now in
    elim c.match-branch-5.branch [
      | in-Some+in_ok-push w ↦
          let shown =
          subst (λ o. IfSome o (λ (a : Ambiguity). IsShown r a.evidence)) w.in-Some.is
          c.in_ok-ambiguity.ensures in
          subst (λ (v : Vec Ambiguity Global). AreShown r v.items) (sym w.ambiguities-is)
          (subst (AreShown r) (sym w.in_ok-push.ensures)
          (All-push (λ (a : Ambiguity). IsShown r a.evidence) c.loop-pair.ambiguities.items
          w.in-Some.ambiguity c.loop-pair.invariant shown))
      | in_default w ↦
          subst (λ (v : Vec Ambiguity Global). AreShown r v.items) (sym w.ambiguities-is)
          c.loop-pair.invariant
    ]
