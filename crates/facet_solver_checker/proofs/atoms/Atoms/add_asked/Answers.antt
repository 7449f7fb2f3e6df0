use Rattle.std.proofs.Common.{All, List, subst}
use Rattle.std.proofs.lemmas.List.Elements.{All-contains_itself}
use Rattle.std.proofs.lemmas.Result.{on_ok_weaker}
use Rattle.facet_solver_reader.specs.declared.plan.PlannedAlternative.{PlannedAlternative}
use Rattle.facet_solver_reader.specs.declared.plan.PlannedEnd.{PlannedEnd}
use Rattle.facet_solver_checker.specs.Atoms.{AsksNumber, HasOnward}
use Rattle.facet_solver_checker.proofs.AtomLists.{nothing_asked, onward_some}
use Rattle.facet_solver_checker.proofs.atoms.Atoms.add_asked.Goals as goal

pub returns-in-Untagged-clause-added : goal.returns-in-Untagged-clause-added
returns-in-Untagged-clause-added c =
    let lower = c.args.lower.now in
    let new = c.add_alternatives.new.self.each.items in
    on_ok_weaker c.add_alternatives.result
    (λ (h : All (HasOnward lower new) c.deref.result.now) k asks.
    onward_some lower new c.in-Untagged.alone.items k
    (subst (λ (ps : List PlannedAlternative). All (HasOnward lower new) ps) c.deref.ensures.value h)
    (subst (λ (e : PlannedEnd). AsksNumber e k) c.in-Untagged.is asks))
    c.add_alternatives.ensures.added

pub returns-in_default : goal.returns-in_default
returns-in_default c =
    record {
      kept = All-contains_itself c.args.self.now.each.items;
      added = λ k asks.
          absurd (nothing_asked c.args.end.now c.in_default.not-Option c.in_default.not-Same
          c.in_default.not-Untagged k asks);
    }
