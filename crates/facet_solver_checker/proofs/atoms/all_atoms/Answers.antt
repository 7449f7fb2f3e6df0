use Rattle.std.proofs.Common.{◌≡◌, ◌∙◌, ◌++◌, ◌∷◌, [], ℕ, List, Some, ap, arith, get_or, length}
use Rattle.std.proofs.Common.{length-append, rules, slice_get, subst, sym}
use Rattle.std.proofs.lemmas.Option.{slice_get-get_or}
use Rattle.facet_solver_checker.specs.declared.atoms.Atoms.{Atoms}
use Rattle.facet_solver_reader.specs.declared.plan.PlannedTarget.{PlannedTarget}
use Rattle.facet_solver_checker.specs.Atoms.{AsksNumber, HasLower, HaveAtoms}
use Rattle.facet_solver_checker.proofs.AtomLists.{atoms_next}
use Rattle.facet_solver_checker.proofs.atoms.all_atoms.Goals as goal

pub loop-target-preserved : goal.loop-target-preserved
loop-target-preserved c =
    let plan = c.args.plan.now in
    let old = c.loop-target.all.items in
    let new = c.push.new.self.items in
    let l = c.in_ok-atoms.atoms in
    let t = c.target-item.result in
    let n = c.len-in-loop-target.result in
    let i = c.loop-target.target-index in
    let ts = c.deref-target-items.result.now in
    let pushed : new ≡ old ++ l ∷ [] = search rules in
    let same : n ≡ i =
    omega (arith, c.len-in-loop-target.ensures, c.loop-target.all.ok.0, c.loop-target.invariant.len)
    in
    let at : slice_get plan.targets.items n ≡ Some t =
    subst (λ j. slice_get plan.targets.items j ≡ Some t) (sym same)
    (subst (λ (xs : List PlannedTarget). slice_get xs i ≡ Some t) c.deref-target-items.ensures.value
    (slice_get-get_or ts i t c.loop-target-test.true ∙ ap Some (sym c.target-item.is))) in
    let asked : (k : ℕ) → AsksNumber t.end k → HasLower old l.each.items k =
    subst (λ (ls : List Atoms). (k : ℕ) → AsksNumber t.end k → HasLower ls l.each.items k)
    c.deref.ensures.value c.in_ok-atoms.ensures.asked in
    record {
      len = omega (
        arith,
        ap length pushed,
        length-append old (l ∷ []),
        c.loop-target.invariant.len,
      );
      atoms =
          subst (HaveAtoms plan) (sym pushed)
          (atoms_next plan c.requires old n t l (c.loop-target.invariant.len ∙ sym same) at
          c.loop-target.invariant.atoms c.in_ok-atoms.ensures.own asked);
    }
