use Rattle.std.proofs.Common.{◌≡◌, ◌∙◌, ◌∷◌, [], IsTrue, List, ℕ, subst, sym}
use Rattle.std.proofs.lemmas.Result.{IfOk-weaker}
use Rattle.facet_solver_checker.specs.declared.atoms.Atom.{Atom}
use Rattle.facet_solver_checker.specs.declared.atoms.Atom.TheVariants.{Joined}
use Rattle.facet_solver_checker.specs.Apartness.{AllApart}
use Rattle.facet_solver_checker.specs.VariantsApart.{AreJoinedApart, IsListApart}
use Rattle.facet_solver_checker.proofs.SidesApart.{list_apart}
use Rattle.facet_solver_checker.proofs.variants.joined_apart.Goals as goal

pub returns : goal.returns
returns c =
    let plan = c.args.tables.now.plan.now in
    let apart = c.args.tables.now.apart.now in
    let atoms = c.args.tables.now.atoms.now in
    let p = c.args.one.now in
    let list = c.in-Some.list in
    let own = c.in_ok-second.second.each.items in
    IfOk-weaker c.all_apart.result
    (λ b. IsTrue b → AllApart plan apart (Joined list ∷ []) c.deref.result.now)
    (λ b. IsTrue b → AreJoinedApart plan apart c.args.joined p)
    (λ b f h no_fallback n is_n.
    let same : list ≡ n = let e = c.in-Some.is in cc in
    subst (λ k. IsListApart plan apart k p) same
    (list_apart plan apart atoms c.requires.atoms c.requires.len list p own c.in_ok-second.ensures
    (subst (λ (ys : List Atom). AllApart plan apart (Joined list ∷ []) ys) c.deref.ensures.value
    (f h)))) c.all_apart.ensures
