use Rattle.std.proofs.Common.{IsTrue, List, subst}
use Rattle.std.proofs.lemmas.Result.{IfOk-weaker}
use Rattle.facet_solver_checker.specs.declared.atoms.Atom.{Atom}
use Rattle.facet_solver_checker.specs.Apartness.{AllApart}
use Rattle.facet_solver_checker.specs.VariantsApart.{AreTwoApart, by_atoms, by_float, by_whole}
use Rattle.facet_solver_checker.specs.VariantsApart.{IsFloatKindBeside}
use Rattle.facet_solver_checker.proofs.SidesApart.{float_beside, ones_apart}
use Rattle.facet_solver_checker.proofs.variants.two_apart.Goals as goal

pub returns-then-is_float_beside : goal.returns-then-is_float_beside
returns-then-is_float_beside c = λ h.
    let plan = c.args.tables.now.plan.now in
    let a = c.args.one.now in
    let b = c.args.other.now in
    let ys = c.in_ok-second.second.each.items in
    by_float
    (float_beside plan c.args.tables.now.atoms.now c.requires.atoms c.requires.len a b ys
    c.in_ok-second.ensures
    (subst (λ (xs : List Atom). IsFloatKindBeside plan a.kind b.kind xs) c.deref.ensures.value
    (c.is_float_beside.ensures c.if-is_float_beside.true)))

pub returns-then-is_float_beside-2 : goal.returns-then-is_float_beside-2
returns-then-is_float_beside-2 c = λ h.
    let plan = c.args.tables.now.plan.now in
    let a = c.args.one.now in
    let b = c.args.other.now in
    let xs = c.in_ok-first.first.each.items in
    by_whole
    (float_beside plan c.args.tables.now.atoms.now c.requires.atoms c.requires.len b a xs
    c.in_ok-first.ensures
    (subst (λ (ys : List Atom). IsFloatKindBeside plan b.kind a.kind ys) c.deref-2.ensures.value
    (c.is_float_beside-2.ensures c.if-is_float_beside-2.true)))

pub returns : goal.returns
returns c =
    let plan = c.args.tables.now.plan.now in
    let apart = c.args.tables.now.apart.now in
    let atoms = c.args.tables.now.atoms.now in
    let a = c.args.one.now in
    let b = c.args.other.now in
    let xs = c.in_ok-first.first.each.items in
    let ys = c.in_ok-second.second.each.items in
    IfOk-weaker c.all_apart.result
    (λ r. IsTrue r → AllApart plan apart c.deref-3.result.now c.deref-4.result.now)
    (λ r. IsTrue r → AreTwoApart plan apart a b)
    (λ r f h.
    by_atoms
    (ones_apart plan apart atoms c.requires.atoms c.requires.len a b xs ys c.in_ok-first.ensures
    c.in_ok-second.ensures
    (subst (λ (us : List Atom). AllApart plan apart us ys) c.deref-3.ensures.value
    (subst (λ (us : List Atom). AllApart plan apart c.deref-3.result.now us) c.deref-4.ensures.value
    (f h))))) c.all_apart.ensures
