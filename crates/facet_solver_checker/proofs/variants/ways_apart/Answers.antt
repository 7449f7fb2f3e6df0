use Rattle.std.proofs.Common.{◌≡◌, ◌≤◌, IsTrue, List, Some, length, refl, slice_get, subst}
use Rattle.std.proofs.lemmas.Option.{slice_get_read}
use Rattle.std.proofs.lemmas.Result.{IfOk-weaker}
use Rattle.facet_solver_reader.specs.declared.plan.PlannedAlternative.{PlannedAlternative}
use Rattle.facet_solver_reader.specs.declared.plan.PlannedName.{PlannedName}
use Rattle.facet_solver_checker.specs.VariantsApart.{AreJoinedApart, AreNamesApart, AreSidesApart}
use Rattle.facet_solver_checker.specs.VariantsApart.{AreTwoApart, side_at}
use Rattle.facet_solver_checker.proofs.SidesApart.{joined_first, joined_second, named_ways}
use Rattle.facet_solver_checker.proofs.SidesApart.{two_ways}
use Rattle.facet_solver_checker.proofs.variants.ways_apart.Goals as goal

pub returns-in-Named : goal.returns-in-Named
returns-in-Named c = λ h.
    named_ways c.args.tables.now.plan.now c.args.tables.now.apart.now c.in-Named.names
    c.args.end.now c.args.ways.0
    c.args.ways.1 c.in-Named.is
    (subst (λ (ps : List PlannedName). AreNamesApart ps c.args.ways.0 c.args.ways.1)
    c.deref.ensures.value (c.names_differ.ensures h))

pub returns-in-Some-get : goal.returns-in-Some-get
returns-in-Some-get c =
    let plan = c.args.tables.now.plan.now in
    let apart = c.args.tables.now.apart.now in
    let e = c.args.end.now in
    let x = c.args.ways.0 in
    let y = c.args.ways.1 in
    let ps = c.in-Untagged.alone in
    let xs = c.deref-in-Untagged.result.now in
    let ys = c.deref-in-Some.result.now in
    let a = c.in-Some.one.now in
    let b = c.in-Some-get.other.now in
    let look = c.in-Some.ensures.lookup in
    let look_other = c.in-Some-get.ensures.lookup in
    let first : slice_get ps.items x ≡ Some a =
    subst (λ (ts : List PlannedAlternative). slice_get ts x ≡ Some a)
    c.deref-in-Untagged.ensures.value
    (slice_get_read xs (length xs) x a refl look.3.0 look.1) in
    let second : slice_get ps.items y ≡ Some b =
    subst (λ (ts : List PlannedAlternative). slice_get ts y ≡ Some b) c.deref-in-Some.ensures.value
    (slice_get_read ys (length ys) y b refl look_other.3.0 look_other.1) in
    IfOk-weaker c.two_apart.result (λ r. IsTrue r → AreTwoApart plan apart a b)
    (λ r. IsTrue r → AreSidesApart plan apart e (side_at e x) (side_at e y))
    (λ r f h.
    two_ways plan apart c.in-Untagged.joined ps e x y c.in-Untagged.is a b first second (f h))
    c.two_apart.ensures

pub returns-in-None-get : goal.returns-in-None-get
returns-in-None-get c =
    let plan = c.args.tables.now.plan.now in
    let apart = c.args.tables.now.apart.now in
    let e = c.args.end.now in
    let x = c.args.ways.0 in
    let y = c.args.ways.1 in
    let ps = c.in-Untagged.alone in
    let o = c.in-Untagged.joined in
    let xs = c.deref-in-Untagged.result.now in
    let a = c.in-Some.one.now in
    let look = c.in-Some.ensures.lookup in
    let first : slice_get ps.items x ≡ Some a =
    subst (λ (ts : List PlannedAlternative). slice_get ts x ≡ Some a)
    c.deref-in-Untagged.ensures.value
    (slice_get_read xs (length xs) x a refl look.3.0 look.1) in
    let past : length ps.items ≤ y =
    subst (λ (ts : List PlannedAlternative). length ts ≤ y) c.deref-in-Some.ensures.value
    c.in-None-get.ensures.lookup.3 in
    IfOk-weaker c.joined_apart.result (λ r. IsTrue r → AreJoinedApart plan apart o a)
    (λ r. IsTrue r → AreSidesApart plan apart e (side_at e x) (side_at e y))
    (λ r f h. joined_second plan apart o ps e x y c.in-Untagged.is a first past (f h))
    c.joined_apart.ensures

pub returns-in-Some-get-2 : goal.returns-in-Some-get-2
returns-in-Some-get-2 c =
    let plan = c.args.tables.now.plan.now in
    let apart = c.args.tables.now.apart.now in
    let e = c.args.end.now in
    let x = c.args.ways.0 in
    let y = c.args.ways.1 in
    let ps = c.in-Untagged.alone in
    let o = c.in-Untagged.joined in
    let ys = c.deref-in-None.result.now in
    let b = c.in-Some-get-2.other.now in
    let look = c.in-Some-get-2.ensures.lookup in
    let second : slice_get ps.items y ≡ Some b =
    subst (λ (ts : List PlannedAlternative). slice_get ts y ≡ Some b) c.deref-in-None.ensures.value
    (slice_get_read ys (length ys) y b refl look.3.0 look.1) in
    let past : length ps.items ≤ x =
    subst (λ (ts : List PlannedAlternative). length ts ≤ x) c.deref-in-Untagged.ensures.value
    c.in-None.ensures.lookup.3 in
    IfOk-weaker c.joined_apart-in-Some-get-2.result (λ r. IsTrue r → AreJoinedApart plan apart o b)
    (λ r. IsTrue r → AreSidesApart plan apart e (side_at e x) (side_at e y))
    (λ r f h. joined_first plan apart o ps e x y c.in-Untagged.is b past second (f h))
    c.joined_apart-in-Some-get-2.ensures
