use Rattle.std.proofs.Common.{◌≡◌, IsTrue, List, Some, length, refl, slice_get, subst}
use Rattle.std.proofs.lemmas.Option.{slice_get_read}
use Rattle.std.proofs.lemmas.Result.{IfOk-weaker}
use Rattle.facet_solver_checker.specs.declared.atoms.Atom.{Atom}
use Rattle.facet_solver_checker.specs.Apartness.{AllApart, AreTargetsApart}
use Rattle.facet_solver_checker.proofs.closed.targets_apart.Goals as goal

pub returns : goal.returns
returns c =
    let plan = c.args.plan.now in
    let apart = c.args.apart.now in
    let atoms = c.args.atoms.now in
    let one = c.in-Some.one.now in
    let other = c.in-Some-get.other.now in
    let look = c.in-Some.ensures.lookup in
    let look_other = c.in-Some-get.ensures.lookup in
    let first : slice_get atoms c.args.pair.0 ≡ Some one =
    slice_get_read atoms (length atoms) c.args.pair.0 one refl look.3.0 look.1 in
    let second : slice_get atoms c.args.pair.1 ≡ Some other =
    slice_get_read atoms (length atoms) c.args.pair.1 other refl look_other.3.0 look_other.1 in
    IfOk-weaker c.all_apart.result
    (λ b. IsTrue b → AllApart plan apart c.deref.result.now c.deref-2.result.now)
    (λ b. IsTrue b → AreTargetsApart plan apart atoms c.args.pair.0 c.args.pair.1)
    (λ b f h.
    record {
      first = one;
      second = other;
      first_is = first;
      second_is = second;
      all =
          subst (λ (xs : List Atom). AllApart plan apart xs other.each.items) c.deref.ensures.value
          (subst (λ (ys : List Atom). AllApart plan apart c.deref.result.now ys)
          c.deref-2.ensures.value (f h));
    }) c.all_apart.ensures
