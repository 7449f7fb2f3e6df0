use Rattle.std.proofs.Common.{◌≡◌, IsTrue, List, Some, length, refl, slice_get, subst}
use Rattle.std.proofs.lemmas.Option.{slice_get_read}
use Rattle.std.proofs.lemmas.Result.{IfOk-weaker}
use Rattle.facet_solver_reader.specs.declared.plan.PlannedTarget.{PlannedTarget}
use Rattle.facet_solver_checker.specs.VariantsApart.{AreSidesApart, AreVariantsApart, side_at}
use Rattle.facet_solver_checker.proofs.SidesApart.{ways_of_target}
use Rattle.facet_solver_checker.proofs.variants.variants_apart.Goals as goal

pub returns : goal.returns
returns c =
    let plan = c.args.tables.now.plan.now in
    let apart = c.args.tables.now.apart.now in
    let n = c.args.target in
    let t = c.in-Some.found.now in
    let look = c.in-Some.ensures.lookup in
    let found : slice_get plan.targets.items n ≡ Some t =
    subst (λ (ts : List PlannedTarget). slice_get ts n ≡ Some t) c.deref.ensures.value
    (slice_get_read c.deref.result.now (length c.deref.result.now) n t refl look.3.0 look.1) in
    IfOk-weaker c.ways_apart.result
    (λ b. IsTrue b
    → AreSidesApart plan apart t.end (side_at t.end c.args.ways.0) (side_at t.end c.args.ways.1))
    (λ b. IsTrue b → AreVariantsApart plan apart n c.args.ways)
    (λ b f h. ways_of_target plan apart n t c.args.ways.0 c.args.ways.1 found (f h))
    c.ways_apart.ensures
