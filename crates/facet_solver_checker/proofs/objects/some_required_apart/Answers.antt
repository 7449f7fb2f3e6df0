use Rattle.std.proofs.Common.{◌≡◌, Bool, Bor, true}
use Rattle.std.proofs.lemmas.Result.{IfOk-weaker}
use Rattle.facet_solver_shape.specs.Names.{Name}
use Rattle.facet_solver_checker.specs.ListsMeet.{IsNameApart}
use Rattle.facet_solver_checker.specs.PlanMembers.{IsIn}
use Rattle.facet_solver_checker.specs.Requires.{IsRequiredBy}
use Rattle.facet_solver_checker.proofs.Gathering.{read_at}
use Rattle.facet_solver_checker.proofs.ListWays.{required_apart}
use Rattle.facet_solver_checker.proofs.objects.some_required_apart.Goals as goal

pub returns-in-Some : goal.returns-in-Some
returns-in-Some c = λ m is required.
    let apart = c.args.apart.now in
    let look = c.in-Some.ensures.lookup in
    let there = read_at c.deref.result.now c.args.required.now.names.items c.args.number
    c.in-Some.names.now c.deref.ensures.value look.3.0 look.1 in
    IfOk-weaker c.some_name_apart.result
    (λ (b : Bool). b ≡ true → (x : Bor Name) × IsIn x c.deref-in-Some.result.now
    × IsNameApart m apart c.args.first c.args.second x.now)
    (λ (b : Bool). b ≡ true → (x : Name) × IsRequiredBy m c.args.number x
    × IsNameApart m apart c.args.first c.args.second x)
    (λ b f e.
    required_apart m apart c.args.first c.args.second c.args.number c.args.required.now.names.items
    c.in-Some.names.now c.deref-in-Some.result.now there c.deref-in-Some.ensures.value required
    (f e))
    (c.some_name_apart.ensures m is)
