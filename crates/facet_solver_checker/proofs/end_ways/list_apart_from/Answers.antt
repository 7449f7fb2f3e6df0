use Rattle.std.proofs.Common.{◌≡◌, ◌∙◌, Bor, Global, List, Some, Vec, get_or, length, refl}
use Rattle.std.proofs.Common.{slice_get, subst, sym}
use Rattle.std.proofs.lemmas.Option.{slice_get-get_or, slice_get_read}
use Rattle.facet_solver_shape.specs.Names.{Name}
use Rattle.facet_solver_checker.specs.EndWays.{AreMemberWays}
use Rattle.facet_solver_checker.specs.PlanMembers.{IsIn}
use Rattle.facet_solver_checker.specs.Requires.{NameLists}
use Rattle.facet_solver_checker.proofs.EndWays.{list_and_end}
use Rattle.facet_solver_checker.proofs.Gathering.{no_name}
use Rattle.facet_solver_checker.proofs.end_ways.list_apart_from.Goals as goal

pub returns-then-are_apart : goal.returns-then-are_apart
returns-then-are_apart c = λ e.
    let table = c.args.required.now.names.items in
    let n = c.args.list in
    let names = c.in-Some.names.now in
    let xs = c.deref-name-items.result.now in
    let i = c.loop-name.name-index in
    let x = get_or xs i no_name in
    let look = c.in-Some.ensures.lookup in
    let found : slice_get table n ≡ Some names =
    subst (λ (ls : NameLists). slice_get ls n ≡ Some names) c.deref.ensures.value
    (slice_get_read c.deref.result.now (length c.deref.result.now) n names refl look.3.0 look.1) in
    let is_in : IsIn x names.items =
    subst (λ (ys : List (Bor Name)). IsIn x ys) c.deref-name-items.ensures.value
    (i, slice_get-get_or xs i no_name c.loop-name-test.true) in
    let ways : AreMemberWays c.args.plan.now n c.args.end.now x.now c.in-Some-2.ways =
    rw c.in-Some-2.is at c.in_ok-ways.ensures in
    list_and_end c.args.plan.now c.args.apart.now table c.requires.required n c.args.end.now names
    found x
    is_in c.in-Some-2.ways ways (sym c.are_apart.ensures ∙ c.if-are_apart.true)
