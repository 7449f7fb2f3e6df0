use Rattle.std.proofs.Common.{◌≡◌, sym, subst, IfOk, true}
use Rattle.facet_solver_checker.specs.Forks.{IsApartAt}
use Rattle.facet_solver_checker.proofs.forks.is_apart.Goals as goal

pub returns-in-Selection : goal.returns-in-Selection
returns-in-Selection c =
    subst (λ f. IfOk c.selection_apart.result
    (λ b. b ≡ true → IsApartAt c.args.tables.now.plan.now c.args.tables.now.apart.now f
    (c.args.place.first, c.args.place.second)))
    (sym c.in-Selection.is) c.selection_apart.ensures

pub returns-in-Enum : goal.returns-in-Enum
returns-in-Enum c =
    subst (λ f. IfOk c.variants_apart.result
    (λ b. b ≡ true → IsApartAt c.args.tables.now.plan.now c.args.tables.now.apart.now f
    (c.args.place.first, c.args.place.second)))
    (sym c.in-Enum.is) c.variants_apart.ensures
