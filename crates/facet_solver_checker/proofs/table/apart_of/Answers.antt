use Rattle.std.proofs.Common.{◌≡◌, false}
use Rattle.facet_solver_checker.specs.Aparts.{has_pair}
use Rattle.facet_solver_checker.proofs.ClosedTables.{table_closed}
use Rattle.facet_solver_checker.proofs.table.apart_of.Goals as goal

pub returns : goal.returns
returns c = λ m is.
    table_closed c.args.plan.now c.of_tags.result c.args.atoms.now c.requires.atoms m is
    c.of_tags.ensures.targets
    (λ i j e. let none : has_pair c.of_tags.result i j ≡ false = c.of_tags.ensures.none i j in
    absurd (cc))
