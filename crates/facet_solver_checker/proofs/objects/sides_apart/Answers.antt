use Rattle.facet_solver_checker.proofs.ListWays.{sides_are_apart, sides_are_apart_by_second}
use Rattle.facet_solver_checker.proofs.objects.sides_apart.Goals as goal

pub returns-then-by_first : goal.returns-then-by_first
returns-then-by_first c = λ m is required e.
    let r = c.in_ok-by_first.ensures m is required c.if-by_first.true in
    sides_are_apart m c.args.apart.now c.args.first c.args.second r.0 r.1 r.2

pub returns : goal.returns
returns c = λ m is required e.
    let r = c.in_ok-by_second.ensures m is required e in
    sides_are_apart_by_second m c.args.apart.now c.args.first c.args.second r.0 r.1 r.2
