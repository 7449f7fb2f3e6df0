use Rattle.std.proofs.Common.{◌∙◌, sym}
use Rattle.facet_solver_checker.proofs.ListWays.{name_is_apart}
use Rattle.facet_solver_checker.proofs.objects.name_apart.Goals as goal

pub returns : goal.returns
returns c = λ m is e.
    name_is_apart m c.args.plan.now c.args.apart.now c.args.first c.args.second c.args.name.now
    c.in_ok-ours.ours c.in_ok-theirs.theirs c.in_ok-ours.ensures c.in_ok-theirs.ensures
    (sym c.are_apart.ensures ∙ e) is
