use Rattle.std.proofs.Common.{◌≡◌, ⊎_elim, ◌⊎◌, Bor}
use Rattle.facet_solver_shape.specs.Names.{Name}
use Rattle.facet_solver_reader.specs.Known.{Chooses}
use Rattle.facet_solver_reader.specs.Parts.{Part}
use Rattle.facet_solver_checker.specs.PlanMembers.{IsIn}
use Rattle.facet_solver_checker.specs.Requires.{Requires}
use Rattle.facet_solver_checker.proofs.Requires.{part_or_before}
use Rattle.facet_solver_checker.proofs.required.required_by_list.Goals as goal

pub loop-part-preserved : goal.loop-part-preserved
loop-part-preserved c = λ m id x are is in'.
    part_or_before m id c.args.list.now c.deref-part-items.result.now c.loop-part.part-index
    c.part-item.result x.now (IsIn x c.loop-part.names.items) is c.deref-part-items.ensures.value
    c.loop-part-test.true c.part-item.is
    (λ (h : IsIn x c.loop-part.names.items). c.loop-part.invariant m id x are is h)
    (λ (p : Part) q. c.in_ok-push_required.ensures m p x are q in')
