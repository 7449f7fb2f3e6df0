use Rattle.std.proofs.Common.{◌≡◌, List, [], ap, subst, sym}
use Rattle.facet_solver_types.specs.UseIds.{AreIdsOf}
use Rattle.facet_solver_types.specs.Uses.{Use, uses_view}
use Rattle.facet_solver_types.proofs.UseIds.{known_none}
use Rattle.facet_solver_types.proofs.typing.uses.all_uses.Goals as goal

pub add_uses-requires : goal.add_uses-requires
add_uses-requires c =
    subst (λ (us : List Use). AreIdsOf c.new-ids.result us) (sym (ap uses_view c.new-found.ensures.items))
    (known_none c.new-ids.result c.new-ids.ensures.empty)
