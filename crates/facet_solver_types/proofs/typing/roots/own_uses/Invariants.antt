use Rattle.std.proofs.Common.{◌≡◌, ◌++◌, drop}
use Rattle.facet_solver_types.specs.Roots.{own_uses, own_uses_from}
use Rattle.facet_solver_types.specs.Understood.{declarations_view}
use Rattle.facet_solver_types.specs.Uses.{uses_view}
use Rattle.facet_solver_types.proofs.typing.roots.own_uses.Given as goal

-- all are those so far, and those of the rest
abbrev pub invariant-loop-index : goal.invariant-loop-index
invariant-loop-index l =
    own_uses (declarations_view l.declarations)
    ≡ uses_view l.uses.items
    ++ own_uses_from l.index (declarations_view (drop l.index l.declarations))
