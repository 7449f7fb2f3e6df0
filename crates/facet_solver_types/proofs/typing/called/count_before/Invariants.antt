use Rattle.std.proofs.Common.{◌≡◌, ◌+◌, ◌≤◌, drop}
use Rattle.facet_solver_types.specs.Called.{count_before}
use Rattle.facet_solver_types.specs.Understood.{declarations_view}
use Rattle.facet_solver_types.proofs.typing.called.count_before.Given as goal

-- those so far, and those of the others
abbrev pub invariant-loop-other : goal.invariant-loop-other
invariant-loop-other l = record {
  rest : count_before (declarations_view l.declarations) l.module_name l.indices l.index
      ≡ l.count
      + count_before (declarations_view l.declarations) l.module_name
      (drop l.other-index l.indices) l.index;
  few : l.count ≤ l.other-index;
}
