use Rattle.std.proofs.Common.{◌≡◌, ℕ, Bool, drop}
use Rattle.std.specs.FinSet.{union}
use Rattle.facet_solver.specs.build.Nested.{Under}
use Rattle.facet_solver.specs.build.NestedNames.{NamesLead, paths_of_names}
use Rattle.facet_solver.proofs.build.nested.by_name.add_copies.Given as goal

-- those so far and those that are left
abbrev pub invariant-loop-name : goal.invariant-loop-name
invariant-loop-name l =
    ((under : Under) → union (paths_of_names under l.gathered.items) (paths_of_names under (drop l.name-index l.name-items))
    ≡ union (paths_of_names under l.fn.gathered.items) (paths_of_names under l.name-items))
    × ((passes : ℕ → Bool) → NamesLead passes l.fn.gathered.items → NamesLead passes l.name-items → NamesLead passes l.gathered.items)
