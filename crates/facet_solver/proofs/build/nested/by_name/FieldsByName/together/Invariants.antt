use Rattle.std.proofs.Common.{◌≡◌, ℕ, Bool, drop}
use Rattle.std.specs.FinSet.{union}
use Rattle.std.specs.List.{AllByRecursion}
use Rattle.facet_solver.specs.build.Nested.{Under, paths_of_each}
use Rattle.facet_solver.specs.build.NestedNames.{NamesLead, paths_of_names}
use Rattle.facet_solver.proofs.build.nested.by_name.FieldsByName.together.Given as goal

-- those so far and those that are left
abbrev pub invariant-loop-fields : goal.invariant-loop-fields
invariant-loop-fields l =
    ((under : Under) → union (paths_of_names under l.gathered.items) (paths_of_each (λ some. paths_of_names under some.by_name.items) (drop l.fields-index l.each)) ≡ paths_of_each (λ some. paths_of_names under some.by_name.items) l.each)
    × ((passes : ℕ → Bool) → AllByRecursion (λ some. NamesLead passes some.by_name.items) l.each → NamesLead passes l.gathered.items)
