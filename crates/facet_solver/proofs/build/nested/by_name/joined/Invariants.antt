use Rattle.std.proofs.Common.{◌≡◌, ◌∷◌, [], ◌++◌, ℕ, Bool}
use Rattle.std.specs.List.{AllByRecursion}
use Rattle.facet_solver.specs.build.Nested.{Under}
use Rattle.facet_solver.specs.build.NestedNames.{AreRising, HasEachOnce, NamesLead, paths_of_names}
use Rattle.facet_solver.proofs.NestedNames.{AreSorted}
use Rattle.facet_solver.proofs.build.nested.by_name.joined.Given as goal

-- those that are joined, the last one so far, and those that are left
abbrev pub invariant-loop-named : goal.invariant-loop-named
invariant-loop-named l =
    let rest = l.named-iterator.rest.items in
    ((under : Under) → paths_of_names under (l.joined.items ++ l.last ∷ rest) ≡ paths_of_names under l.fn.sorted.items)
    × ((passes : ℕ → Bool) → NamesLead passes l.fn.sorted.items → NamesLead passes (l.joined.items ++ l.last ∷ rest))
    × AreRising (l.joined.items ++ l.last ∷ [])
    × AreSorted (l.last ∷ rest)
    × AllByRecursion (λ e. HasEachOnce e.1) l.joined.items
