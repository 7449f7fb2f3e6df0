use Rattle.std.proofs.Common.{◌≡◌, ◌++◌, Bor, drop, map}
use Rattle.std.specs.List.{filter_map}
use Rattle.facet_solver.specs.schema.IndexEntries.{set_at}
use Rattle.facet_solver.specs.schema.Slots.{categories, slot_in}
use Rattle.facet_solver.specs.set.IndexSet.{IndexSet}
use Rattle.facet_solver.proofs.schema.index.Index.sets_of_each_category.Given as goal

abbrev pub invariant-loop-category : goal.invariant-loop-category
invariant-loop-category l =
    map (λ (s : Bor IndexSet). s.now) l.sets.items ++ filter_map (λ c. set_at l.self (slot_in l.name c)) (drop l.category-index categories)
    ≡ filter_map (λ c. set_at l.self (slot_in l.name c)) categories
