use Rattle.std.proofs.Common.{◌≡◌, ℕ, true, ap, sym, ◌∙◌, subst, nat_eq}
use Rattle.std.specs.List.{AllByRecursion, dedup}
use Rattle.std.specs.List.Sorted.{IsStrictlyIncreasing}
use Rattle.std.proofs.lemmas.List.Filters.{dedup_is}
use Rattle.std.proofs.lemmas.Map.Keys.{IsStrictlyIncreasing-dedup}
use Rattle.facet_solver.specs.build.Nested.{paths_of_each}
use Rattle.facet_solver.specs.build.NestedNames.{shapes_behind}
use Rattle.facet_solver.proofs.NestedNames.{each-dedup, each_permuted, paths-dedup, paths-permutation}
use Rattle.facet_solver.proofs.build.nested.shapes_behind.ShapesBehind.drop_repeats.Goals as goal

once : (c : goal.After-dedup) → c.dedup.new.self.items ≡ dedup nat_eq c.sort_unstable.new.self.items
once c = dedup_is _ _ _ c.dedup.ensures.filtered

pub returns-in-Several-clause-paths : goal.returns-in-Several-clause-paths
returns-in-Several-clause-paths c = λ under.
    let shapes = c.in-Several.shapes.items in
    ap (paths_of_each under) (once c)
    ∙ paths-dedup under c.sort_unstable.new.self.items
    ∙ paths-permutation under shapes c.sort_unstable.new.self.items c.sort_unstable.ensures.permutation
    ∙ ap (λ b. paths_of_each under (shapes_behind b)) (sym c.in-Several.is)

pub returns-in-Several-clause-lead : goal.returns-in-Several-clause-lead
returns-in-Several-clause-lead c = λ passes lead.
    let P : ℕ → Type 0 = λ id. passes id ≡ true in
    subst (AllByRecursion P) (sym (once c))
    (each-dedup P c.sort_unstable.new.self.items
    (each_permuted P _ _ c.sort_unstable.ensures.permutation
    (subst (λ b. AllByRecursion P (shapes_behind b)) c.in-Several.is lead)))

pub returns-in-Several-clause-once : goal.returns-in-Several-clause-once
returns-in-Several-clause-once c =
    subst IsStrictlyIncreasing (sym (once c)) (IsStrictlyIncreasing-dedup c.sort_unstable.new.self.items c.sort_unstable.ensures.sorted)
