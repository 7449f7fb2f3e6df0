use Rattle.std.proofs.Common.{◌∙◌, Bor, rules}
use Rattle.std.proofs.lemmas.Fn.{always_returns_same}
use Rattle.facet_solver_shape.specs.Names.{Name}
use Rattle.facet_solver.specs.declared.build.nested.shapes_behind.ShapesBehind.{ShapesBehind}
use Rattle.facet_solver.proofs.NestedNames.{each_permuted, paths-permutation}
use Rattle.facet_solver.proofs.build.nested.by_name.FieldsByName.new.Goals as goal

pub returns-then-are_rising-2-clause-paths : goal.returns-then-are_rising-2-clause-paths
returns-then-are_rising-2-clause-paths c = λ under. paths-permutation _ _ _ c.sort_unstable_by_key.ensures.permutation

pub returns-then-are_rising-2-clause-lead : goal.returns-then-are_rising-2-clause-lead
returns-then-are_rising-2-clause-lead c = λ passes lead. each_permuted _ _ _ c.sort_unstable_by_key.ensures.permutation lead

pub joined-requires : goal.joined-requires
joined-requires c =
    c.sort_unstable_by_key.ensures.sorted (λ (e : Bor Name × ShapesBehind). e.0) (always_returns_same _ _ _ (λ a r q k. search rules))

pub returns-clause-paths : goal.returns-clause-paths
returns-clause-paths c = λ under. c.in_ok-by_name.ensures.paths under ∙ paths-permutation _ _ _ c.sort_unstable_by_key.ensures.permutation

pub returns-clause-lead : goal.returns-clause-lead
returns-clause-lead c = λ passes lead. c.in_ok-by_name.ensures.lead passes (each_permuted _ _ _ c.sort_unstable_by_key.ensures.permutation lead)
