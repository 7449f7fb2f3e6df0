use Rattle.std.proofs.Common.{rules, Bor}
use Rattle.std.proofs.lemmas.List.Sorted.{IsNonDecreasingBy-from_sort_by_key}
use Rattle.std.proofs.lemmas.Fn.{always_returns_same}
use Rattle.facet_solver.specs.declared.Variant.{Variant}
use Rattle.facet_solver_uses.specs.Untagged.{variant_score}
use Rattle.facet_solver_uses.proofs.UntaggedValues.{by_number}
use Rattle.facet_solver_uses.proofs.untagged.by_score.Goals as goal

pub returns : goal.returns
returns c =
    by_number c.args.shapes.now c.args.variants.items c.sort_by_key.new.self.items
    (IsNonDecreasingBy-from_sort_by_key (λ (v : Bor Variant). variant_score c.args.shapes.now v.now) _ c.in_ok-sort_by_key.ensures.sorted (λ a r q k. search rules))
    (c.sort_by_key.ensures.stable (λ (v : Bor Variant). variant_score c.args.shapes.now v.now) (always_returns_same _ _ _ (λ a r q k. search rules)))
