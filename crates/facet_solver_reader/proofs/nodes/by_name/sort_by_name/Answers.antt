use Rattle.std.proofs.Common.{ℕ, Bor, rules}
use Rattle.std.proofs.lemmas.Fn.{always_returns_same}
use Rattle.facet_solver_shape.specs.Names.{Name}
use Rattle.facet_solver_reader.proofs.NodeNames.{sorted_names}
use Rattle.facet_solver_reader.proofs.nodes.by_name.sort_by_name.Goals as goal

pub repeated_name-requires : goal.repeated_name-requires
repeated_name-requires c =
    sorted_names _ (c.sort_unstable_by_key.ensures.sorted (λ (e : Bor Name × ℕ). e.0) (always_returns_same _ _ _ (λ a r q k. search rules)))
