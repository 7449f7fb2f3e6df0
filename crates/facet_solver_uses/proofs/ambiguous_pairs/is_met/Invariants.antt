use Rattle.std.proofs.Common.{◌≡◌, false, take}
use Rattle.std.specs.List.{list_any}
use Rattle.facet_solver.specs.Fields.{matches}
use Rattle.facet_solver_uses.specs.KeysToChoice.{keys_of}
use Rattle.facet_solver_uses.proofs.ambiguous_pairs.is_met.Given as goal

-- no key so far means the field
abbrev pub invariant-loop-key : goal.invariant-loop-key
invariant-loop-key l =
    list_any (λ key. matches key l.field) (keys_of (take l.key-index l.keys)) ≡ false
