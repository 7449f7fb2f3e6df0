use Rattle.std.proofs.Common.{◌≡◌, false, take}
use Rattle.std.specs.List.{list_any}
use Rattle.facet_solver_uses.specs.KeysToChoice.{keys_of}
use Rattle.facet_solver_uses.specs.AmbiguousPairs.{serves}
use Rattle.facet_solver_uses.proofs.ambiguous_pairs.key_for.Given as goal

-- no key so far does
abbrev pub invariant-loop-key : goal.invariant-loop-key
invariant-loop-key l =
    list_any (serves l.resolution l.field) (keys_of (take l.key-index l.key-items)) ≡ false
