use Rattle.std.proofs.Common.{◌≡◌, map, take}
use Rattle.std.specs.Option.{option_copied}
use Rattle.facet_solver.specs.Keys.{key_of}
use Rattle.facet_solver.specs.Resolved.{field_by_key}
use Rattle.facet_solver_uses.proofs.choice_to_values.meant_fields.Given as goal

-- the fields that the keys so far mean
abbrev pub invariant-loop-key : goal.invariant-loop-key
invariant-loop-key l =
    map option_copied l.meant.items
    ≡ map (λ key. field_by_key key l.resolution) (map key_of (take l.key-index l.keys))
