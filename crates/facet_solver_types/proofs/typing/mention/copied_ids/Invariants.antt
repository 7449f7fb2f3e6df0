use Rattle.std.proofs.Common.{◌≡◌, map, take}
use Rattle.std.specs.String.{string_bytes}
use Rattle.facet_solver_types.proofs.typing.mention.copied_ids.Given as goal

-- the ids so far
abbrev pub invariant-loop-id : goal.invariant-loop-id
invariant-loop-id l =
    map string_bytes l.copy.items ≡ map string_bytes (take l.id-index l.ids)
