use Rattle.std.proofs.Common.{◌≡◌, ◌++◌, drop, map}
use Rattle.std.specs.List.{flat_map}
use Rattle.std.specs.String.{string_bytes}
use Rattle.facet_solver_types.specs.TypeIds.{behind_comma}
use Rattle.facet_solver_types.proofs.typing.id.joined.Given as goal

-- the text, and then what is left
abbrev pub invariant-loop-other : goal.invariant-loop-other
invariant-loop-other l =
    string_bytes l.text ++ flat_map behind_comma (map string_bytes (drop l.other-index l.others))
    ≡ string_bytes l.initial.text ++ flat_map behind_comma (map string_bytes l.others)
