use Rattle.std.proofs.Common.{◌≡◌, drop}
use Rattle.std.specs.Option.{option_map}
use Rattle.facet_solver_types.specs.Entries.{entries_view}
use Rattle.facet_solver_types.specs.Tokens.{token_view}
use Rattle.facet_solver_types.specs.Values.{name_after, read_name}
use Rattle.facet_solver_types.proofs.attribute.value.read_name.Given as goal

-- the name of all entries is that of the rest after the one that was found
abbrev pub invariant-loop-entry : goal.invariant-loop-entry
invariant-loop-entry l =
    read_name (entries_view l.entries)
    ≡ name_after (option_map token_view l.found) (entries_view (drop l.entry-index l.entries))
