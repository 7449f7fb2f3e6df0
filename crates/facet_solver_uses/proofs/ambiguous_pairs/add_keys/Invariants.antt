use Rattle.std.proofs.Common.{map}
use Rattle.facet_solver.specs.Fields.{entry_view}
use Rattle.facet_solver_uses.specs.KeysToChoice.{keys_of}
use Rattle.facet_solver_uses.proofs.AmbiguousPairs.{UnderWay}
use Rattle.facet_solver_uses.proofs.ambiguous_pairs.add_keys.Given as goal

-- keys for the fields so far were added
abbrev pub invariant-loop-field : goal.invariant-loop-field
invariant-loop-field l =
    UnderWay l.required_by l.other (keys_of l.fn.keys.items) (keys_of l.keys.items)
    (map (λ e. e.1) (map entry_view l.field-iterator))
