use Rattle.std.proofs.Common.{◌≡◌, length}
use Rattle.facet_solver_types.specs.AttributeEntries.{attribute_entries}
use Rattle.facet_solver_types.specs.Entries.{entries_view}
use Rattle.facet_solver_types.specs.Tokens.{tokens_view}
use Rattle.facet_solver_types.proofs.Listed.{before}
use Rattle.facet_solver_types.proofs.grammar.attributes.attribute_entries.Given as goal

-- the entries so far, and those of the rest, are all
abbrev pub invariant-loop-left : goal.invariant-loop-left
invariant-loop-left l = record {
  all : attribute_entries (tokens_view l.attributes)
      ≡ before (entries_view l.found.items) (attribute_entries (tokens_view l.left.tokens.now));
  end : l.left.end ≡ 0;
}

abbrev pub decreases-loop-left : goal.decreases-loop-left
decreases-loop-left l = length l.left.tokens.now
