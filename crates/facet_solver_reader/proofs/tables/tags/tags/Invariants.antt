use Rattle.std.proofs.Common.{◌≡◌, length}
use Rattle.facet_solver_reader.specs.Tags.{AreTags}
use Rattle.facet_solver_reader.proofs.tables.tags.tags.Given as goal

-- those of the shapes so far are there
abbrev pub invariant-loop-index : goal.invariant-loop-index
invariant-loop-index l = (length l.tags.items ≡ l.index) × AreTags l.shapes l.tags.items
