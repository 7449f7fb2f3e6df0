use Rattle.facet_solver.specs.build.Build.{build_of}
use Rattle.facet_solver.specs.build.Counts.{CountsTo}
use Rattle.facet_solver.specs.build.Starts.{count_before}
use Rattle.facet_solver.proofs.Starts.{AreFirstStarts}
use Rattle.facet_solver.proofs.build.starts.starts_of.Given as goal

-- the starts of the variants so far, and where those of the next one begin
abbrev pub invariant-loop-variant : goal.invariant-loop-variant
invariant-loop-variant l =
    AreFirstStarts (build_of l.build) l.variants l.variant-index l.starts.items
    × CountsTo l.before (count_before (build_of l.build) l.variants l.variant-index)
