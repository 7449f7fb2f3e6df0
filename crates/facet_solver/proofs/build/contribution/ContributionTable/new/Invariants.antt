use Rattle.std.proofs.Common.{◌-◌, length}
use Rattle.facet_solver.specs.build.Build.{build_of}
use Rattle.facet_solver.proofs.Contribution.{AreFirstContributions}
use Rattle.facet_solver.proofs.build.contribution.ContributionTable.new.Given as goal

-- the entries so far
abbrev pub invariant-loop-build : goal.invariant-loop-build
invariant-loop-build l =
    AreFirstContributions (build_of l.build) l.by_index.items

abbrev pub decreases-loop-build : goal.decreases-loop-build
decreases-loop-build l = l.end - length l.by_index.items
