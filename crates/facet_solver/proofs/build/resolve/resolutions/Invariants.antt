use Rattle.std.proofs.Common.{take}
use Rattle.std.specs.List.{AllZip}
use Rattle.facet_solver.specs.build.Build.{build_of}
use Rattle.facet_solver.specs.build.Choice.{IsResolution}
use Rattle.facet_solver.specs.build.Listing.{choices_of_root}
use Rattle.facet_solver.proofs.build.resolve.resolutions.Given as goal

-- the choices of the ranks so far have their resolutions
abbrev pub invariant-loop-rank : goal.invariant-loop-rank
invariant-loop-rank l =
    AllZip (IsResolution (build_of l.build) l.root) (take l.rank (choices_of_root (build_of l.build) l.root)) l.resolutions.items
