use Rattle.std.proofs.Common.{All, take}
use Rattle.facet_solver_checker.specs.EndWays.{HasContent}
use Rattle.facet_solver_checker.proofs.end_ways.contents_of.Given as goal

-- the contents of the variants before this one that have the name
abbrev pub invariant-loop-variant : goal.invariant-loop-variant
invariant-loop-variant l =
    All (HasContent l.name l.contents.items) (take l.variant-index l.names)
