use Rattle.std.proofs.Common.{◌≡◌, drop}
use Rattle.std.specs.Option.{option_copied, option_or}
use Rattle.facet_solver.specs.build.Build.{build_of}
use Rattle.facet_solver.specs.build.CatchAlls as last
use Rattle.facet_solver.proofs.build.catch_alls.last_with.Given as goal

-- the last of those that are left, or else of those so far
abbrev pub invariant-loop-field : goal.invariant-loop-field
invariant-loop-field l =
    option_or (last.last_with l.walker.contribution.by_index.items (build_of l.walker.build) l.category (drop l.field-index l.fields)) (option_copied l.last)
    ≡ last.last_with l.walker.contribution.by_index.items (build_of l.walker.build) l.category l.fields
