use Rattle.std.proofs.Common.{◌≡◌, ◌∷◌, length, reverse}
use Rattle.facet_solver.specs.build.Build.{build_of}
use Rattle.facet_solver.specs.build.Outcome.{effect}
use Rattle.facet_solver.specs.build.Walk.{walk_fields}
use Rattle.facet_solver.specs.build.WalkFrames.{AreFrames, walk_frames}
use Rattle.facet_solver.proofs.WalkFrames.{work_of_frames}
use Rattle.facet_solver.proofs.build.walk.walk_fields.Given as goal

-- the innermost fields and what lies on the stack have the effect of the whole
abbrev pub invariant-loop-field : goal.invariant-loop-field
invariant-loop-field l =
    AreFrames (build_of l.walker.build) l.walker.tables (length l.place) (l.frame ∷ reverse l.frames.items)
    × (effect l.resolution (walk_frames (build_of l.walker.build) l.place (l.frame ∷ reverse l.frames.items) l.rest)
    ≡ effect l.fn.resolution (walk_fields (build_of l.walker.build) l.fn.fields l.fn.place l.fn.indices))

abbrev pub decreases-loop-field : goal.decreases-loop-field
decreases-loop-field l = work_of_frames (build_of l.walker.build) (l.frame ∷ reverse l.frames.items)
