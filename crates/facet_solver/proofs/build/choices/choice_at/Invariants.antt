use Rattle.std.proofs.Common.{sum_by}
use Rattle.facet_solver.specs.build.Build.{build_of}
use Rattle.facet_solver.specs.build.ChoiceParts.{choice_at, work_of_part}
use Rattle.facet_solver.specs.build.Listing.{choices_of_root}
use Rattle.facet_solver.proofs.ChoiceParts.{IsPutTogether}
use Rattle.facet_solver.proofs.build.choices.choice_at.Given as goal

-- the parts that are left, and then the indices that came out, are the choice
abbrev pub invariant-loop-part : goal.invariant-loop-part
invariant-loop-part l =
    IsPutTogether (build_of l.walker.build) l.parts.items l.choice.items (choice_at (choices_of_root (build_of l.walker.build) l.fn.root) l.rank)

-- each turn does some of what there is to do for the parts
abbrev pub decreases-loop-part : goal.decreases-loop-part
decreases-loop-part l = sum_by (work_of_part (build_of l.walker.build)) l.parts.items
