use Rattle.std.proofs.Common.{◌≡◌, drop}
use Rattle.facet_solver.specs.build.Build.{build_of}
use Rattle.facet_solver.specs.build.Contribution.{both, contribution_of_fields}
use Rattle.facet_solver.proofs.build.contribution.contribution_of_fields.Given as goal

-- what those so far contribute, and those that are left
abbrev pub invariant-loop-field : goal.invariant-loop-field
invariant-loop-field l =
    both l.contribution (contribution_of_fields l.earlier (build_of l.build) (drop l.field-index l.fields)) ≡ contribution_of_fields l.earlier (build_of l.build) l.fields
