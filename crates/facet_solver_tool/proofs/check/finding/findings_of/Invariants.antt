use Rattle.std.proofs.Common.{◌≡◌, map, take}
use Rattle.facet_solver_tool.specs.Checks.{lines_view}
use Rattle.facet_solver_tool.specs.Findings.{finding_of, finding_view}
use Rattle.facet_solver_tool.proofs.check.finding.findings_of.Given as goal

-- the findings so far are those of the ambiguities so far
abbrev pub invariant-loop-ambiguity : goal.invariant-loop-ambiguity
invariant-loop-ambiguity l =
    map finding_view l.findings.items ≡ map (finding_of (lines_view l.lines)) (take l.ambiguity-index l.ambiguity-items)
