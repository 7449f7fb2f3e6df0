use Rattle.std.proofs.Common.{◌∙◌, ◌++◌, [], ◌∷◌, ap, get_or, map, sym, take}
use Rattle.std.proofs.lemmas.List.{map-append, take_more}
use Rattle.facet_solver_tool.specs.Checks.{lines_view}
use Rattle.facet_solver_tool.specs.Findings.{finding_of, finding_view}
use Rattle.facet_solver_tool.proofs.check.finding.findings_of.Goals as goal

-- one finding more
pub loop-ambiguity-preserved : goal.loop-ambiguity-preserved
loop-ambiguity-preserved c =
    let items = c.deref-ambiguity-items.result.now in
    let i = c.loop-ambiguity.ambiguity-index in
    let a = c.ambiguity-item.result in
    let of = finding_of (lines_view c.args.lines.now) in
    ap (map finding_view) c.in_ok-push_finding.ensures
    ∙ map-append finding_view c.loop-ambiguity.findings.items (c.in_ok-finding.finding ∷ [])
    ∙ ap (λ fs. fs ++ finding_view c.in_ok-finding.finding ∷ []) c.loop-ambiguity.invariant
    ∙ ap (λ v. map of (take i items) ++ v ∷ []) c.in_ok-finding.ensures
    ∙ ap (λ x. map of (take i items) ++ of x ∷ []) c.ambiguity-item.is
    ∙ sym (map-append of (take i items) (get_or items i a ∷ []))
    ∙ ap (map of) (sym (take_more items i a c.loop-ambiguity-test.true))
