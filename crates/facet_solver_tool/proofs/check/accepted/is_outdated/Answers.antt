use Rattle.std.proofs.Common.{◌∙◌, ◌&&◌, ap, not, string_bytes, sym}
use Rattle.std.specs.List.{list_any}
use Rattle.facet_solver_tool.specs.Checks.{begins_with}
use Rattle.facet_solver_tool.specs.Findings.{keys_view}
use Rattle.facet_solver_tool.proofs.Words.{any_said}
use Rattle.facet_solver_tool.proofs.check.accepted.is_outdated.Goals as goal

pub returns-then-starts_with : goal.returns-then-starts_with
returns-then-starts_with c =
    let line = c.args.line.now in
    let findings = c.args.findings.now in
    ap not (c.accepts_one.ensures ∙ any_said (λ key. begins_with key line) (λ f. string_bytes f.key) findings)
    ∙ ap (λ b. b && not (list_any (λ key. begins_with key line) (keys_view findings)))
    (sym (sym c.starts_with.ensures.value ∙ c.if-starts_with.true))
