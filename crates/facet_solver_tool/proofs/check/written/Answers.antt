use Rattle.std.specs.Prelude.{⊤}
use Rattle.std.proofs.Common.{◌≡◌, [], IfOk, Result, Ok, Err, string_bytes, subst, sym}
use Rattle.facet_solver_tool.specs.Checks.{TellsTypes}
use Rattle.facet_solver_tool.specs.RootAnswers.{check_text}
use Rattle.facet_solver_tool.proofs.check.written.Goals as goal

any_ok : {X E : Type 0} (r : Result X E) → IfOk r (λ _. ⊤)
any_ok (Ok x) = tt
any_ok (Err e) = tt

pub returns-in-Text : goal.returns-in-Text
returns-in-Text c =
    let checked = c.args.checked.now in
    subst
    (λ form. IfOk c.text_of.result (λ text. TellsTypes form ((c.args.findings.now ≡ []) × (c.args.outdated.now ≡ [])) (check_text checked.shapes.now checked.types.now checked.id) (string_bytes text)))
    (sym c.in-Text.is)
    c.text_of.ensures

pub returns-in-Json : goal.returns-in-Json
returns-in-Json c =
    let checked = c.args.checked.now in
    subst
    (λ form. IfOk c.data_of.result (λ text. TellsTypes form ((c.args.findings.now ≡ []) × (c.args.outdated.now ≡ [])) (check_text checked.shapes.now checked.types.now checked.id) (string_bytes text)))
    (sym c.in-Json.is)
    (any_ok c.data_of.result)
