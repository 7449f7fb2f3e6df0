use Rattle.std.proofs.Common.{◌∙◌, ap, cond, sym}
use Rattle.facet_solver_tool.specs.declared.question.Form.TheVariants.{Text, Json}
use Rattle.facet_solver_tool.specs.Requests.{is_json}
use Rattle.facet_solver_tool.proofs.Words.{any_said}
use Rattle.facet_solver_tool.proofs.arguments.form.Goals as goal

pub returns-then-has_json : goal.returns-then-has_json
returns-then-has_json c =
    ap (λ b. cond b Json Text)
    (sym c.if-has_json.true ∙ c.has_json.ensures ∙ any_said is_json (λ w. w.now) c.args.words.now)

pub returns-else-has_json : goal.returns-else-has_json
returns-else-has_json c =
    ap (λ b. cond b Json Text)
    (sym c.if-has_json.false ∙ c.has_json.ensures ∙ any_said is_json (λ w. w.now) c.args.words.now)
