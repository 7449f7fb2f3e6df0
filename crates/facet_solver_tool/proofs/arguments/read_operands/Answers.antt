use Rattle.std.proofs.Common.{◌≡◌, ◌∙◌, None, true, false, cond, subst, sym}
use Rattle.std.specs.List.{list_any}
use Rattle.facet_solver_shape.specs.Names.{names_of}
use Rattle.facet_solver_tool.specs.declared.question.Task.TheVariants.{Read}
use Rattle.facet_solver_tool.specs.Requests.{IsAsked, is_lines, manner, question, question_of_lines}
use Rattle.facet_solver_tool.proofs.Words.{any_said}
use Rattle.facet_solver_tool.proofs.arguments.read_operands.Goals as goal

pub returns-then-has_lines : goal.returns-then-has_lines
returns-then-has_lines c =
    let words = c.args.words.now in
    let names = names_of words in
    let operands = names_of c.args.operands.now in
    let by_line : list_any is_lines names ≡ true =
    sym (any_said is_lines (λ w. w.now) words) ∙ sym c.has_lines.ensures ∙ c.if-has_lines.true in
    subst (λ b. IsAsked (cond b (question_of_lines (manner names).unknown operands) (question (Read (manner names)) None operands)) c.lines.result)
    (sym by_line)
    (subst (λ m. IsAsked (question_of_lines m.unknown operands) c.lines.result) c.manner-manner.ensures c.lines.ensures)

pub returns-else-has_lines : goal.returns-else-has_lines
returns-else-has_lines c =
    let words = c.args.words.now in
    let names = names_of words in
    let operands = names_of c.args.operands.now in
    let whole : list_any is_lines names ≡ false =
    sym (any_said is_lines (λ w. w.now) words) ∙ sym c.has_lines.ensures ∙ c.if-has_lines.false in
    subst (λ b. IsAsked (cond b (question_of_lines (manner names).unknown operands) (question (Read (manner names)) None operands)) c.question.result)
    (sym whole)
    (subst (λ m. IsAsked (question (Read m) None operands) c.question.result) c.manner-manner.ensures c.question.ensures)
