use Rattle.std.proofs.Common.{◌≡◌, ◌∙◌, ap, filter, option_map, subst, Ok, Err}
use Rattle.facet_solver_shape.specs.Names.{names_of}
use Rattle.facet_solver_tool.specs.declared.question.Task.TheVariants.{Check}
use Rattle.facet_solver_tool.specs.Requests.{is_operand_of_check, misuse_of, question, request_view}
use Rattle.facet_solver_tool.proofs.Words.{filter_said}
use Rattle.facet_solver_tool.proofs.arguments.check_accepting.Goals as goal

pub returns-in-Ok : goal.returns-in-Ok
returns-in-Ok c =
    let words = c.args.words.now in
    let accepted = option_map (λ file. file.now) c.args.accepted in
    let same = ap names_of (c.deref.ensures.value ∙ c.in_ok-operands.ensures) ∙ filter_said is_operand_of_check (λ w. w.now) words in
    subst (λ m. question (Check m) accepted (filter is_operand_of_check (names_of words)) ≡ Ok (request_view c.in-Ok.request)) c.manner.ensures
    (subst (λ os. question (Check c.manner.result) accepted os ≡ Ok (request_view c.in-Ok.request)) same c.in-Ok.ensures)

pub returns : goal.returns
returns c =
    let words = c.args.words.now in
    let accepted = option_map (λ file. file.now) c.args.accepted in
    let same = ap names_of (c.deref.ensures.value ∙ c.in_ok-operands.ensures) ∙ filter_said is_operand_of_check (λ w. w.now) words in
    subst (λ m. question (Check m) accepted (filter is_operand_of_check (names_of words)) ≡ Err (misuse_of c.in-Err.misuse)) c.manner.ensures
    (subst (λ os. question (Check c.manner.result) accepted os ≡ Err (misuse_of c.in-Err.misuse)) same c.in-Err.ensures)
