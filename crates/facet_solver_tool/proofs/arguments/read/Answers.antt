use Rattle.std.proofs.Common.{◌≡◌, ◌∙◌, ap, filter, subst, Ok, Err}
use Rattle.facet_solver_shape.specs.Names.{names_of}
use Rattle.facet_solver_tool.specs.Requests.{is_operand, misuse_of, read_operands, request_view}
use Rattle.facet_solver_tool.proofs.Words.{filter_said}
use Rattle.facet_solver_tool.proofs.arguments.read.Goals as goal

pub returns-in-Ok : goal.returns-in-Ok
returns-in-Ok c =
    let words = c.args.words.now in
    let names = names_of words in
    let same : names_of c.deref.result.now ≡ filter is_operand names =
    ap names_of (c.deref.ensures.value ∙ c.in_ok-operands.ensures) ∙ filter_said is_operand (λ w. w.now) words in
    subst (λ os. read_operands names os ≡ Ok (request_view c.in-Ok.request)) same c.in-Ok.ensures

pub returns : goal.returns
returns c =
    let words = c.args.words.now in
    let names = names_of words in
    let same : names_of c.deref.result.now ≡ filter is_operand names =
    ap names_of (c.deref.ensures.value ∙ c.in_ok-operands.ensures) ∙ filter_said is_operand (λ w. w.now) words in
    subst (λ os. read_operands names os ≡ Err (misuse_of c.in-Err.misuse)) same c.in-Err.ensures
