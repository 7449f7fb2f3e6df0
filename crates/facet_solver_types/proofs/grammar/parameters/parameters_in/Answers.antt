use Rattle.std.proofs.Common.{◌≡◌, ◌≢◌, ◌<◌, Err, length, option_map, sym, ap, ◌∙◌, arith, rules}
use Rattle.std.proofs.lemmas.Bool.Decides.{nat_tests}
use Rattle.facet_solver_types.specs.declared.fault.Fault.TheVariants.{OutOfMemory}
use Rattle.facet_solver_types.specs.Declarations.{parameter_view, parameters_view}
use Rattle.facet_solver_types.specs.Parameters.{parameters_in}
use Rattle.facet_solver_types.specs.Passages.{passage_view}
use Rattle.facet_solver_types.proofs.Listed.{before}
use Rattle.facet_solver_types.proofs.ListedParameters.{parameter_fault, parameter_ok, parameters_more, parameters_read}
use Rattle.facet_solver_types.proofs.Views.{view_len}
use Rattle.facet_solver_types.proofs.grammar.parameters.parameters_in.Goals as goal

pub returns-in_err-piece : goal.returns-in_err-piece
returns-in_err-piece c =
    let l = c.loop-left in
    let left = passage_view l.left in
    let fault = c.in_err-piece.field-0.0 in
    let seen = view_len l.left.tokens.now in
    let filled : 0 < length l.left.tokens.now = grind (arith, nat_tests) in
    let some : 0 < length left.tokens = omega (arith, seen, filled) in
    let told : fault ≢ OutOfMemory → parameters_in (passage_view c.args.passage) ≡ Err fault =
    λ real. l.invariant
    ∙ parameter_fault (parameters_view l.found.items) left c.run_len-len.result (passage_view c.up_to.result) some c.run_len-len.ensures.value c.up_to.ensures fault (c.in_err-piece.ensures real)
    in
    search (rules, told)

pub loop-left-preserved : goal.loop-left-preserved
loop-left-preserved c =
    let l = c.loop-left in
    let left = passage_view l.left in
    let rest = passage_view c.after_comma-left.result in
    let seen = view_len l.left.tokens.now in
    let filled : 0 < length l.left.tokens.now = grind (arith, nat_tests) in
    let some : 0 < length left.tokens = omega (arith, seen, filled) in
    let x = c.in_ok-piece.piece in
    l.invariant
    ∙ parameter_ok (parameters_view l.found.items) left c.run_len-len.result (passage_view c.up_to.result) some c.run_len-len.ensures.value c.up_to.ensures rest (option_map parameter_view x) c.after_comma-left.ensures.value c.in_ok-piece.ensures
    ∙ ap (λ found. before found (parameters_in rest)) (sym (parameters_more l.found.items x) ∙ ap parameters_view (sym c.in_ok-add.ensures))

pub returns : goal.returns
returns c =
    let l = c.loop-left in
    let seen = view_len l.left.tokens.now in
    let none : length l.left.tokens.now ≡ 0 = grind (arith, nat_tests) in
    l.invariant ∙ parameters_read (parameters_view l.found.items) (passage_view l.left) (seen ∙ none)
