use Rattle.std.proofs.Common.{◌≡◌, ◌≢◌, ◌<◌, Err, length, sym, ap, ◌∙◌, arith, rules}
use Rattle.std.proofs.lemmas.Bool.Decides.{nat_tests}
use Rattle.facet_solver_types.specs.declared.fault.Fault.TheVariants.{OutOfMemory}
use Rattle.facet_solver_types.specs.declared.grammar.run.Run.TheVariants.{FieldType}
use Rattle.facet_solver_types.specs.Declarations.{field_view, fields_view}
use Rattle.facet_solver_types.specs.Fields.{field, fields}
use Rattle.facet_solver_types.specs.Passages.{passage_view}
use Rattle.facet_solver_types.specs.Pieces.{each, pieces}
use Rattle.facet_solver_types.proofs.Listed.{all_read, before, turn_fault, turn_ok, view_more}
use Rattle.facet_solver_types.proofs.Views.{view_len}
use Rattle.facet_solver_types.proofs.grammar.fields.fields.Goals as goal

pub returns-in_err-field : goal.returns-in_err-field
returns-in_err-field c =
    let l = c.loop-left in
    let rule = field c.args.has_names c.args.may_be_public in
    let left = passage_view l.left in
    let fault = c.in_err-field.field-0.0 in
    let seen = view_len l.left.tokens.now in
    let filled : 0 < length l.left.tokens.now = grind (arith, nat_tests) in
    let some : 0 < length left.tokens = omega (arith, seen, filled) in
    let told : fault ≢ OutOfMemory → fields c.args.has_names c.args.may_be_public (passage_view c.args.passage) ≡ Err fault =
    λ real. l.invariant
    ∙ turn_fault FieldType rule (fields_view l.found.items) left c.run_len-len.result (passage_view c.up_to.result) some c.run_len-len.ensures.value c.up_to.ensures fault (c.in_err-field.ensures real)
    in
    search (rules, told)

pub loop-left-preserved : goal.loop-left-preserved
loop-left-preserved c =
    let l = c.loop-left in
    let rule = field c.args.has_names c.args.may_be_public in
    let left = passage_view l.left in
    let rest = passage_view c.after_comma-left.result in
    let seen = view_len l.left.tokens.now in
    let filled : 0 < length l.left.tokens.now = grind (arith, nat_tests) in
    let some : 0 < length left.tokens = omega (arith, seen, filled) in
    let x = c.in_ok-field.field-0 in
    l.invariant
    ∙ turn_ok FieldType rule (fields_view l.found.items) left c.run_len-len.result (passage_view c.up_to.result) some c.run_len-len.ensures.value c.up_to.ensures rest (field_view x) c.after_comma-left.ensures.value c.in_ok-field.ensures
    ∙ ap (λ found. before found (each rule (pieces FieldType rest))) (sym (view_more field_view l.found.items x) ∙ ap fields_view (sym c.in_ok-push.ensures.items))

pub returns : goal.returns
returns c =
    let l = c.loop-left in
    let seen = view_len l.left.tokens.now in
    let none : length l.left.tokens.now ≡ 0 = grind (arith, nat_tests) in
    l.invariant ∙ all_read FieldType (field c.args.has_names c.args.may_be_public) (fields_view l.found.items) (passage_view l.left) (seen ∙ none)
