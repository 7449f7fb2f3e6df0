use Rattle.std.proofs.Common.{◌≡◌, ◌≢◌, ◌<◌, Err, length, sym, ap, ◌∙◌, arith, rules}
use Rattle.std.proofs.lemmas.Bool.Decides.{nat_tests}
use Rattle.facet_solver_types.specs.declared.fault.Fault.TheVariants.{OutOfMemory}
use Rattle.facet_solver_types.specs.declared.grammar.run.Run.TheVariants.{Value}
use Rattle.facet_solver_types.specs.Entries.{entries, entries_view, entry_at, entry_view}
use Rattle.facet_solver_types.specs.Passages.{passage_view}
use Rattle.facet_solver_types.specs.Pieces.{each, pieces}
use Rattle.facet_solver_types.proofs.Listed.{all_read, before, turn_fault, turn_ok, view_more}
use Rattle.facet_solver_types.proofs.Views.{view_len}
use Rattle.facet_solver_types.proofs.grammar.entry.entries.Goals as goal

pub returns-in_err-entry_at : goal.returns-in_err-entry_at
returns-in_err-entry_at c =
    let l = c.loop-left in
    let rule = entry_at in
    let left = passage_view l.left in
    let fault = c.in_err-entry_at.field-0.0 in
    let seen = view_len l.left.tokens.now in
    let filled : 0 < length l.left.tokens.now = grind (arith, nat_tests) in
    let some : 0 < length left.tokens = omega (arith, seen, filled) in
    let told : fault ≢ OutOfMemory → entries (passage_view c.args.passage) ≡ Err fault =
    λ real. l.invariant
    ∙ turn_fault Value rule (entries_view l.found.items) left c.run_len-len.result (passage_view c.up_to.result) some c.run_len-len.ensures.value c.up_to.ensures fault (c.in_err-entry_at.ensures real)
    in
    search (rules, told)

pub loop-left-preserved : goal.loop-left-preserved
loop-left-preserved c =
    let l = c.loop-left in
    let rule = entry_at in
    let left = passage_view l.left in
    let rest = passage_view c.after_comma-left.result in
    let seen = view_len l.left.tokens.now in
    let filled : 0 < length l.left.tokens.now = grind (arith, nat_tests) in
    let some : 0 < length left.tokens = omega (arith, seen, filled) in
    let x = c.in_ok-entry_at.field-0 in
    l.invariant
    ∙ turn_ok Value rule (entries_view l.found.items) left c.run_len-len.result (passage_view c.up_to.result) some c.run_len-len.ensures.value c.up_to.ensures rest (entry_view x) c.after_comma-left.ensures.value c.in_ok-entry_at.ensures
    ∙ ap (λ found. before found (each rule (pieces Value rest))) (sym (view_more entry_view l.found.items x) ∙ ap entries_view (sym c.in_ok-push.ensures.items))

pub returns : goal.returns
returns c =
    let l = c.loop-left in
    let seen = view_len l.left.tokens.now in
    let none : length l.left.tokens.now ≡ 0 = grind (arith, nat_tests) in
    l.invariant ∙ all_read Value entry_at (entries_view l.found.items) (passage_view l.left) (seen ∙ none)
