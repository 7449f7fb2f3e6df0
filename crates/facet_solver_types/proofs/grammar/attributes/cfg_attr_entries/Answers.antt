use Rattle.std.proofs.Common.{◌≡◌, ◌≢◌, ◌<◌, ◌∙◌, ◌++◌, Ok, Err, length, ap, sym, arith, rules, append-nil}
use Rattle.std.proofs.lemmas.Bool.Decides.{nat_tests}
use Rattle.std.proofs.lemmas.List.{map-append}
use Rattle.facet_solver_types.specs.declared.fault.Fault.TheVariants.{OutOfMemory}
use Rattle.facet_solver_types.specs.AttributeEntries.{cfg_attr_entries, entries_in, joined}
use Rattle.facet_solver_types.specs.Entries.{entries_view, entry_view}
use Rattle.facet_solver_types.specs.Passages.{after, passage_view}
use Rattle.facet_solver_types.proofs.EnteredAttributes.{before_joined, part_more, part_none}
use Rattle.facet_solver_types.proofs.Listed.{before}
use Rattle.facet_solver_types.proofs.Views.{view_len}
use Rattle.facet_solver_types.proofs.grammar.attributes.cfg_attr_entries.Goals as goal

pub returns-in_err-entries : goal.returns-in_err-entries
returns-in_err-entries c =
    let l = c.loop-left in
    let left = passage_view l.left in
    let es = entries_view l.found.items in
    let len = c.part_len-len in
    let fault = c.in_err-entries.field-0.0 in
    let seen = view_len l.left.tokens.now in
    let filled : 0 < length l.left.tokens.now = grind (arith, nat_tests) in
    let some : 0 < length left.tokens = omega (arith, seen, filled) in
    let told : fault ≢ OutOfMemory → cfg_attr_entries (passage_view c.args.inner) ≡ Err fault =
    λ real. l.invariant
    ∙ ap (before es) (part_more len.result left some len.ensures.value len.ensures.within.0)
    ∙ ap (λ e. before es (joined e (cfg_attr_entries (after len.result left))))
    (ap entries_in (sym c.up_to.ensures) ∙ c.in_err-entries.ensures real) in
    search (rules, told)

pub loop-left-preserved : goal.loop-left-preserved
loop-left-preserved c =
    let l = c.loop-left in
    let left = passage_view l.left in
    let es = entries_view l.found.items in
    let more = entries_view c.in_ok-entries.entries.items in
    let all = entries_view c.extend_from_slice.new.self.items in
    let len = c.part_len-len in
    let later = cfg_attr_entries (after len.result left) in
    let seen = view_len l.left.tokens.now in
    let filled : 0 < length l.left.tokens.now = grind (arith, nat_tests) in
    let some : 0 < length left.tokens = omega (arith, seen, filled) in
    let added : all ≡ es ++ more =
    ap entries_view c.in_ok-extend_from_slice.ensures.items
    ∙ map-append entry_view l.found.items c.deref.result.now
    ∙ ap (λ xs. es ++ entries_view xs) c.deref.ensures.value in
    l.invariant
    ∙ ap (before es) (part_more len.result left some len.ensures.value len.ensures.within.0)
    ∙ ap (λ e. before es (joined e later))
    (ap entries_in (sym c.up_to.ensures) ∙ c.in_ok-entries.ensures)
    ∙ before_joined es more later
    ∙ ap (λ xs. before xs later) (sym added)
    ∙ ap (λ p. before all (cfg_attr_entries p)) (sym c.after-left.ensures.value)

pub returns : goal.returns
returns c =
    let l = c.loop-left in
    let es = entries_view l.found.items in
    let seen = view_len l.left.tokens.now in
    let none : length l.left.tokens.now ≡ 0 = grind (arith, nat_tests) in
    l.invariant
    ∙ ap (before es) (part_none (passage_view l.left) (seen ∙ none))
    ∙ ap Ok (append-nil es)
