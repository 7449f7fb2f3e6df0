use Rattle.std.proofs.Common.{◌≡◌, ◌≢◌, ◌∙◌, ◌++◌, true, false, ap, sym, drop, Ok, Err, refl, arith, rules}
use Rattle.std.proofs.Common.{append-nil}
use Rattle.std.proofs.lemmas.List.{map-append}
use Rattle.facet_solver_types.specs.declared.fault.Fault.TheVariants.{OutOfMemory}
use Rattle.facet_solver_types.specs.AttributeEntries.{all_entries_in, attribute_entries, entries_from}
use Rattle.facet_solver_types.specs.AttributeEntries.{first_entries, joined}
use Rattle.facet_solver_types.specs.Entries.{entries_view, entry_view}
use Rattle.facet_solver_types.specs.Inside.{inside}
use Rattle.facet_solver_types.specs.Passages.{Passage, after, passage_view}
use Rattle.facet_solver_types.specs.Prefixes.{attribute_len, begins_attribute}
use Rattle.facet_solver_types.specs.Tokens.{tokens_view}
use Rattle.facet_solver_types.proofs.EnteredAttributes.{attribute_more, attribute_none}
use Rattle.facet_solver_types.proofs.EnteredAttributes.{before_joined}
use Rattle.facet_solver_types.proofs.Listed.{before}
use Rattle.facet_solver_types.proofs.Views.{passage_of, view_len}
use Rattle.facet_solver_types.proofs.grammar.attributes.attribute_entries.Goals as goal

pub returns-in_err-entries : goal.returns-in_err-entries
returns-in_err-entries c =
    let l = c.loop-left in
    let ts = tokens_view l.left.tokens.now in
    let es = entries_view l.found.items in
    let fault = c.in_err-entries.field-0.0 in
    let begins : begins_attribute false ts ≡ true =
    sym c.begins_attribute.ensures.value ∙ c.loop-left-test.true in
    let first : first_entries ts ≡ all_entries_in (passage_view c.inside.result) =
    ap (λ e. all_entries_in (inside (after 1 (passage_of e ts)))) {y = l.left.end} (sym l.invariant.end)
    ∙ ap (λ p. all_entries_in (inside p)) (sym c.after.ensures.value)
    ∙ ap all_entries_in (sym c.inside.ensures) in
    let seen = view_len l.left.tokens.now in
    let filled = c.begins_attribute.ensures.some c.loop-left-test.true in
    let rest = entries_from 0 (drop (attribute_len false ts) ts) in
    let told : fault ≢ OutOfMemory → attribute_entries (tokens_view c.args.attributes.now) ≡ Err fault =
    λ real. l.invariant.all
    ∙ ap (before es)
    (attribute_more (attribute_len false ts) ts begins (omega (arith, seen, filled)) refl
    (omega arith))
    ∙ ap (λ e. before es (joined e rest)) (first ∙ c.in_err-entries.ensures real) in
    search (rules, told)

pub loop-left-preserved : goal.loop-left-preserved
loop-left-preserved c =
    let l = c.loop-left in
    let ts = tokens_view l.left.tokens.now in
    let es = entries_view l.found.items in
    let n = c.attribute_len.result in
    let more = entries_view c.in_ok-entries.entries.items in
    let begins : begins_attribute false ts ≡ true =
    sym c.begins_attribute.ensures.value ∙ c.loop-left-test.true in
    let first : first_entries ts ≡ all_entries_in (passage_view c.inside.result) =
    ap (λ e. all_entries_in (inside (after 1 (passage_of e ts)))) {y = l.left.end} (sym l.invariant.end)
    ∙ ap (λ p. all_entries_in (inside p)) (sym c.after.ensures.value)
    ∙ ap all_entries_in (sym c.inside.ensures) in
    let seen = view_len l.left.tokens.now in
    let filled = c.begins_attribute.ensures.some c.loop-left-test.true in
    let rest = entries_from 0 (drop n ts) in
    let added : entries_view c.extend_from_slice.new.self.items ≡ es ++ more =
    ap entries_view c.in_ok-extend_from_slice.ensures.items
    ∙ map-append entry_view l.found.items c.deref.result.now
    ∙ ap (λ xs. es ++ entries_view xs) c.deref.ensures.value in
    let tokens_left : drop n ts ≡ tokens_view c.after-left.result.tokens.now =
    ap (λ (p : Passage). p.tokens) (sym c.after-left.ensures.value) in
    record {
      all = l.invariant.all
          ∙ ap (before es)
          (attribute_more n ts begins (omega (arith, seen, filled)) c.attribute_len.ensures.value
          c.attribute_len.ensures.within.0)
          ∙ ap (λ e. before es (joined e rest)) (first ∙ c.in_ok-entries.ensures)
          ∙ before_joined es more rest
          ∙ ap (λ xs. before xs rest) (sym added)
          ∙ ap (λ xs. before (entries_view c.extend_from_slice.new.self.items)
          (entries_from 0 xs)) tokens_left;
      end = ap (λ (p : Passage). p.end) c.after-left.ensures.value ∙ l.invariant.end;
    }

pub returns : goal.returns
returns c =
    let l = c.loop-left in
    let ts = tokens_view l.left.tokens.now in
    let other : begins_attribute false ts ≡ false =
    sym c.begins_attribute.ensures.value ∙ c.loop-left-test.false in
    l.invariant.all
    ∙ ap (before (entries_view l.found.items)) (attribute_none ts other)
    ∙ ap Ok (append-nil (entries_view l.found.items))
