use Rattle.std.proofs.Common.{◌≡◌, ◌∙◌, ◌+◌, ap, drop, None, sym, rules}
use Rattle.std.specs.Option.{option_and_then, option_map}
use Rattle.facet_solver_types.specs.Entries.{entries_view}
use Rattle.facet_solver_types.specs.Tokens.{token_view}
use Rattle.facet_solver_types.specs.Values.{name_after, read_name}
use Rattle.facet_solver_types.proofs.ReadNames.{name_turn}
use Rattle.facet_solver_types.proofs.attribute.value.read_name.Goals as goal

pub returns-in_err-found : goal.returns-in_err-found
returns-in_err-found c =
    let l = c.loop-entry in
    let es = c.args.entries.now in
    let later = option_and_then
    (λ name. name_after name (entries_view (drop (l.entry-index + 1) es))) in
    let none : read_name (entries_view es) ≡ None =
    l.invariant
    ∙ name_turn (option_map token_view l.found) es l.entry-index _ c.loop-entry-test.true
    ∙ ap later (sym c.in_err-found.ensures) in
    search (rules, none)

pub loop-entry-preserved : goal.loop-entry-preserved
loop-entry-preserved c =
    let l = c.loop-entry in
    let es = c.args.entries.now in
    let later = option_and_then
    (λ name. name_after name (entries_view (drop (l.entry-index + 1) es))) in
    l.invariant
    ∙ name_turn (option_map token_view l.found) es l.entry-index _ c.loop-entry-test.true
    ∙ ap later (sym c.in_ok-found.ensures)
