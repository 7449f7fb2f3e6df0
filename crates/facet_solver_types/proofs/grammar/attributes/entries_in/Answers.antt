use Rattle.std.proofs.Common.{◌≡◌, ◌∙◌, ap, sym, subst, cond, true, Ok, [], ◌∷◌}
use Rattle.facet_solver_types.specs.AttributeEntries.{entries_in, entries_of, is_ours, is_refused}
use Rattle.facet_solver_types.specs.AttributeEntries.{outside_entry, own_entries}
use Rattle.facet_solver_types.specs.Entries.{entries_view}
use Rattle.facet_solver_types.specs.Outcomes.{Gives}
use Rattle.facet_solver_types.specs.Passages.{after, passage_view}
use Rattle.facet_solver_types.specs.Tokens.{token_view, tokens_view}
use Rattle.facet_solver_types.proofs.grammar.attributes.entries_in.Goals as goal

pub returns-then-is_ours : goal.returns-then-is_ours
returns-then-is_ours c =
    let inner = passage_view c.args.inner in
    let name = token_view c.in-Some.name.now in
    let ours : is_ours name ≡ true = sym c.is_ours.ensures ∙ c.if-is_ours.true in
    let other = cond (is_refused name (tokens_view c.in-Some.behind.now))
    (Ok (outside_entry name ∷ [])) (Ok []) in
    let own : entries_in inner ≡ own_entries (passage_view c.after.result) =
    ap (λ ts. entries_of (tokens_view ts) inner) c.in-Some.ensures.cases.0
    ∙ ap (λ b. cond b (own_entries (after 1 inner)) other) ours
    ∙ ap own_entries (sym c.after.ensures.value) in
    subst (λ o. Gives (λ found. entries_view found.items) o c.own_entries.result) (sym own)
    c.own_entries.ensures
