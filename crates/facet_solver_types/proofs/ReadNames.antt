-- The names of both directions, an entry at a time.
use Rattle.std.proofs.Common.{◌≡◌, ℕ, ◌+◌, ◌<◌, List, ◌∷◌, length, get_or, drop, Option, refl, ap, add-one, drop-cons}
use Rattle.std.specs.Option.{option_and_then}
use Rattle.facet_solver_types.specs.declared.grammar.entry.Entry as declared
use Rattle.facet_solver_types.specs.Entries.{entries_view, entry_view}
use Rattle.facet_solver_types.specs.Tokens.{Token}
use Rattle.facet_solver_types.specs.Values.{name_after, then_name}

-- an entry, and those after it
pub name_turn : (found : Option Token) (es : List declared.Entry) (at : ℕ) (d : declared.Entry)
    → at < length es
    → name_after found (entries_view (drop at es))
    ≡ option_and_then (λ name. name_after name (entries_view (drop (at + 1) es)))
    (then_name found (entry_view (get_or es at d)))
name_turn found es at d within =
    let split : drop at es ≡ get_or es at d ∷ drop (at + 1) es =
    rw (add-one, drop-cons es at d) refl in
    ap (λ rest. name_after found (entries_view rest)) split
