-- The names that a `use` takes, a token at a time.
use Rattle.std.proofs.Common.{◌≡◌, ℕ, ◌+◌, ◌<◌, List, [], ◌∷◌, ◌++◌, Option, Some, None, length, drop, map, option_map, refl, ap, ◌∙◌, sym, arith}
use Rattle.std.specs.Option.{option_to_list}
use Rattle.facet_solver_shape.specs.Names.{Name}
use Rattle.facet_solver_types.specs.declared.declare.source.Source.{Source}
use Rattle.facet_solver_types.specs.declared.token.Token as declared
use Rattle.facet_solver_types.specs.Elsewhere.{taken, taken_at}
use Rattle.facet_solver_types.specs.Sites.{Site}
use Rattle.facet_solver_types.specs.Tokens.{tokens_view}
use Rattle.facet_solver_types.proofs.Turns.{here}

-- what the token at a place says, and what the others do
pub taken_turn : (ds : List Name) (source : Source) (site : Site) (ts : List declared.Token) (at : ℕ) → at < length ts
    → taken ds source site (tokens_view (drop at ts))
    ≡ option_to_list (taken_at ds source site (tokens_view (drop at ts))) ++ taken ds source site (tokens_view (drop (at + 1) ts))
taken_turn ds source site [] at within = absurd (omega arith)
taken_turn ds source site (t ∷ ts) at within =
    let turn = here (t ∷ ts) at t within in
    ap (taken ds source site) turn
    ∙ ap (λ l. option_to_list (taken_at ds source site l) ++ taken ds source site (tokens_view (drop (at + 1) (t ∷ ts)))) (sym turn)

-- what is seen of a value, if there is one
pub seen_alone : {A B : Type 0} (view : A → B) (o : Option A)
    → map view (option_to_list o) ≡ option_to_list (option_map view o)
seen_alone view None = refl
seen_alone view (Some x) = refl
