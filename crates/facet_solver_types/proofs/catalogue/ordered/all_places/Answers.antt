use Rattle.std.proofs.Common.{◌≡◌, ◌∙◌, ◌++◌, ◌∷◌, [], length, sym, ap, arith, append_assoc}
use Rattle.std.proofs.lemmas.List.{length-map}
use Rattle.std.specs.List.{range_with_len}
use Rattle.facet_solver_types.specs.CataloguedTypes.{declared_in_order}
use Rattle.facet_solver_types.specs.Links.{links_view}
use Rattle.facet_solver_types.specs.TypeTables.{table_view}
use Rattle.facet_solver_types.specs.TypeEntries.{entry_view}
use Rattle.facet_solver_types.proofs.Ranges.{range_more}
use Rattle.facet_solver_types.proofs.catalogue.ordered.all_places.Goals as goal

pub loop-place-preserved : goal.loop-place-preserved
loop-place-preserved c =
    let places = declared_in_order (table_view c.args.table) (links_view c.args.needs.now) in
    let n = c.loop-place.place in
    c.in_ok-push.ensures.items
    ∙ ap (λ l. l ++ n ∷ []) c.loop-place.invariant
    ∙ append_assoc places (range_with_len 0 n) (n ∷ [])
    ∙ ap (λ l. places ++ l) (sym (range_more 0 n n (omega arith)))

pub returns : goal.returns
returns c =
    let places = declared_in_order (table_view c.args.table) (links_view c.args.needs.now) in
    let seen = length-map c.args.table.entries.now entry_view in
    let all : c.loop-place.place ≡ length c.args.table.entries.now = omega arith in
    c.loop-place.invariant ∙ ap (λ n. places ++ range_with_len 0 n) (all ∙ sym seen)
