use Rattle.std.proofs.Common.{◌≡◌, ◌∙◌, ◌++◌, [], inl, inr, length, drop, map, ap, rules, sym, append-nil}
use Rattle.std.proofs.lemmas.Slice.Zip.{zip_end}
use Rattle.facet_solver_types.specs.Links.{names_view}
use Rattle.facet_solver_types.specs.TypeTables.{table_view}
use Rattle.facet_solver_types.specs.ShapeFaults.{variants_faults}
use Rattle.facet_solver_types.specs.Understood.{variant_view}
use Rattle.facet_solver_types.proofs.ShapeFaults.{variants_over}
use Rattle.facet_solver_types.proofs.ZippedLists.{either_over}
use Rattle.facet_solver_types.proofs.catalogue.faults.add_variants_faults.Goals as goal

pub returns : goal.returns
returns c =
    let l = c.loop-variant in
    let table = table_view c.args.table in
    let vs = c.args.variants.now in
    let ts = c.args.types.now in
    let n = length l.yielded in
    let end = zip_end vs ts l.yielded c.into_iter-variant-iterator.result l.variant-iterator c.next.new.self
    c.next.result (search rules) (search rules) l.yielded_by c.in-None.is c.next.ensures.steps in
    let over : variants_faults table (map variant_view (drop n vs)) (names_view (drop n ts)) ≡ [] =
    elim (either_over vs ts n end) [
      | inl e ↦ ap (λ xs. variants_faults table (map variant_view xs) (names_view (drop n ts))) e
      | inr e ↦ ap (λ xs. variants_faults table (map variant_view (drop n vs)) (names_view xs)) e
          ∙ variants_over table (map variant_view (drop n vs))
    ] in
    sym (l.invariant ∙ ap (λ rest. l.faults.items ++ rest) over ∙ append-nil l.faults.items)
