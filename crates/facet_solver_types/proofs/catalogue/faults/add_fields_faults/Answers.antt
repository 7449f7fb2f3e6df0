use Rattle.std.proofs.Common.{◌≡◌, ◌∙◌, ◌++◌, [], inl, inr, length, drop, map, ap, rules, sym, append-nil}
use Rattle.std.specs.String.{string_bytes}
use Rattle.std.proofs.lemmas.Slice.Zip.{zip_end}
use Rattle.facet_solver_types.specs.TypeTables.{table_view}
use Rattle.facet_solver_types.specs.ShapeFaults.{fields_faults}
use Rattle.facet_solver_types.specs.Understood.{field_view}
use Rattle.facet_solver_types.proofs.ShapeFaults.{fields_over}
use Rattle.facet_solver_types.proofs.ZippedLists.{either_over}
use Rattle.facet_solver_types.proofs.catalogue.faults.add_fields_faults.Goals as goal

pub returns : goal.returns
returns c =
    let l = c.loop-field in
    let table = table_view c.args.table in
    let fs = c.args.fields.now in
    let ts = c.args.types.now in
    let n = length l.yielded in
    let end = zip_end fs ts l.yielded c.into_iter-field-iterator.result l.field-iterator c.next.new.self
    c.next.result (search rules) (search rules) l.yielded_by c.in-None.is c.next.ensures.steps in
    let over : fields_faults table (map field_view (drop n fs)) (map string_bytes (drop n ts)) ≡ [] =
    elim (either_over fs ts n end) [
      | inl e ↦ ap (λ xs. fields_faults table (map field_view xs) (map string_bytes (drop n ts))) e
      | inr e ↦ ap (λ xs. fields_faults table (map field_view (drop n fs)) (map string_bytes xs)) e
          ∙ fields_over table (map field_view (drop n fs))
    ] in
    sym (l.invariant ∙ ap (λ rest. l.faults.items ++ rest) over ∙ append-nil l.faults.items)
