use Rattle.std.proofs.Common.{ap, List, subst, sym, ◌∙◌}
use Rattle.std.specs.List.{AllByRecursion}
use Rattle.facet_solver.specs.build.Nested.{entered_view, paths_of_each, under_variant}
use Rattle.facet_solver.specs.build.NestedTable.{LeadTo, is_filled, paths_by_name, under_of}
use Rattle.facet_solver.specs.declared.build.nested.by_name.FieldsByName.{FieldsByName}
use Rattle.facet_solver.proofs.NestedTable.{if_wanted, of_each-map}
use Rattle.facet_solver.proofs.build.nested.table.Earlier.enum_entry.Goals as goal

pub returns-clause-under : goal.returns-clause-under
returns-clause-under c =
    let earlier = c.args.self in
    let filled = is_filled earlier.entries.now in
    let paths = paths_by_name (under_of earlier) in
    let each = c.in_ok-each.ensures.each in
    let items = c.deref.ensures.value in
    if_wanted c.args.wanted.under c.in_ok-under.under _ c.entry-2.result.under c.entry-2.ensures.under
    (λ is. record {
      stand =
          c.in_ok-under.ensures.paths (under_of earlier)
          ∙ ap (λ (fs : List FieldsByName). paths_of_each paths fs) items
          ∙ of_each-map paths (under_variant (entered_view earlier.entered) earlier.shapes.now) c.in_ok-each.each.items c.args.variants.now each.stand;
      lead = c.in_ok-under.ensures.lead filled (subst (AllByRecursion (LeadTo filled)) (sym items) each.lead);
    })
