use Rattle.facet_solver.proofs.NestedTable.{all_fields, if_wanted}
use Rattle.facet_solver.proofs.build.nested.table.Earlier.struct_entry.Goals as goal

pub returns-clause-under : goal.returns-clause-under
returns-clause-under c =
    if_wanted c.args.wanted.under c.in_ok-under.under _ c.entry.result.under c.entry.ensures.under
    (λ is. all_fields c.args.self _ _ _ _ c.in_ok-gathered.ensures.items c.in_ok-add_through_fields.ensures.more c.in_ok-under.ensures.paths c.in_ok-under.ensures.lead)
