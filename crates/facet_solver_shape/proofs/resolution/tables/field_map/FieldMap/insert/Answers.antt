use Rattle.std.proofs.Common.{◌∙◌, ap}
use Rattle.std.specs.FinMap.{insert}
use Rattle.facet_solver_shape.specs.Keys.{key_of}
use Rattle.facet_solver_shape.specs.Fields.{key_of_field, field_entries_view}
use Rattle.facet_solver_shape.proofs.Keys.{key_cmp_total, key_cmp_same, key_agrees}
use Rattle.facet_solver_shape.proofs.Viewed.{viewed-insert_entry}
use Rattle.facet_solver_shape.proofs.Fields.{rising_viewed, stored-insert_entry}
use Rattle.facet_solver_shape.proofs.resolution.tables.field_map.FieldMap.insert.Goals as goal

pub invariant_of-self-2 : goal.invariant_of-self-2
invariant_of-self-2 c = record {
  rising = rising_viewed _ c.in_ok-insert.ensures.ordered;
  stored = rw c.in_ok-insert.ensures.entries (stored-insert_entry c.key-key.result c.args.info c.self.inside.entries.entries c.key-key.ensures c.self.invariant.stored);
}

pub returns-clause-ok : goal.returns-clause-ok
returns-clause-ok c =
    ap field_entries_view c.in_ok-insert.ensures.entries
    ∙ viewed-insert_entry key_cmp_total key_cmp_same key_of key_agrees c.key-key.result c.args.info c.self.inside.entries.entries
    ∙ ap (λ k. insert (field_entries_view c.self.inside.entries.entries) k c.args.info) c.key-key.ensures
    ∙ ap (λ m. insert m (key_of_field c.args.info) c.args.info) c.self.view_is
