use Rattle.std.proofs.Common.{rules, ◌≡◌, ◌∙◌, ap, sym, Some, None}
use Rattle.std.specs.FinMap.{get, insert}
use Rattle.std.specs.BTreeMap.Entry.{map_with_value, entry_value}
use Rattle.facet_solver_shape.specs.Keys.{key_of}
use Rattle.facet_solver_shape.specs.Fields.{IsFieldTable, key_of_field, field_entries_view}
use Rattle.facet_solver_shape.proofs.Keys.{key_cmp_total, key_cmp_same, key_agrees}
use Rattle.facet_solver_shape.proofs.Viewed.{viewed-insert_entry, get_viewed}
use Rattle.facet_solver_shape.proofs.Fields.{rising_viewed, stored-insert_entry, put_back_table, put_back_view}
use Rattle.facet_solver_shape.proofs.resolution.tables.field_map.FieldMap.insert_new.Goals as goal

pub invariant_of-self-in_err-duplicate-in-Occupied : goal.invariant_of-self-in_err-duplicate-in-Occupied
invariant_of-self-in_err-duplicate-in-Occupied c =
    let present = c.into_mut.result.now in
    let occupied : entry_value c.in_ok-place.field-0 ≡ Some present = search rules in
    let update = c.in_ok-place.ensures.update in
    let table : IsFieldTable (map_with_value c.in_ok-place.field-0 present).entries =
    put_back_table c.key.result present c.self.inside.entries.entries c.self.invariant (sym c.in_ok-place.ensures.value ∙ occupied) _ (update.1 present) (update.2 present) in
    search rules

pub returns-in_err-duplicate-in-Occupied-clause-err : goal.returns-in_err-duplicate-in-Occupied-clause-err
returns-in_err-duplicate-in-Occupied-clause-err c =
    let present = c.into_mut.result.now in
    let occupied : entry_value c.in_ok-place.field-0 ≡ Some present = search rules in
    let same : field_entries_view (map_with_value c.in_ok-place.field-0 present).entries ≡ c.args.self.now =
    ap field_entries_view (c.in_ok-place.ensures.update.1 present) ∙ put_back_view c.key.result present c.self.inside.entries.entries c.self.invariant (sym c.in_ok-place.ensures.value ∙ occupied) ∙ c.self.view_is in
    search rules

pub invariant_of-self-in-Occupied : goal.invariant_of-self-in-Occupied
invariant_of-self-in-Occupied c =
    let present = c.into_mut.result.now in
    let occupied : entry_value c.in_ok-place.field-0 ≡ Some present = search rules in
    let update = c.in_ok-place.ensures.update in
    let table : IsFieldTable (map_with_value c.in_ok-place.field-0 present).entries =
    put_back_table c.key.result present c.self.inside.entries.entries c.self.invariant (sym c.in_ok-place.ensures.value ∙ occupied) _ (update.1 present) (update.2 present) in
    search rules

pub returns-in-Occupied-clause-err : goal.returns-in-Occupied-clause-err
returns-in-Occupied-clause-err c =
    let present = c.into_mut.result.now in
    let occupied : entry_value c.in_ok-place.field-0 ≡ Some present = search rules in
    let same : field_entries_view (map_with_value c.in_ok-place.field-0 present).entries ≡ c.args.self.now =
    ap field_entries_view (c.in_ok-place.ensures.update.1 present) ∙ put_back_view c.key.result present c.self.inside.entries.entries c.self.invariant (sym c.in_ok-place.ensures.value ∙ occupied) ∙ c.self.view_is in
    search rules

pub returns-in-Occupied-clause-refused : goal.returns-in-Occupied-clause-refused
returns-in-Occupied-clause-refused c =
    let occupied : entry_value c.in_ok-place.field-0 ≡ Some c.into_mut.result.now = search rules in
    let duplicate = c.in_ok-duplicate-in-Occupied.ensures in
    let found = get_viewed key_cmp_total key_cmp_same key_of key_agrees c.key.result c.self.inside.entries.entries in
    let taken : get c.args.self.now (key_of_field c.args.info) ≡ Some c.into_mut.result.now =
    ap (get c.args.self.now) (sym c.key.ensures) ∙ ap (λ m. get m (key_of c.key.result)) (sym c.self.view_is) ∙ found ∙ sym c.in_ok-place.ensures.value ∙ occupied in
    rw c.from.ensures (record { taken = rw taken (sym duplicate.first); same_name = duplicate.name; same_path = duplicate.second })

pub returns-clause-fresh : goal.returns-clause-fresh
returns-clause-fresh c =
    let vacant : entry_value c.in_ok-place.field-0 ≡ None = search rules in
    let found = get_viewed key_cmp_total key_cmp_same key_of key_agrees c.key.result c.self.inside.entries.entries in
    ap (get c.args.self.now) (sym c.key.ensures) ∙ ap (λ m. get m (key_of c.key.result)) (sym c.self.view_is) ∙ found ∙ sym c.in_ok-place.ensures.value ∙ vacant

pub invariant_of-self-2 : goal.invariant_of-self-2
invariant_of-self-2 c =
    let update = c.in_ok-place.ensures.update in
    let table : IsFieldTable (map_with_value c.in_ok-place.field-0 c.args.info).entries = record {
      rising = rising_viewed _ (update.2 c.args.info);
      stored = rw (update.1 c.args.info) (stored-insert_entry c.key.result c.args.info c.self.inside.entries.entries c.key.ensures c.self.invariant.stored);
    } in
    search rules

pub returns-clause-ok : goal.returns-clause-ok
returns-clause-ok c =
    let made : field_entries_view (map_with_value c.in_ok-place.field-0 c.args.info).entries ≡ insert c.args.self.now (key_of_field c.args.info) c.args.info =
    ap field_entries_view (c.in_ok-place.ensures.update.1 c.args.info)
    ∙ viewed-insert_entry key_cmp_total key_cmp_same key_of key_agrees c.key.result c.args.info c.self.inside.entries.entries
    ∙ ap (λ k. insert (field_entries_view c.self.inside.entries.entries) k c.args.info) c.key.ensures
    ∙ ap (λ m. insert m (key_of_field c.args.info) c.args.info) c.self.view_is in
    search rules
