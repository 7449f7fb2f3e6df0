use Rattle.std.proofs.Common.{rules, ◌≡◌, sym, ◌∙◌, Some, None, subst, Option}
use Rattle.std.specs.BTreeMap.Entry.{map_with_value, entry_value}
use Rattle.facet_solver_shape.specs.Names.{Name, name_eq}
use Rattle.facet_solver.specs.schema.IndexEntries.{HasBound, IsAdded, IsSlotAfter, named_entry}
use Rattle.facet_solver.specs.declared.schema.index.entry.Entry.{Entry}
use Rattle.facet_solver.proofs.NamedEntries.{put_entry}
use Rattle.facet_solver.proofs.schema.index.category_index.add_named.Goals as goal

pub add-requires-clause-bound : goal.add-requires-clause-bound
add-requires-clause-bound c =
    let entry = c.into_mut.result.now in
    let occupied : entry_value c.in_ok-entry.field-0 ≡ Some entry = search rules in
    subst (λ (o : Option Entry). HasBound c.args.at.now.bound o) (sym c.in_ok-entry.ensures.value ∙ occupied) (c.requires.bounds c.args.name.now)

pub returns-in_ok-add-in-Occupied : goal.returns-in_ok-add-in-Occupied
returns-in_ok-add-in-Occupied c =
    let entry = c.add.new.self in
    let occupied : entry_value c.in_ok-entry.field-0 ≡ Some c.into_mut.result.now = search rules in
    let there = sym c.in_ok-entry.ensures.value ∙ occupied in
    let after = map_with_value c.in_ok-entry.field-0 entry in
    let put : (n : Name) → IsSlotAfter (name_eq n c.args.name.now) c.args.at.now (named_entry c.args.named.now n) (named_entry after n) =
    put_entry c.args.named.now after c.args.name.now c.args.at.now entry (subst (λ (o : Option Entry). IsAdded o c.args.at.now entry) (sym there) c.in_ok-add-in-Occupied.ensures) (c.in_ok-entry.ensures.update.0 entry) in
    search rules

pub returns-in_ok-of_one-in-Vacant : goal.returns-in_ok-of_one-in-Vacant
returns-in_ok-of_one-in-Vacant c =
    let entry = c.in_ok-of_one-in-Vacant.field-0 in
    let vacant : entry_value c.in_ok-entry.field-0 ≡ None = search rules in
    let none = sym c.in_ok-entry.ensures.value ∙ vacant in
    let after = map_with_value c.in_ok-entry.field-0 entry in
    let put : (n : Name) → IsSlotAfter (name_eq n c.args.name.now) c.args.at.now (named_entry c.args.named.now n) (named_entry after n) =
    put_entry c.args.named.now after c.args.name.now c.args.at.now entry (subst (λ (o : Option Entry). IsAdded o c.args.at.now entry) (sym none) c.in_ok-of_one-in-Vacant.ensures) (c.in_ok-entry.ensures.update.0 entry) in
    search rules
