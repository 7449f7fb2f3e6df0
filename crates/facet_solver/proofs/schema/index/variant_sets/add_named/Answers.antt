use Rattle.std.proofs.Common.{rules, ◌≡◌, ℕ, ◌<◌, ◌&&◌, ◌||◌, nat_eq, [], ap, sym, ◌∙◌, Some, None, Option}
use Rattle.std.specs.BTreeMap.Entry.{map_with_value, entry_value}
use Rattle.std.specs.Option.{option_map_or}
use Rattle.facet_solver_shape.specs.Names.{Name, name_eq}
use Rattle.facet_solver.specs.schema.Selected.{IsBelow, is_in, named_set}
use Rattle.facet_solver.specs.set.IndexSet.{IndexSet, has_index}
use Rattle.facet_solver.proofs.VariantSets.{has_inserted, put_below, put_named}
use Rattle.facet_solver.proofs.schema.index.variant_sets.add_named.Goals as goal

pub insert-requires : goal.insert-requires
insert-requires c =
    let occupied : entry_value c.in_ok-entry.field-0 ≡ Some c.into_mut.result.now = search rules in
    let same = ap (λ (o : Option IndexSet). option_map_or (λ (t : IndexSet). t.bound) o c.args.at.now.bound) (sym (sym c.in_ok-entry.ensures.value ∙ occupied)) ∙ c.requires.below c.args.name.now in
    rw same c.requires.index

pub returns-in-Occupied-clause-below : goal.returns-in-Occupied-clause-below
returns-in-Occupied-clause-below c =
    let bound = c.args.at.now.bound in
    let set = c.insert.new.self in
    let occupied : entry_value c.in_ok-entry.field-0 ≡ Some c.into_mut.result.now = search rules in
    let same = ap (λ (o : Option IndexSet). option_map_or (λ (t : IndexSet). t.bound) o bound) (sym (sym c.in_ok-entry.ensures.value ∙ occupied)) ∙ c.requires.below c.args.name.now in
    let after = map_with_value c.in_ok-entry.field-0 set in
    let put : (n : Name) → IsBelow bound (named_set after n) =
    put_below c.args.named.now after c.args.name.now set (c.in_ok-entry.ensures.update.0 set) bound (ap (λ (s : IndexSet). s.bound) c.insert.ensures ∙ same) c.requires.below in
    search rules

pub returns-in-Occupied-clause-sets : goal.returns-in-Occupied-clause-sets
returns-in-Occupied-clause-sets c =
    let bound = c.args.at.now.bound in
    let index = c.args.at.now.index in
    let set = c.insert.new.self in
    let occupied : entry_value c.in_ok-entry.field-0 ≡ Some c.into_mut.result.now = search rules in
    let there = sym c.in_ok-entry.ensures.value ∙ occupied in
    let same = ap (λ (o : Option IndexSet). option_map_or (λ (t : IndexSet). t.bound) o bound) (sym there) ∙ c.requires.below c.args.name.now in
    let after = map_with_value c.in_ok-entry.field-0 set in
    let has : (i : ℕ) → i < bound → has_index set.members i ≡ (nat_eq i index || is_in (named_set c.args.named.now c.args.name.now) i) =
    λ i low. ap (λ (s : IndexSet). has_index s.members i) c.insert.ensures ∙ has_inserted c.into_mut.result.now bound index i same low ∙ ap (λ (o : Option IndexSet). nat_eq i index || is_in o i) (sym there) in
    let put : (n : Name) (i : ℕ) → i < bound → is_in (named_set after n) i ≡ ((nat_eq i index && name_eq c.args.name.now n) || is_in (named_set c.args.named.now n) i) =
    put_named c.args.named.now after c.args.name.now set (c.in_ok-entry.ensures.update.0 set) bound index has in
    search rules

pub returns-in_ok-set-in-Vacant-clause-below : goal.returns-in_ok-set-in-Vacant-clause-below
returns-in_ok-set-in-Vacant-clause-below c =
    let bound = c.args.at.now.bound in
    let set = c.insert-in-Vacant.new.self in
    let same = ap (λ (s : IndexSet). s.bound) c.in_ok-set-in-Vacant.ensures.empty in
    let after = map_with_value c.in_ok-entry.field-0 set in
    let put : (n : Name) → IsBelow bound (named_set after n) =
    put_below c.args.named.now after c.args.name.now set (c.in_ok-entry.ensures.update.0 set) bound (ap (λ (s : IndexSet). s.bound) c.insert-in-Vacant.ensures ∙ same) c.requires.below in
    search rules

pub returns-in_ok-set-in-Vacant-clause-sets : goal.returns-in_ok-set-in-Vacant-clause-sets
returns-in_ok-set-in-Vacant-clause-sets c =
    let bound = c.args.at.now.bound in
    let index = c.args.at.now.index in
    let set = c.insert-in-Vacant.new.self in
    let empty = c.in_ok-set-in-Vacant.set in
    let none_in : empty ≡ record { bound = bound; members = [] } = c.in_ok-set-in-Vacant.ensures.empty in
    let vacant : entry_value c.in_ok-entry.field-0 ≡ None = search rules in
    let there = sym c.in_ok-entry.ensures.value ∙ vacant in
    let after = map_with_value c.in_ok-entry.field-0 set in
    let has : (i : ℕ) → i < bound → has_index set.members i ≡ (nat_eq i index || is_in (named_set c.args.named.now c.args.name.now) i) =
    λ i low.
    ap (λ (s : IndexSet). has_index s.members i) c.insert-in-Vacant.ensures ∙ has_inserted empty bound index i (ap (λ (s : IndexSet). s.bound) none_in) low
    ∙ ap (λ (s : IndexSet). nat_eq i index || has_index s.members i) none_in
    ∙ ap (λ (o : Option IndexSet). nat_eq i index || is_in o i) (sym there) in
    let put : (n : Name) (i : ℕ) → i < bound → is_in (named_set after n) i ≡ ((nat_eq i index && name_eq c.args.name.now n) || is_in (named_set c.args.named.now n) i) =
    put_named c.args.named.now after c.args.name.now set (c.in_ok-entry.ensures.update.0 set) bound index has in
    search rules
