use Rattle.std.proofs.Common.{◌≡◌, ℕ, ◌||◌, Some, None, Option, ap, refl, subst, sym, ◌∙◌}
use Rattle.std.specs.Option.{option_map_or}
use Rattle.facet_solver_shape.specs.Names.{Name}
use Rattle.facet_solver.specs.schema.IndexEntries.{selects_in}
use Rattle.facet_solver.specs.schema.Selected.{AreBelow, HasSetsBelow, is_in, named_set, selects, set_of}
use Rattle.facet_solver.specs.set.IndexSet.{IndexSet, has_index}
use Rattle.facet_solver.specs.declared.schema.index.selected.Selected.{Selected}
use Rattle.facet_solver.specs.declared.schema.index.variant_sets.VariantSets.{VariantSets}
use Rattle.facet_solver.proofs.schema.index.entry.Entry.selecting.Goals as goal

pub returns-in_ok-get-in-Different : goal.returns-in_ok-get-in-Different
returns-in_ok-get-in-Different c =
    let e = c.args.self.now in
    let bound = e.set.bound in
    let variant = c.args.variant.now in
    let sets : VariantSets = c.in-Different.sets.value in
    let at : named_set sets.named variant ≡ Some c.in_ok-get-in-Different.field-0.now =
    ap (λ (s : VariantSets). named_set s.named variant) (sym c.deref.ensures) ∙ sym c.in_ok-get-in-Different.ensures.value in
    let others : c.deref-in-Different.result.now.without ≡ sets.without = ap (λ (s : VariantSets). s.without) c.deref-in-Different.ensures in
    let below : AreBelow bound sets = subst (λ (s : Selected). HasSetsBelow bound s) c.in-Different.is (c.requires e refl).1 in
    let by : (v : Option Name) (i : ℕ) → selects_in e v i ≡ is_in (set_of sets v) i = λ v i. ap (λ (s : Selected). selects s e.set.members v i) c.in-Different.is in
    let named_is : (i : ℕ) → has_index c.in_ok-get-in-Different.field-0.now.members i ≡ selects_in e (Some variant) i =
    λ i. ap (λ (o : Option IndexSet). is_in o i) (sym at) ∙ sym (by (Some variant) i) in
    let other_is : (i : ℕ) → has_index c.deref-in-Different.result.now.without.members i ≡ selects_in e None i =
    λ i. ap (λ (s : IndexSet). has_index s.members i) others ∙ sym (by None i) in
    record {
      named_bound = ap (λ (o : Option IndexSet). option_map_or (λ (t : IndexSet). t.bound) o bound) (sym at) ∙ below (Some variant);
      others_bound = ap (λ (s : IndexSet). s.bound) others ∙ below None;
      is_named = λ i low. named_is i;
      is_other = λ i low. λ j. named_is i j || other_is i j;
    }
