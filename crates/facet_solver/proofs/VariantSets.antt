-- The sets of resolutions that select variants, by the names of the variants.
use Rattle.std.proofs.Common.{◌≡◌, ℕ, ◌<◌, Bool, true, false, cond, ◌&&◌, ◌||◌, nat_eq, Option, Some, None, Bor, filter, refl, ap, sym, ◌∙◌, subst, arith}
use Rattle.std.specs.BTreeMap.{BTreeMap, UpdatesBy}
use Rattle.std.specs.Cmp.Lexicographic.{slice_cmp}
use Rattle.std.specs.Option.{option_map_or}
use Rattle.std.specs.Ordering.{nat_cmp}
use Rattle.std.specs.Str.{bytes_eq}
use Rattle.std.proofs.Math.Bool.{and-false, and-true}
use Rattle.std.proofs.lemmas.Map.Text.{btree_map_updates_str}
use Rattle.std.proofs.lemmas.Slice.Eq.{bytes_eq-Decides}
use Rattle.facet_solver_shape.specs.Names.{Name, name_eq}
use Rattle.facet_solver.specs.schema.IndexEntries.{with_number}
use Rattle.facet_solver.specs.schema.Selected.{AreBelow, IsBelow, is_in, is_selected_by, name_of, named_set, same_variant, set_of}
use Rattle.facet_solver.specs.declared.schema.index.entry.Occurrence.{Occurrence}
use Rattle.facet_solver.specs.declared.schema.index.variant_sets.VariantSets.{VariantSets}
use Rattle.facet_solver.specs.set.IndexSet.{IndexSet, has_index, upto}
use Rattle.facet_solver.proofs.IndexSet.{has_inside}

-- a member more of a set
pub has_inserted : (s : IndexSet) (bound index i : ℕ) → s.bound ≡ bound → i < bound → has_index (filter (λ j. nat_eq j index || has_index s.members j) (upto s.bound)) i ≡ (nat_eq i index || has_index s.members i)
has_inserted s bound index i same low = has_inside (λ j. nat_eq j index || has_index s.members j) 0 s.bound i (omega arith) (omega (arith, same, low))

-- a map after the set of a name was put, or written
module _ (m n : BTreeMap (Bor Name) IndexSet) (name : Name) (w : IndexSet)
    (updates : UpdatesBy (λ (x : Bor Name) (y : Bor Name). slice_cmp nat_cmp x.now y.now) (λ (k : Bor Name). slice_cmp nat_cmp name k.now) m n (Some w)) where
  after : (q : Name) → named_set n q ≡ cond (bytes_eq name q) (Some w) (named_set m q)
  after q = btree_map_updates_str name m n (Some w) updates q

  pub put_below : (bound : ℕ) → w.bound ≡ bound → ((q : Name) → IsBelow bound (named_set m q)) → (q : Name) → IsBelow bound (named_set n q)
  put_below bound is before q = ap (λ (o : Option IndexSet). option_map_or (λ (t : IndexSet). t.bound) o bound) (after q) ∙ go (bytes_eq name q)
    where
      go : (b : Bool) → IsBelow bound (cond b (Some w) (named_set m q))
      go true = is
      go false = before q

  pub put_named : (bound index : ℕ) → ((i : ℕ) → i < bound → has_index w.members i ≡ (nat_eq i index || is_in (named_set m name) i))
      → (q : Name) (i : ℕ) → i < bound → is_in (named_set n q) i ≡ ((nat_eq i index && name_eq name q) || is_in (named_set m q) i)
  put_named bound index has q i low = ap (λ o. is_in o i) (after q) ∙ go (bytes_eq name q) refl
    where
      go : (b : Bool) → bytes_eq name q ≡ b → is_in (cond b (Some w) (named_set m q)) i ≡ ((nat_eq i index && b) || is_in (named_set m q) i)
      go true same =
          let named : name ≡ q = (bytes_eq-Decides name q).0 same in
          has i low ∙ (λ j. sym (and-true (nat_eq i index)) j || is_in (named_set m (named j)) i)
      go false other = ap (λ b. b || is_in (named_set m q) i) (sym (and-false (nat_eq i index)))

  -- where there was none before
  pub put_first : ((q : Name) → named_set m q ≡ None) → (q : Name) (i : ℕ) → is_in (named_set n q) i ≡ (has_index w.members i && name_eq name q)
  put_first none q i = ap (λ o. is_in o i) (after q) ∙ go (bytes_eq name q)
    where
      go : (b : Bool) → is_in (cond b (Some w) (named_set m q)) i ≡ (has_index w.members i && b)
      go true = sym (and-true (has_index w.members i))
      go false = ap (λ o. is_in o i) (none q) ∙ sym (and-false (has_index w.members i))

-- ---- the sets of all variants
pub below_of : (bound : ℕ) (sets : VariantSets) → ((n : Name) → IsBelow bound (named_set sets.named n)) → sets.without.bound ≡ bound → AreBelow bound sets
below_of bound sets named without None = without
below_of bound sets named without (Some n) = named n

-- after one more that selects none
pub without_more : (sets : VariantSets) (after : IndexSet) (at : Occurrence) → at.variant ≡ None → sets.without.bound ≡ at.bound
    → after ≡ record sets.without { members = filter (λ i. nat_eq i at.index || has_index sets.without.members i) (upto sets.without.bound) }
    → (variant : Option Name) (i : ℕ) → i < at.bound
    → is_in (set_of (record { named = sets.named; without = after }) variant) i ≡ (is_selected_by at variant i || is_in (set_of sets variant) i)
without_more sets after at none same is None i low =
    ap (λ (s : IndexSet). has_index s.members i) is
    ∙ has_inserted sets.without at.bound at.index i same low
    ∙ ap (λ b. b || has_index sets.without.members i) (sym (and-true (nat_eq i at.index)))
    ∙ ap (λ v. (nat_eq i at.index && same_variant (name_of v) None) || has_index sets.without.members i) (sym none)
without_more sets after at none same is (Some q) i low =
    ap (λ b. b || is_in (named_set sets.named q) i) (sym (and-false (nat_eq i at.index)))
    ∙ ap (λ v. (nat_eq i at.index && same_variant (name_of v) (Some q)) || is_in (named_set sets.named q) i) (sym none)

-- ---- resolutions that all select one variant
same_replaces : (one other asked : Option Name) → same_variant one other ≡ true → same_variant one asked ≡ same_variant other asked
same_replaces None None asked same = refl
same_replaces None (Some b) asked same = cc
same_replaces (Some a) None asked same = cc
same_replaces (Some a) (Some b) asked same = ap (λ (n : Name). same_variant (Some n) asked) ((bytes_eq-Decides a b).0 same)

both_or : (a b c : Bool) → ((a || b) && c) ≡ ((a && c) || (b && c))
both_or true true true = refl
both_or true false true = refl
both_or true true false = refl
both_or true false false = refl
both_or false b c = refl

-- one more that selects it too
pub more_same : (set : IndexSet) (bound index : ℕ) (known variant : Option Name) → set.bound ≡ bound → same_variant known variant ≡ true → (asked : Option Name) (i : ℕ) → i < bound
    → (has_index (with_number set index).members i && same_variant known asked) ≡ ((nat_eq i index && same_variant variant asked) || (has_index set.members i && same_variant known asked))
more_same set bound index known variant is same asked i low =
    ap (λ b. b && same_variant known asked) (has_inserted set bound index i is low)
    ∙ both_or (nat_eq i index) (has_index set.members i) (same_variant known asked)
    ∙ ap (λ b. (nat_eq i index && b) || (has_index set.members i && same_variant known asked)) (same_replaces known variant asked same)
