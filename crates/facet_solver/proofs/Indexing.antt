-- An index after one more field.
use Rattle.std.proofs.Common.{◌≡◌, ℕ, zero, suc, ◌<◌, ◌≤◌, Bool, true, false, ◌&&◌, ◌||◌, nat_eq, List, [], ◌∷◌, ◌++◌, Bor, Option, Some, None, MatchOption, filter, is_some, length, ne_eqb, refl, ap, sym, ◌∙◌, subst, arith}
use Rattle.std.specs.Prelude.{if◌then◌else◌}
use Rattle.std.specs.List.{find}
use Rattle.std.specs.Option.{option_and_then, option_map, option_map_or, option_or}
use Rattle.std.proofs.Math.Bool.{or-false}
use Rattle.std.proofs.lemmas.Bool.{false≢true}
use Rattle.std.proofs.lemmas.Bool.Decides.{Decides-eqb}
use Rattle.std.proofs.lemmas.List.Folds.{find-append}
use Rattle.facet_solver_shape.proofs.Resolved.{or_none}
use Rattle.facet_solver_shape.specs.Fields.{FieldView}
use Rattle.facet_solver_shape.specs.Names.{Name}
use Rattle.facet_solver.specs.set.IndexSet.{IndexSet, has_index, upto}
use Rattle.facet_solver.specs.schema.FewShapes.{few_shapes_with, has_shape, most_shapes}
use Rattle.facet_solver.specs.schema.IndexEntries.{HasOneMore, IsAdded, IsAfter, IsSlotAfter, agreed, entry_at, entry_of_one, selects_in, shapes_with, with_number}
use Rattle.facet_solver.specs.schema.Indexed.{Meant, AgreesOn, HaveShapesOf, Differs, IsIndexEntry, IsEntryIfAny, IsIndexOf, first_passing, selects_at}
use Rattle.facet_solver.specs.schema.Selected.{name_of, same_variant}
use Rattle.facet_solver.specs.schema.Slots.{Slot, is_at}
use Rattle.facet_solver.specs.solver.Tag.{last_variant}
use Rattle.facet_solver.specs.declared.schema.index.entry.Entry.{Entry}
use Rattle.facet_solver.specs.declared.schema.index.entry.Occurrence.{Occurrence}
use Rattle.facet_solver.specs.declared.schema.index.Index.{Index}
use Rattle.facet_solver.proofs.FewShapes.{few_before, few_has, few_keeps}
use Rattle.facet_solver.proofs.IndexSet.{filter_same, filter_none, has_inside}

-- what is meant after one more field of a resolution, which passes or does not
abbrev pub more : Meant → ℕ → Bool → FieldView → Meant
more meant i passes f k = if nat_eq k i then option_or (meant k) (if passes then Some f else None) else meant k

if_same : {X : Type 0} (b : Bool) (x : X) → (if b then x else x) ≡ x
if_same true x = refl
if_same false x = refl

one_more : (test : FieldView → Bool) (seen : List FieldView) (f : FieldView) → find test (seen ++ f ∷ []) ≡ option_or (find test seen) (if test f then Some f else None)
one_more test seen f = find-append test seen (f ∷ [])

eq_suc : (a b : ℕ) → nat_eq (suc a) (suc b) ≡ nat_eq a b
eq_suc a b = go (nat_eq a b) refl
  where
    go : (t : Bool) → nat_eq a b ≡ t → nat_eq (suc a) (suc b) ≡ t
    go true same = (Decides-eqb (suc a) (suc b)).1 (ap (λ n. suc n) ((Decides-eqb a b).0 same))
    go false other = ne_eqb (suc a) (suc b) (λ e. let same : a ≡ b = omega arith in false≢true (sym other ∙ (Decides-eqb a b).1 same))

-- one more field of the last resolution
pub passing_more : (test : FieldView → Bool) (before : List (List FieldView)) (seen : List FieldView) (f : FieldView) (k : ℕ)
    → first_passing test (before ++ (seen ++ f ∷ []) ∷ []) k ≡ more (first_passing test (before ++ seen ∷ [])) (length before) (test f) f k
passing_more test [] seen f zero = one_more test seen f
passing_more test [] seen f (suc k) = ap (λ b. if b then (if test f then Some f else None) else None) (sym (ne_eqb (suc k) 0 (λ e. omega arith)))
passing_more test (fs ∷ before) seen f zero =
    ap (λ b. if b then option_or (find test fs) (if test f then Some f else None) else find test fs) (sym (ne_eqb 0 (suc (length before)) (λ e. omega arith)))
passing_more test (fs ∷ before) seen f (suc k) =
    let meant : Option FieldView = first_passing test (before ++ seen ∷ []) k in
    passing_more test before seen f k
    ∙ ap (λ b. if b then option_or meant (if test f then Some f else None) else meant) (sym (eq_suc k (length before)))

-- a resolution of which no field was seen yet
pub passing_none : (test : FieldView → Bool) (before : List (List FieldView)) (k : ℕ) → first_passing test (before ++ [] ∷ []) k ≡ first_passing test before k
passing_none test [] zero = refl
passing_none test [] (suc k) = refl
passing_none test (fs ∷ before) zero = refl
passing_none test (fs ∷ before) (suc k) = passing_none test before k

-- a field that does not pass changes nothing
more_failing : (meant : Meant) (i : ℕ) (f : FieldView) (k : ℕ) → more meant i false f k ≡ meant k
more_failing meant i f k = ap (λ o. if nat_eq k i then o else meant k) (or_none (meant k)) ∙ if_same (nat_eq k i) (meant k)

-- nor does one of a resolution in which a field is meant already
more_known : (meant : Meant) (i : ℕ) (f g : FieldView) → meant i ≡ Some g → (k : ℕ) → more meant i true f k ≡ meant k
more_known meant i f g known k = go (nat_eq k i) refl
  where
    go : (b : Bool) → nat_eq k i ≡ b → (if b then option_or (meant k) (Some f) else meant k) ≡ meant k
    go true same =
        let here : meant k ≡ Some g = ap meant ((Decides-eqb k i).0 same) ∙ known in
        ap (λ o. option_or o (Some f)) here ∙ sym here
    go false other = refl

-- a field that is meant stays so
more_keeps : (meant : Meant) (i : ℕ) (f : FieldView) (k : ℕ) (g : FieldView) → meant k ≡ Some g → more meant i true f k ≡ Some g
more_keeps meant i f k g known = ap (λ o. if nat_eq k i then option_or o (Some f) else o) known ∙ if_same (nat_eq k i) (Some g)

-- the first that passes is meant
more_first : (meant : Meant) (i : ℕ) (f : FieldView) → meant i ≡ None → more meant i true f i ≡ Some f
more_first meant i f none =
    ap (λ b. if b then option_or (meant i) (Some f) else meant i) ((Decides-eqb i i).1 refl) ∙ ap (λ o. option_or o (Some f)) none

some_same : (f g : FieldView) → Some f ≡ Some g → f ≡ g
some_same f g e = cc

-- and nothing else is new
more_only : (meant : Meant) (i : ℕ) (f : FieldView) → meant i ≡ None → (k : ℕ) (g : FieldView) → more meant i true f k ≡ Some g → (shape : ℕ) → f.shape ≡ shape
    → (meant k ≡ Some g → g.shape ≡ shape) → g.shape ≡ shape
more_only meant i f none k g is shape here there = go (nat_eq k i) refl is
  where
    go : (b : Bool) → nat_eq k i ≡ b → (if b then option_or (meant k) (Some f) else meant k) ≡ Some g → g.shape ≡ shape
    go true same found =
        let absent : meant k ≡ None = ap meant ((Decides-eqb k i).0 same) ∙ none in
        let is_f : f ≡ g = some_same f g (ap (λ o. option_or o (Some f)) (sym absent) ∙ found) in
        ap (λ (x : FieldView). x.shape) (sym is_f) ∙ here
    go false other found = there found

-- what holds of the fields that were meant and of the new one holds of each
more_for : (Holds : FieldView → Type 0) (meant : Meant) (i : ℕ) (f : FieldView) → meant i ≡ None → Holds f → (k : ℕ) (g : FieldView) → (meant k ≡ Some g → Holds g) → more meant i true f k ≡ Some g → Holds g
more_for Holds meant i f none here k g there is = go (nat_eq k i) refl is
  where
    go : (b : Bool) → nat_eq k i ≡ b → (if b then option_or (meant k) (Some f) else meant k) ≡ Some g → Holds g
    go true same found =
        let absent : meant k ≡ None = ap meant ((Decides-eqb k i).0 same) ∙ none in
        let is_f : f ≡ g = some_same f g (ap (λ o. option_or o (Some f)) (sym absent) ∙ found) in
        subst Holds is_f here
    go false other found = there found

more_members : (meant : Meant) (i : ℕ) (f : FieldView) → meant i ≡ None → (k : ℕ) → (nat_eq k i || is_some (meant k)) ≡ is_some (more meant i true f k)
more_members meant i f none k = go (nat_eq k i) refl
  where
    go : (b : Bool) → nat_eq k i ≡ b → (b || is_some (meant k)) ≡ is_some (if b then option_or (meant k) (Some f) else meant k)
    go true same =
        let absent : meant k ≡ None = ap meant ((Decides-eqb k i).0 same) ∙ none in
        sym (ap (λ o. is_some (option_or o (Some f))) absent)
    go false other = refl

-- numbers below a bound
abbrev below : ℕ → List ℕ → IndexSet
below bound members = record { bound = bound; members = members }

-- the members after the first field that passes
set_more : (bound : ℕ) (meant : Meant) (i : ℕ) (f : FieldView) → meant i ≡ None
    → with_number (below bound (filter (λ k. is_some (meant k)) (upto bound))) i ≡ below bound (filter (λ k. is_some (more meant i true f k)) (upto bound))
set_more bound meant i f none =
    let members : List ℕ = filter (λ k. is_some (meant k)) (upto bound) in
    ap (below bound) (filter_same (λ k. nat_eq k i || has_index members k) (λ k. is_some (more meant i true f k)) 0 bound
    (λ k low high. ap (λ b. nat_eq k i || b) (has_inside (λ j. is_some (meant j)) 0 bound k low high) ∙ more_members meant i f none k))

-- the shape after it
shape_more : (meant : Meant) (i : ℕ) (f : FieldView) → meant i ≡ None → (known : Option ℕ) → MatchOption known (Differs meant) (λ shape. AgreesOn shape meant)
    → MatchOption (agreed known f.shape) (Differs (more meant i true f)) (λ shape. AgreesOn shape (more meant i true f))
shape_more meant i f none None two = record {
  first = two.first;
  second = two.second;
  one = two.one;
  other = two.other;
  one_present = more_keeps meant i f two.first two.one two.one_present;
  other_present = more_keeps meant i f two.second two.other two.other_present;
  apart = two.apart;
}
shape_more meant i f none (Some shape) one = go (nat_eq shape f.shape) refl
  where
    go : (b : Bool) → nat_eq shape f.shape ≡ b → MatchOption (if b then Some shape else None) (Differs (more meant i true f)) (λ shape. AgreesOn shape (more meant i true f))
    go true same = record {
      index = one.index;
      field = one.field;
      present = more_keeps meant i f one.index one.field one.present;
      same = one.same;
      all = λ k g is. more_only meant i f none k g is shape (sym ((Decides-eqb shape f.shape).0 same)) (one.all k g);
    }
    go false other = record {
      first = one.index;
      second = i;
      one = one.field;
      other = f;
      one_present = more_keeps meant i f one.index one.field one.present;
      other_present = more_first meant i f none;
      apart = λ e. false≢true (sym other ∙ (Decides-eqb shape f.shape).1 (sym one.same ∙ e));
    }

-- the shapes after it, where they do not agree
shapes_more : (meant : Meant) (i : ℕ) (f : FieldView) → meant i ≡ None → (known : Option ℕ) (shapes : List ℕ) → MatchOption known (Differs meant) (λ shape. AgreesOn shape meant)
    → (known ≡ None → length shapes ≤ most_shapes → HaveShapesOf meant shapes)
    → agreed known f.shape ≡ None → length (shapes_with known shapes f.shape) ≤ most_shapes → HaveShapesOf (more meant i true f) (shapes_with known shapes f.shape)
shapes_more meant i f none None shapes two before apart few k g =
    more_for (λ h. has_shape (few_shapes_with shapes f.shape) h.shape ≡ true) meant i f none (few_has shapes f.shape few) k g
    (λ there. few_keeps shapes f.shape g.shape (before refl (few_before shapes f.shape few) k g there))
shapes_more meant i f none (Some shape) shapes one before apart few k g = go (nat_eq shape f.shape) apart few k g
  where
    go : (b : Bool) → (if b then Some shape else None) ≡ None → length (if b then shapes else few_shapes_with (few_shapes_with shapes shape) f.shape) ≤ most_shapes
        → HaveShapesOf (more meant i true f) (if b then shapes else few_shapes_with (few_shapes_with shapes shape) f.shape)
    go true some low = absurd (some_is_none some)
      where
        some_is_none : Some shape ≡ None → ⊥
        some_is_none e = cc
    go false is_none low = λ j h.
        let first : List ℕ = few_shapes_with shapes shape in
        let has : has_shape first shape ≡ true = few_has shapes shape (few_before first f.shape low) in
        more_for (λ e. has_shape (few_shapes_with first f.shape) e.shape ≡ true) meant i f none (few_has first f.shape low) j h
        (λ there. few_keeps first f.shape h.shape (ap (has_shape first) (one.all j h there) ∙ has))

-- the resolutions that select a variant after it
selected_more : (bound : ℕ) (meant : Meant) (i : ℕ) (f : FieldView) (variant : Option (Bor Name)) (before after : Option Name → ℕ → Bool) → meant i ≡ None
    → name_of variant ≡ last_variant f.path
    → ((asked : Option Name) (k : ℕ) → k < bound → before asked k ≡ selects_at meant asked k)
    → ((asked : Option Name) (k : ℕ) → k < bound → after asked k ≡ ((nat_eq k i && same_variant (name_of variant) asked) || before asked k))
    → (asked : Option Name) (k : ℕ) → k < bound → after asked k ≡ selects_at (more meant i true f) asked k
selected_more bound meant i f variant before after none named was step asked k low = step asked k low ∙ go (nat_eq k i) refl
  where
    by : Option FieldView → Bool
    by o = option_map_or (λ (g : FieldView). same_variant (last_variant g.path) asked) o false

    go : (b : Bool) → nat_eq k i ≡ b → ((b && same_variant (name_of variant) asked) || before asked k) ≡ by (if b then option_or (meant k) (Some f) else meant k)
    go true same =
        let absent : meant k ≡ None = ap meant ((Decides-eqb k i).0 same) ∙ none in
        ap (λ b. same_variant (name_of variant) asked || b) (was asked k low ∙ ap by absent)
        ∙ or-false (same_variant (name_of variant) asked)
        ∙ ap (λ v. same_variant v asked) named
        ∙ sym (ap (λ o. by (option_or o (Some f))) absent)
    go false other = was asked k low

-- the field of a resolution with its variant
abbrev occurrence : ℕ → ℕ → FieldView → Option (Bor Name) → Occurrence
occurrence bound i f variant = record { index = i; bound = bound; shape = f.shape; variant = variant }

or_and_none : (a b : Bool) → ((a || false) && b) ≡ ((a && b) || false)
or_and_none true b = sym (or-false b)
or_and_none false b = refl

-- the first entry of a slot
entry_first : (bound : ℕ) (meant : Meant) (i : ℕ) (f : FieldView) (variant : Option (Bor Name)) → name_of variant ≡ last_variant f.path → ((k : ℕ) → meant k ≡ None)
    → IsIndexEntry bound (more meant i true f) (entry_of_one (occurrence bound i f variant))
entry_first bound meant i f variant named none = record {
  set = ap (λ s. with_number s i) (sym nothing) ∙ set_more bound meant i f (none i);
  shape = record {
    index = i;
    field = f;
    present = more_first meant i f (none i);
    same = refl;
    all = λ k g is. more_only meant i f (none i) k g is f.shape refl (λ there. absurd (absent k g there));
  };
  shapes = λ apart. absurd (some_is_none apart);
  below = tt;
  selected = selected_more bound meant i f variant (λ asked k. false) (selects_in (entry_of_one (occurrence bound i f variant))) (none i) named unselected first;
}
  where
    some_is_none : Some f.shape ≡ None → ⊥
    some_is_none e = cc

    absent : (k : ℕ) (g : FieldView) → meant k ≡ Some g → ⊥
    absent k g there = none_is_some (sym (none k) ∙ there)
      where
        none_is_some : None ≡ Some g → ⊥
        none_is_some e = cc

    nothing : below bound (filter (λ k. is_some (meant k)) (upto bound)) ≡ below bound []
    nothing = ap (below bound) (filter_none (λ k. is_some (meant k)) 0 bound (λ k low high. ap is_some (none k)))

    unselected : (asked : Option Name) (k : ℕ) → k < bound → false ≡ selects_at meant asked k
    unselected asked k low = sym (ap (λ o. option_map_or (λ (g : FieldView). same_variant (last_variant g.path) asked) o false) (none k))

    first : (asked : Option Name) (k : ℕ) → k < bound → selects_in (entry_of_one (occurrence bound i f variant)) asked k ≡ ((nat_eq k i && same_variant (name_of variant) asked) || false)
    first asked k low =
        ap (λ b. b && same_variant (name_of variant) asked) (has_inside (λ j. nat_eq j i || false) 0 bound k (omega arith) (omega arith))
        ∙ or_and_none (nat_eq k i) (same_variant (name_of variant) asked)

-- an entry with one resolution more
entry_more : (bound : ℕ) (meant : Meant) (i : ℕ) (f : FieldView) (variant : Option (Bor Name)) → name_of variant ≡ last_variant f.path
    → (old new : Entry) → i < bound → IsAfter old (occurrence bound i f variant) new → IsIndexEntry bound meant old → IsIndexEntry bound (more meant i true f) new
entry_more bound meant i f variant named old new within step is = go (meant i) refl
  where
    after : Meant
    after = more meant i true f

    known : has_index old.set.members i ≡ is_some (meant i)
    known = ap (λ (s : IndexSet). has_index s.members i) is.set ∙ has_inside (λ j. is_some (meant j)) 0 bound i (omega arith) (omega arith)

    go : (o : Option FieldView) → meant i ≡ o → IsIndexEntry bound (more meant i true f) new
    go (Some g) here =
        let same : new ≡ old = step.known (known ∙ ap is_some here) in
        subst (λ (e : Entry). IsIndexEntry bound after e) (sym same) (subst (λ m. IsIndexEntry bound m old) (λ j k. sym (more_known meant i f g here k) j) is)
    go None here =
        let one : HasOneMore old (occurrence bound i f variant) new = step.new (known ∙ ap is_some here) in
        record {
          set = one.set ∙ ap (λ s. with_number s i) is.set ∙ set_more bound meant i f here;
          shape = subst (λ (o : Option ℕ). MatchOption o (Differs after) (λ shape. AgreesOn shape after)) (sym one.shape) (shape_more meant i f here old.shape is.shape);
          shapes = λ apart few.
              subst (HaveShapesOf after) (sym one.shapes)
              (shapes_more meant i f here old.shape old.shapes is.shape is.shapes (sym one.shape ∙ apart) (subst (λ (shapes : List ℕ). length shapes ≤ most_shapes) one.shapes few));
          below = one.below;
          selected = selected_more bound meant i f variant (selects_in old) (selects_in new) here named is.selected one.selected;
        }

-- the entry of a slot after one more field
pub slot_more : (bound : ℕ) (meant : Meant) (i : ℕ) (f : FieldView) (variant : Option (Bor Name)) → name_of variant ≡ last_variant f.path
    → (old new : Option Entry) → i < bound → (passes : Bool) → IsSlotAfter passes (occurrence bound i f variant) old new → IsEntryIfAny bound meant old → IsEntryIfAny bound (more meant i passes f) new
slot_more bound meant i f variant named old new within false step is =
    subst (λ o. IsEntryIfAny bound (more meant i false f) o) (sym step) (subst (λ m. IsEntryIfAny bound m old) (λ j k. sym (more_failing meant i f k) j) is)
slot_more bound meant i f variant named old None within true step is = absurd step
slot_more bound meant i f variant named None (Some new) within true step is =
    subst (λ (e : Entry). IsIndexEntry bound (more meant i true f) e) (sym step) (entry_first bound meant i f variant named is)
slot_more bound meant i f variant named (Some old) (Some new) within true step is = entry_more bound meant i f variant named old new within step is

-- an index after one more field of the last resolution
pub index_more : (bound : ℕ) (before : List (List FieldView)) (seen : List FieldView) (f : FieldView) (variant : Option (Bor Name)) → name_of variant ≡ last_variant f.path
    → (old new : Index) → length before < bound
    → IsIndexOf bound (before ++ seen ∷ []) old
    → ((slot : Slot) → IsSlotAfter (is_at slot f) (occurrence bound (length before) f variant) (entry_at old slot) (entry_at new slot))
    → IsIndexOf bound (before ++ (seen ++ f ∷ []) ∷ []) new
index_more bound before seen f variant named old new within is step slot =
    let meant : Meant = first_passing (is_at slot) (before ++ seen ∷ []) in
    let after : IsEntryIfAny bound (more meant (length before) (is_at slot f) f) (entry_at new slot) =
    slot_more bound meant (length before) f variant named (entry_at old slot) (entry_at new slot) within (is_at slot f) (step slot) (is slot) in
    subst (λ m. IsEntryIfAny bound m (entry_at new slot)) (λ j k. sym (passing_more (is_at slot) before seen f k) j) after

-- an index before the fields of one more resolution
pub index_same : (bound : ℕ) (before : List (List FieldView)) (index : Index) → IsIndexOf bound before index → IsIndexOf bound (before ++ [] ∷ []) index
index_same bound before index is slot = subst (λ m. IsEntryIfAny bound m (entry_at index slot)) (λ j k. sym (passing_none (is_at slot) before k) j) (is slot)
