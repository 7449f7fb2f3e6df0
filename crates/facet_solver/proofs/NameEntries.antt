-- What the entries of a key and of a name say of the resolutions.
use Rattle.std.proofs.Common.{◌≡◌, ℕ, zero, suc, ◌≤◌, Bool, true, false, cond, ◌&&◌, ◌||◌, List, [], ◌∷◌, Option, Some, None, MatchOption, Bor, is_some, length, map, refl, ap, sym, ◌∙◌, arith}
use Rattle.std.specs.FinMap as finite
use Rattle.std.specs.List.{cons_option, filter_map, find, list_any}
use Rattle.std.specs.Option.{option_and_then, option_copied, option_map}
use Rattle.std.proofs.lemmas.Option.{slice_get_past}
use Rattle.std.proofs.Math.Bool.{or-true}
use Rattle.facet_solver_shape.specs.declared.resolution.key.FieldCategory.{FieldCategory}
use Rattle.facet_solver_shape.specs.declared.resolution.key.FieldCategory.TheVariants.{Flat, Attribute, Element, Text, Tag, Elements}
use Rattle.facet_solver_shape.specs.Fields.{category_eq, has_name, FieldView}
use Rattle.facet_solver_shape.specs.Names.{Name, name_eq}
use Rattle.facet_solver_shape.specs.Resolved.{Resolved, field_by_key}
use Rattle.facet_solver_shape.proofs.Lists.{list_any-map}
use Rattle.facet_solver.specs.Resolutions.{field_at, has_field_named, has_key, is_known, passes}
use Rattle.facet_solver.specs.schema.IndexEntries.{entry_at, holds, is_held, set_at}
use Rattle.facet_solver.specs.set.IndexSet.{IndexSet, has_index}
use Rattle.facet_solver.specs.schema.Indexed.{AgreesOn, Differs, IsEntryIfAny, IsIndexOf, Meant, fields_of_each, first_passing}
use Rattle.facet_solver.specs.schema.Slots.{categories, is_at, slot_in}
use Rattle.facet_solver_shape.specs.Keys.{Key}
use Rattle.facet_solver.specs.declared.schema.index.entry.Entry.{Entry}
use Rattle.facet_solver.specs.declared.schema.index.Index.{Index}
use Rattle.facet_solver.proofs.IndexSet.{has_passing}
use Rattle.facet_solver.proofs.LookUps.{has_field}

-- ---- two tests in either order

or_swap : (a b c d : Bool) → ((a || b) || (c || d)) ≡ ((a || c) || (b || d))
or_swap true b c d = refl
or_swap false true true d = refl
or_swap false true false d = refl
or_swap false false c d = refl

module _ {X Y : Type 0} (p : X → Y → Bool) where
  none : (xs : List X) → list_any (λ (x : X). false) xs ≡ false
  none [] = refl
  none (x ∷ xs) = none xs

  either : (q r : X → Bool) (xs : List X) → list_any (λ x. q x || r x) xs ≡ (list_any q xs || list_any r xs)
  either q r [] = refl
  either q r (x ∷ xs) = ap (λ b. (q x || r x) || b) (either q r xs) ∙ or_swap (q x) (r x) (list_any q xs) (list_any r xs)

  pub any_either_way : (xs : List X) (ys : List Y) → list_any (λ x. list_any (p x) ys) xs ≡ list_any (λ y. list_any (λ x. p x y) xs) ys
  any_either_way xs [] = none xs
  any_either_way xs (y ∷ ys) =
      either (λ x. p x y) (λ x. list_any (p x) ys) xs
      ∙ ap (λ b. list_any (λ x. p x y) xs || b) (any_either_way xs ys)

-- what is found passes
pub is_some-found : {X : Type 0} (p : X → Bool) (xs : List X) → is_some (find p xs) ≡ list_any p xs
is_some-found p [] = refl
is_some-found p (x ∷ xs) = go (p x) (is_some-found p xs)
  where
    go : (b : Bool) → is_some (find p xs) ≡ list_any p xs → is_some (cond b (Some x) (find p xs)) ≡ (b || list_any p xs)
    go true rest = refl
    go false rest = rest

-- ---- a field of a name stands in one of the slots of the name
own_category : (c : FieldCategory) (b : Bool) → list_any (λ d. category_eq d c && b) categories ≡ b
own_category Flat true = refl
own_category Flat false = refl
own_category Attribute true = refl
own_category Attribute false = refl
own_category Element true = refl
own_category Element false = refl
own_category Text true = refl
own_category Text false = refl
own_category Tag true = refl
own_category Tag false = refl
own_category Elements true = refl
own_category Elements false = refl

somewhere : (name : Name) (fs : List FieldView) → list_any (λ c. list_any (is_at (slot_in name c)) fs) categories ≡ list_any (has_name name) fs
somewhere name fs =
    any_either_way (λ c. is_at (slot_in name c)) categories fs
    ∙ ap (λ p. list_any p fs) (λ i f. own_category f.category (name_eq name f.name) i)

found_somewhere : (name : Name) (rs : List Resolved) (i : ℕ)
    → list_any (λ c. is_some (first_passing (is_at (slot_in name c)) (fields_of_each rs) i)) categories ≡ passes (has_field_named name) rs i
found_somewhere name [] i = refl
found_somewhere name (r ∷ rs) zero =
    ap (λ p. list_any p categories) (λ i c. is_some-found (is_at (slot_in name c)) (finite.values r.fields) i)
    ∙ somewhere name (finite.values r.fields)
found_somewhere name (r ∷ rs) (suc i) = found_somewhere name rs i

-- ---- entries
past : (test : FieldView → Bool) (rs : List Resolved) (i : ℕ) → length rs ≤ i → is_some (first_passing test (fields_of_each rs) i) ≡ false
past test [] i low = refl
past test (r ∷ rs) zero low = absurd (omega arith)
past test (r ∷ rs) (suc i) low = past test rs i (omega arith)

-- an entry has the resolutions in which a field is meant
entry_holds : (rs : List Resolved) (meant : Meant) (entry : Option Entry) → ((i : ℕ) → length rs ≤ i → is_some (meant i) ≡ false)
    → IsEntryIfAny (length rs) meant entry → (i : ℕ) → holds entry i ≡ is_some (meant i)
entry_holds rs meant None clear is i = sym (ap is_some (is i))
entry_holds rs meant (Some e) clear is i =
    ap (λ (s : IndexSet). has_index s.members i) is.set ∙ has_passing (λ j. is_some (meant j)) (length rs) i clear

-- so the entry of a key has those that have the key
pub key_held : (key : Key) (rs : List Resolved) (entry : Option Entry) → IsEntryIfAny (length rs) (field_at key rs) entry → (i : ℕ) → holds entry i ≡ passes (has_key key) rs i
key_held key rs entry is i =
    entry_holds rs (field_at key rs) entry (λ j low. ap (λ o. is_some (option_and_then (field_by_key key) o)) (slice_get_past rs j low)) is i ∙ has_field key rs i

module _ (name : Name) (rs : List Resolved) (index : Index) (is : IsIndexOf (length rs) (fields_of_each rs) index) where
  -- and the entries of a name those that have a field of the name
  name_held : (i : ℕ) → list_any (λ c. holds (entry_at index (slot_in name c)) i) categories ≡ passes (has_field_named name) rs i
  name_held i =
      ap (λ p. list_any p categories) (λ j c. entry_holds rs (first_passing (is_at (slot_in name c)) (fields_of_each rs)) (entry_at index (slot_in name c)) (past (is_at (slot_in name c)) rs) (is (slot_in name c)) i j)
      ∙ found_somewhere name rs i

-- the resolutions of an entry
abbrev set_of : Option Entry → Option IndexSet
set_of o = option_map (λ (e : Entry). e.set) o

-- one of the sets that there are has a resolution where one of all slots has
held_by_one : {X : Type 0} (entry : X → Option Entry) (xs : List X) (i : ℕ) → list_any (λ (s : IndexSet). has_index s.members i) (filter_map (λ x. set_of (entry x)) xs) ≡ list_any (λ x. holds (entry x) i) xs
held_by_one entry [] i = refl
held_by_one entry (x ∷ xs) i = go (entry x) (held_by_one entry xs i)
  where
    go : (o : Option Entry) → list_any (λ (s : IndexSet). has_index s.members i) (filter_map (λ x. set_of (entry x)) xs) ≡ list_any (λ x. holds (entry x) i) xs
        → list_any (λ (s : IndexSet). has_index s.members i) (cons_option (set_of o) (filter_map (λ x. set_of (entry x)) xs)) ≡ (holds o i || list_any (λ x. holds (entry x) i) xs)
    go None later = later
    go (Some e) later = ap (λ b. has_index e.set.members i || b) later

-- so those that there are of a name tell who has a field of the name
pub named_held : (name : Name) (rs : List Resolved) (index : Index) (sets : List (Bor IndexSet)) → IsIndexOf (length rs) (fields_of_each rs) index
    → map (λ (s : Bor IndexSet). s.now) sets ≡ filter_map (λ c. set_at index (slot_in name c)) categories → (i : ℕ) → is_held sets i ≡ passes (has_field_named name) rs i
named_held name rs index sets is all i =
    sym (list_any-map (λ (s : IndexSet). has_index s.members i) (λ (s : Bor IndexSet). s.now) sets)
    ∙ ap (list_any (λ (s : IndexSet). has_index s.members i)) all
    ∙ held_by_one (λ c. entry_at index (slot_in name c)) categories i
    ∙ name_held name rs index is i

-- ---- some resolution has a key where there is an entry of it
none_has : (key : Key) (rs : List Resolved) → ((i : ℕ) → field_at key rs i ≡ None) → list_any (has_key key) rs ≡ false
none_has key [] absent = refl
none_has key (r ∷ rs) absent = ap (λ b. b || list_any (has_key key) rs) (ap is_some (absent 0)) ∙ none_has key rs (λ i. absent (suc i))

one_has : (key : Key) (rs : List Resolved) (i : ℕ) (f : FieldView) → field_at key rs i ≡ Some f → list_any (has_key key) rs ≡ true
one_has key [] i f here = absurd (missed here)
  where
    missed : None ≡ Some f → ⊥
    missed e = cc
one_has key (r ∷ rs) zero f here = ap (λ b. b || list_any (has_key key) rs) (ap is_some here)
one_has key (r ∷ rs) (suc i) f here = ap (λ b. has_key key r || b) (one_has key rs i f here) ∙ or-true (has_key key r)

present : (key : Key) (rs : List Resolved) (shape : Option ℕ)
    → MatchOption shape (Differs (field_at key rs)) (λ s. AgreesOn s (field_at key rs)) → list_any (has_key key) rs ≡ true
present key rs None two = one_has key rs two.first two.one two.one_present
present key rs (Some s) one = one_has key rs one.index one.field one.present

-- a key is known where there is an entry of it
pub entry_known : (key : Key) (rs : List Resolved) (entry : Option Entry) → IsEntryIfAny (length rs) (field_at key rs) entry → is_some entry ≡ is_known rs key
entry_known key rs None is = sym (none_has key rs is)
entry_known key rs (Some e) is = sym (present key rs e.shape is.shape)

-- whether a value is there, behind a reference
pub copied_there : {X : Type 0} (r : Option (Bor X)) → is_some r ≡ is_some (option_copied r)
copied_there None = refl
copied_there (Some x) = refl
