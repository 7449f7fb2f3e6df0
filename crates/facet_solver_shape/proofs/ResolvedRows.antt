-- How fields are added, merged and found: the definitions, row by row.
use Rattle.std.proofs.Common.{◌≡◌, ◌≢◌, ◌<◌, ℕ, Bool, true, false, cond, List, [], ◌∷◌, ◌++◌, Option, Some, None, IsSome, IsSomeAnd, is_some, Less, Equal, Greater, Ordering, refl, sym, ap, subst, ◌∙◌, inl, inr, arith, codes}
use Rattle.std.proofs.lemmas.Bool.{false≢true}
use Rattle.std.specs.FinMap as finite
use Rattle.std.specs.FinSet as set
use Rattle.std.specs.List.Sorted.{IsStrictlySortedBy}
use Rattle.std.specs.Option.{option_map, option_or}
use Rattle.std.specs.Ordering.{is_eq}
use Rattle.facet_solver_shape.specs.Fields.{FieldView, IsFieldTable, IsLeast, IsLeastIfAny, NonePasses, as_optional, key_of_field}
use Rattle.facet_solver_shape.specs.Keys.{Key, category_cmp, flat_key, key_cmp, key_of}
use Rattle.facet_solver_shape.specs.Names.{Name, name_eq}
use Rattle.facet_solver_shape.specs.Paths.{Segment, by_field}
use Rattle.facet_solver_shape.specs.Resolved.{AreApart, AreRequiredNames, IsAdded, IsFieldDuplicate, IsMadeOptional, IsMergeDuplicate, IsMergeRefusalOf, IsMerged, IsOverlaid, IsRefusalOf, IsRequiredName, IsUnionOf, Resolved, nothing, with_field}
use Rattle.facet_solver_shape.specs.declared.resolution.error.DuplicateFieldError.{DuplicateFieldError}
use Rattle.facet_solver_shape.specs.declared.resolution.error.SchemaError.TheVariants.{DuplicateField, OutOfMemory}
use Rattle.facet_solver_shape.specs.declared.resolution.key.FieldCategory.TheVariants.{Flat}
use Rattle.facet_solver_shape.specs.declared.resolution.key.FieldKey.{FieldKey}
use Rattle.facet_solver_shape.proofs.Keys.{key_cmp_total}
use Rattle.facet_solver_shape.proofs.Samples.{seen_field}

-- a flat field `a`, its key, and its path
abbrev a : FieldView
a = seen_field Flat (codes "a")

abbrev key_a : Key
key_a = flat_key (codes "a")

abbrev path_a : List Segment
path_a = by_field (codes "a") ∷ []

-- fields by their keys
abbrev Fields : Type 0
Fields = finite.FinMap key_cmp FieldView

-- a resolution with that field
abbrev with_a : Resolved
with_a = with_field nothing a

-- it is found under its key
found : finite.get with_a.fields key_a ≡ Some a
found = finite.get-insert key_cmp_total nothing.fields key_a a key_a

-- nothing is found without fields
not_found : (k : Key) → finite.get nothing.fields k ≡ None
not_found k = finite.get-empty {X = FieldView} key_cmp k

-- what is found elsewhere is nothing
elsewhere : (k : Key) (f : FieldView) → finite.get with_a.fields k ≡ Some f → key_cmp k key_a ≡ Equal
elsewhere k f is = go (key_cmp k key_a) refl (sym (finite.get-insert key_cmp_total nothing.fields key_a a k) ∙ is)
  where
    none : ¬ (finite.get nothing.fields k ≡ Some f)
    none is = let no = sym (not_found k) ∙ is in cc

    go : (o : Ordering) → key_cmp k key_a ≡ o
        → cond (is_eq (key_cmp k key_a)) (Some a) (finite.get nothing.fields k) ≡ Some f → o ≡ Equal
    go Less less is = absurd (none (ap (λ o. cond (is_eq o) (Some a) (finite.get nothing.fields k)) (sym less) ∙ is))
    go Equal same is = refl
    go Greater more is = absurd (none (ap (λ o. cond (is_eq o) (Some a) (finite.get nothing.fields k)) (sym more) ∙ is))

-- a field is added where its key is new
pub added_rows :
    IsAdded nothing a with_a
    × (¬ (IsAdded nothing a nothing))
    × ((r : Resolved) → ¬ (IsAdded with_a a r))
added_rows = (
  record { fresh = not_found key_a; after = refl },
  λ h. let no = sym (not_found key_a) ∙ ap (λ r. finite.get r.fields key_a) h.after ∙ found in cc,
  λ r h. let no = sym found ∙ h.fresh in cc,
)

-- else its key is taken, and refused with both paths
duplicate : IsFieldDuplicate with_a.fields a (codes "a") path_a path_a
duplicate = record {
  taken = subst (λ o. IsSomeAnd o (λ present. present.path ≡ path_a)) (sym found) refl;
  same_name = refl;
  same_path = refl;
}

-- no key is taken without fields
not_duplicate : (f : FieldView) (name : Name) (first second : List Segment)
    → ¬ (IsFieldDuplicate nothing.fields f name first second)
not_duplicate f name first second d =
    subst (λ o. IsSomeAnd o (λ present. present.path ≡ first)) (not_found (key_of_field f)) d.taken

pub duplicate_rows :
    IsFieldDuplicate with_a.fields a (codes "a") path_a path_a
    × (¬ (IsFieldDuplicate nothing.fields a (codes "a") path_a path_a))
    × IsRefusalOf nothing.fields a OutOfMemory
    × ((d : DuplicateFieldError) → ¬ (IsRefusalOf nothing.fields a (DuplicateField d)))
duplicate_rows =
    (duplicate, not_duplicate a (codes "a") path_a path_a, tt, λ d. not_duplicate a _ _ _)

-- `a` is required of fields with it, and of none it is not
pub required_rows :
    IsRequiredName with_a.fields (codes "a")
    × (¬ (IsRequiredName nothing.fields (codes "a")))
    × (¬ (AreRequiredNames with_a.fields set.empty))
required_rows = (
  record { key = key_a; field = a; present = found; is_required = refl; same_name = refl },
  λ r. let no = sym (not_found r.key) ∙ r.present in cc,
  λ all.
      let has = (all (codes "a")).1 (record { key = key_a; field = a; present = found; is_required = refl; same_name = refl }) in
      false≢true (sym (set.contains-empty _ (codes "a")) ∙ has),
)

-- no key is both in no fields and in others
pub apart_rows : AreApart nothing.fields with_a.fields × (¬ (AreApart with_a.fields with_a.fields))
apart_rows = (
  λ k some. absurd (false≢true (sym (ap is_some (not_found k)) ∙ some)),
  λ apart. let no = sym found ∙ apart key_a (ap is_some found) in cc,
)

-- nothing with `a` makes `a`, and `a` with `a` makes nothing
pub union_rows :
    IsUnionOf nothing.fields with_a.fields with_a.fields
    × (¬ (IsUnionOf nothing.fields with_a.fields nothing.fields))
    × ((made : Fields) → ¬ (IsUnionOf with_a.fields with_a.fields made))
union_rows = (
  record {
    apart = apart_rows.0;
    joined = λ k. sym (ap (λ o. option_or o (finite.get with_a.fields k)) (not_found k));
  },
  λ u.
      let no = sym (not_found key_a) ∙ u.joined key_a ∙ ap (λ o. option_or o (finite.get with_a.fields key_a)) (not_found key_a) ∙ found in
      cc,
  λ made u. apart_rows.1 u.apart,
)

-- an upper field takes the place of a lower one, and a lower one stays where there is no upper one
pub overlaid_rows :
    IsOverlaid with_a.fields nothing.fields with_a.fields
    × (¬ (IsOverlaid with_a.fields nothing.fields nothing.fields))
overlaid_rows = (
  λ k. sym (ap (λ o. option_or o (finite.get with_a.fields k)) (not_found k)),
  λ overlaid.
      let no = sym (not_found key_a) ∙ overlaid key_a ∙ ap (λ o. option_or o (finite.get with_a.fields key_a)) (not_found key_a) ∙ found in
      cc,
)

-- what nothing and `a` make
abbrev merged : Resolved
merged = record {
  fields = with_a.fields;
  required_names = set.union nothing.required_names with_a.required_names;
  key_paths = set.union nothing.key_paths with_a.key_paths;
  selections = [];
  catch_alls = finite.empty;
}

-- they merge to it, and not to nothing; and `a` with `a` to nothing at all
pub merged_rows :
    IsMerged nothing with_a merged
    × (¬ (IsMerged nothing with_a nothing))
    × ((made : Resolved) → ¬ (IsMerged with_a with_a made))
merged_rows = (
  record {
    fields = union_rows.0;
    required_names = refl;
    key_paths = refl;
    selections = refl;
    catch_alls = λ k.
        let none = finite.get-empty {X = FieldView} category_cmp k in
        none ∙ sym (ap (λ o. option_or o (finite.get nothing.catch_alls k)) none ∙ none);
  },
  λ m. union_rows.1 m.fields,
  λ made m. union_rows.2 made.fields m.fields,
)

-- `a` with `a` is refused
pub merge_duplicate_rows :
    IsMergeDuplicate with_a with_a (codes "a") path_a path_a
    × ((name : Name) (first second : List Segment) → ¬ (IsMergeDuplicate with_a nothing name first second))
    × IsMergeRefusalOf with_a nothing OutOfMemory
    × ((d : DuplicateFieldError) → ¬ (IsMergeRefusalOf with_a nothing (DuplicateField d)))
merge_duplicate_rows = (
  record { field = a; among = found; duplicate = duplicate },
  fails,
  tt,
  λ d. fails _ _ _,
)
  where
    fails : (name : Name) (first second : List Segment) → ¬ (IsMergeDuplicate with_a nothing name first second)
    fails name first second m = let no = sym (not_found (key_of_field m.field)) ∙ m.among in cc

-- nothing is made optional by itself, and `a` is required
pub optional_rows : IsMadeOptional nothing nothing × (¬ (IsMadeOptional with_a with_a))
optional_rows = (
  record {
    fields = λ k. not_found k ∙ sym (ap (option_map as_optional) (not_found k));
    others = refl;
  },
  λ m.
      let same = sym found ∙ m.fields key_a ∙ ap (option_map as_optional) found in
      false≢true (sym (ap (λ o. elim o [ None ↦ false | Some f ↦ f.is_required ]) same)),
)

-- `a` is the least of all fields, and none of those that pass no test
pub least_rows :
    IsLeast with_a.fields (λ f. true) a
    × (¬ (IsLeast with_a.fields (λ f. false) a))
    × IsLeastIfAny with_a.fields (λ f. true) (Some a)
    × (¬ (IsLeastIfAny with_a.fields (λ f. true) None))
    × NonePasses with_a.fields (λ f. false)
    × (¬ (NonePasses with_a.fields (λ f. true)))
least_rows = (
  least,
  λ h. false≢true h.passes,
  least,
  λ none. false≢true (sym (none key_a a found)),
  λ k f is. refl,
  λ none. false≢true (sym (none key_a a found)),
)
  where
    least : IsLeast with_a.fields (λ f. true) a
    least = record {
      passes = refl;
      present = found;
      least = λ k f is passes less. let no = sym (elsewhere k f is) ∙ less in cc;
    }

-- a field under its own key makes a table, and under another none
pub table_rows :
    ((k : FieldKey) → key_of k ≡ key_a → IsFieldTable ((k, a) ∷ []))
    × ((k : FieldKey) → key_of k ≡ flat_key (codes "b") → ¬ (IsFieldTable ((k, a) ∷ [])))
unfolding IsStrictlySortedBy
table_rows = (
  λ k is. record { rising = (tt, tt); stored = (is, tt) },
  λ k is t. false≢true (sym (ap (λ key. name_eq key.name (codes "b")) (sym is ∙ t.stored.0))),
)
