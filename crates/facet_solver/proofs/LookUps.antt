-- A key looks in the slot of the fields that it means.
use Rattle.std.proofs.Common.{◌≡◌, ◌≢◌, ℕ, zero, suc, Bool, true, false, cond, ◌&&◌, ◌||◌, List, [], ◌∷◌, Option, Some, None, refl, ap, sym, ◌∙◌, subst}
use Rattle.std.specs.Prelude.{if◌then◌else◌, is_some, length, slice_get}
use Rattle.std.specs.Option.{option_and_then, option_map_or}
use Rattle.std.specs.FinMap as finite
use Rattle.std.specs.List.{AllByRecursion, find}
use Rattle.std.specs.Ordering.{nat_cmp}
use Rattle.std.proofs.lemmas.Bool.Decides.{Decides-eqb}
use Rattle.std.proofs.lemmas.Cmp.{tied_itself, nat_cmp_total}
use Rattle.std.proofs.lemmas.List.Elements.{recursion_from_All}
use Rattle.std.proofs.Math.Bool.{and-false, and-true, or-false, or-true}
use Rattle.facet_solver_shape.specs.declared.resolution.key.FieldCategory.{FieldCategory}
use Rattle.facet_solver_shape.specs.declared.resolution.key.FieldCategory.TheVariants.{Flat as FlatCategory, Attribute, Element, Text, Tag, Elements}
use Rattle.facet_solver_shape.specs.Keys.{Key, category_index}
use Rattle.facet_solver_shape.specs.Fields.{category_eq, is_unnamed, matches, means, takes_any_name, FieldView}
use Rattle.facet_solver_shape.specs.Names.{Name, name_eq}
use Rattle.facet_solver_shape.specs.Resolved.{Resolved, field_by_key}
use Rattle.facet_solver_shape.proofs.Keys.{category_cmp_same}
use Rattle.facet_solver.specs.schema.Indexed.{Meant, IsEntryIfAny, IsIndexOf, HasFormat, IsOfFormat, AreOfFormat, first_passing, fields_of_each}
use Rattle.facet_solver.specs.Resolutions.{field_at, has_key, passes}
use Rattle.facet_solver.specs.schema.IndexEntries.{entry_at}
use Rattle.facet_solver.specs.schema.Slots.{dom_slot, is_at, is_named, slot_of}
use Rattle.facet_solver.specs.declared.build.format.Format.{Format}
use Rattle.facet_solver.specs.declared.build.format.Format.TheVariants.{Flat, Dom}
use Rattle.facet_solver.specs.declared.schema.index.Index.{Index}

same_category : (c d : FieldCategory) → category_eq c d ≡ true → c ≡ d
same_category c d e =
    category_cmp_same c d (ap (λ n. nat_cmp (category_index c) n) (sym ((Decides-eqb (category_index c) (category_index d)).0 e)) ∙ tied_itself nat_cmp_total (category_index c))

-- what a flat key means of fields that have a category
means_flat : (asked name : Name) (c : FieldCategory) → c ≢ FlatCategory → means None asked c name ≡ (category_eq Element c && name_eq asked name)
means_flat asked name FlatCategory is = absurd (is refl)
means_flat asked name Element is = and-true (name_eq asked name)
means_flat asked name Attribute is = and-false (name_eq asked name)
means_flat asked name Text is = and-false (name_eq asked name)
means_flat asked name Tag is = and-false (name_eq asked name)
means_flat asked name Elements is = and-false (name_eq asked name)

-- and what a DOM key means of them
means_dom : (d : FieldCategory) (asked name : Name) (c : FieldCategory) → c ≢ FlatCategory
    → means (Some d) asked c name ≡ (category_eq d c && (name_eq asked name || (is_unnamed asked && takes_any_name c)))
means_dom d asked name FlatCategory is = absurd (is refl)
means_dom d asked name Attribute is = refl
means_dom d asked name Element is = refl
means_dom d asked name Text is = refl
means_dom d asked name Tag is = refl
means_dom d asked name Elements is = refl

second_true : (a b : Bool) → (a && b) ≡ true → b ≡ true
second_true true b e = e
second_true false b e = cc

-- a name, or all of a category
any_or_named : (asked : Name) (f : FieldView) (any : Bool) → (is_unnamed asked && takes_any_name f.category) ≡ any
    → (name_eq asked f.name || (is_unnamed asked && takes_any_name f.category)) ≡ is_named (if any then None else Some asked) f
any_or_named asked f true e =
    ap (λ b. name_eq asked f.name || b) e ∙ or-true (name_eq asked f.name) ∙ sym (second_true (is_unnamed asked) (takes_any_name f.category) e)
any_or_named asked f false e = ap (λ b. name_eq asked f.name || b) e ∙ or-false (name_eq asked f.name)

dom_exact : (dom : Option FieldCategory) (asked : Name) (f : FieldView) → f.category ≢ FlatCategory → means dom asked f.category f.name ≡ is_at (dom_slot dom asked) f
dom_exact None asked f is = means_flat asked f.name f.category is
dom_exact (Some d) asked f is = means_dom d asked f.name f.category is ∙ go (category_eq d f.category) refl
  where
    go : (t : Bool) → category_eq d f.category ≡ t
        → (t && (name_eq asked f.name || (is_unnamed asked && takes_any_name f.category))) ≡ (t && is_named (if is_unnamed asked && takes_any_name d then None else Some asked) f)
    go true e =
        any_or_named asked f (is_unnamed asked && takes_any_name f.category) refl
        ∙ ap (λ c. is_named (if is_unnamed asked && takes_any_name c then None else Some asked) f) (sym (same_category d f.category e))
    go false e = refl

-- a field is meant exactly where it stands in the slot
slot_exact : (format : Format) (key : Key) (f : FieldView) → IsOfFormat format f.category → matches key f ≡ is_at (slot_of format key) f
slot_exact Flat key f is =
    ap (λ c. means key.dom key.name c f.name) is ∙ ap (λ c. category_eq FlatCategory c && name_eq key.name f.name) (sym is)
slot_exact Dom key f is = dom_exact key.dom key.name f is

find_same : (p q : FieldView → Bool) (fs : List FieldView) → AllByRecursion (λ f. p f ≡ q f) fs → find p fs ≡ find q fs
find_same p q [] same = refl
find_same p q (f ∷ fs) same = ap (λ b. cond b (Some f) (find p fs)) same.0 ∙ ap (λ o. cond (q f) (Some f) o) (find_same p q fs same.1)

each_exact : (format : Format) (key : Key) (fs : List FieldView) → AllByRecursion (λ (f : FieldView). IsOfFormat format f.category) fs → AllByRecursion (λ f. matches key f ≡ is_at (slot_of format key) f) fs
each_exact format key [] each = tt
each_exact format key (f ∷ fs) each = (slot_exact format key f each.0, each_exact format key fs each.1)

-- the field that a key means is the first of the slot
meant_exact : (format : Format) (key : Key) (rs : List Resolved) → AllByRecursion (HasFormat format) rs → (i : ℕ)
    → first_passing (is_at (slot_of format key)) (fields_of_each rs) i ≡ field_at key rs i
meant_exact format key [] each i = refl
meant_exact format key (r ∷ rs) each zero =
    sym (find_same (matches key) (is_at (slot_of format key)) (finite.values r.fields) (each_exact format key (finite.values r.fields) (recursion_from_All (λ (f : FieldView). IsOfFormat format f.category) (finite.values r.fields) each.0)))
meant_exact format key (r ∷ rs) each (suc i) = meant_exact format key rs each.1 i

-- so the entry of the slot is that of the key
pub entry_exact : (format : Format) (key : Key) (rs : List Resolved) (index : Index) → AreOfFormat format rs → IsIndexOf (length rs) (fields_of_each rs) index
    → IsEntryIfAny (length rs) (field_at key rs) (entry_at index (slot_of format key))
entry_exact format key rs index each is =
    let all : AllByRecursion (HasFormat format) rs = recursion_from_All (HasFormat format) rs each in
    let meant : Meant = first_passing (is_at (slot_of format key)) (fields_of_each rs) in
    subst (λ m. IsEntryIfAny (length rs) m (entry_at index (slot_of format key))) (λ j i. meant_exact format key rs all i j) (is (slot_of format key))

-- that a key means a field is that its resolution has it
pub has_field : (key : Key) (rs : List Resolved) (i : ℕ) → is_some (field_at key rs i) ≡ passes (has_key key) rs i
has_field key rs i = go (slice_get rs i)
  where
    go : (o : Option Resolved) → is_some (option_and_then (field_by_key key) o) ≡ option_map_or (has_key key) o false
    go None = refl
    go (Some r) = refl
