-- What seeing a key leaves.
use Rattle.std.proofs.Common.{◌≡◌, ℕ, Bool, List, [], ◌∷◌, map, refl, ap, sym, ◌∙◌}
use Rattle.std.specs.BTreeSet.{insert_key}
use Rattle.std.specs.FinMap as finite
use Rattle.std.specs.List.{list_any}
use Rattle.std.specs.Ordering.{match_ordering}
use Rattle.std.specs.declared.cmp.Ordering.{Ordering}
use Rattle.std.specs.declared.cmp.Ordering.TheVariants.{Less, Equal, Greater}
use Rattle.facet_solver_shape.specs.Fields.{entry_view, FieldView}
use Rattle.facet_solver_shape.specs.Keys.{Key, key_cmp, key_of}
use Rattle.facet_solver_shape.specs.contracts.resolution.key.FieldKeyOrd.TheImpl as key_order
use Rattle.facet_solver_shape.specs.declared.resolution.key.FieldKey.{FieldKey}
use Rattle.facet_solver_shape.specs.Names.{Name, name_eq}
use Rattle.facet_solver_shape.specs.Resolved.{Selection, selection_view}
use Rattle.facet_solver_shape.specs.declared.resolution.field.VariantSelection.{VariantSelection}
use Rattle.facet_solver_shape.proofs.Keys.{key_agrees}
use Rattle.facet_solver_shape.proofs.Lists.{list_any-map}

match_viewed : (o : Ordering) (k x : FieldKey) (xs ys : List FieldKey) (zs : List Key) → map key_of ys ≡ zs → map key_of (match_ordering o (k ∷ x ∷ xs) (x ∷ xs) (x ∷ ys)) ≡ match_ordering o (key_of k ∷ key_of x ∷ map key_of xs) (key_of x ∷ map key_of xs) (key_of x ∷ zs)
match_viewed Less k x xs ys zs h = refl
match_viewed Equal k x xs ys zs h = refl
match_viewed Greater k x xs ys zs h = ap (λ ks. key_of x ∷ ks) h

-- a key is put among those that were seen
pub seen_with : (ks : List FieldKey) (k : FieldKey) → map key_of (insert_key (key_order.ghosts).cmp ks k) ≡ insert_key key_cmp (map key_of ks) (key_of k)
seen_with [] k = refl
seen_with (x ∷ xs) k =
    match_viewed ((key_order.ghosts).cmp k x) k x xs (insert_key (key_order.ghosts).cmp xs k) (insert_key key_cmp (map key_of xs) (key_of k)) (seen_with xs k)
    ∙ ap (λ o. match_ordering o (key_of k ∷ key_of x ∷ map key_of xs) (key_of x ∷ map key_of xs) (key_of x ∷ insert_key key_cmp (map key_of xs) (key_of k))) (key_agrees k x)

-- a key of a name is among those that were seen
pub key_named : (keys : List FieldKey) (name : Name) → list_any (λ (k : FieldKey). name_eq (key_of k).name name) keys ≡ list_any (λ (key : Key). name_eq key.name name) (map key_of keys)
key_named keys name = sym (list_any-map (λ (key : Key). name_eq key.name name) key_of keys)

-- a variant of a name is among those that were selected
pub variant_named : (selections : List VariantSelection) (name : Name) → list_any (λ (v : VariantSelection). name_eq v.variant_name.now name) selections ≡ list_any (λ (selection : Selection). name_eq selection.variant_name name) (map selection_view selections)
variant_named selections name = sym (list_any-map (λ (selection : Selection). name_eq selection.variant_name name) selection_view selections)

-- a test of the fields of a map
pub any_field : (entries : List (FieldKey × FieldView)) (fields : finite.FinMap key_cmp FieldView) (test : FieldView → Bool) → map entry_view entries ≡ finite.entries fields → list_any (λ (e : FieldKey × FieldView). test e.1) entries ≡ list_any test (finite.values fields)
any_field entries fields test in_order =
    let of_entry : Key × FieldView → Bool = λ e. test e.1 in
    sym (list_any-map of_entry entry_view entries) ∙ ap (list_any of_entry) in_order ∙ sym (list_any-map test (λ (e : Key × FieldView). e.1) (finite.entries fields))

-- a shape is among those of the fields
pub shape_among : (entries : List (FieldKey × FieldView)) (fields : finite.FinMap key_cmp FieldView) (test : ℕ → Bool) → map entry_view entries ≡ finite.entries fields → list_any (λ (e : FieldKey × FieldView). test e.1.shape) entries ≡ list_any (λ (f : FieldView). test f.shape) (finite.values fields)
shape_among entries fields test in_order = any_field entries fields (λ f. test f.shape) in_order
