-- The laws of nested key paths. On a checked catalogue what is under a shape is what its kind says;
-- and no path goes through one that is not there.
use Rattle.std.proofs.Common.{◌⊎◌, inl, inr, ◌≡◌, ℕ, zero, suc, ◌<◌, ◌≤◌, List, [], ◌∷◌, ◌++◌, Option, Bool, true, false, sym, refl, ap, ◌∙◌, slice_get, length, arith, string_bytes, subst}
use Rattle.std.proofs.lemmas.Bool.{cases_lt}
use Rattle.std.proofs.lemmas.Option.{slice_get_past}
use Rattle.std.specs.Prelude.{if◌then◌else◌, ◌&&◌}
use Rattle.std.specs.FinSet as set
use Rattle.facet_solver_shape.specs.Names.{Name, effective_name}
use Rattle.facet_solver_shape.specs.declared.shape.Shape.{Shape}
use Rattle.facet_solver_shape.specs.declared.shape.ShapeKind.{ShapeKind}
use Rattle.facet_solver_shape.specs.declared.shape.ShapeKind.TheVariants.{Struct, Enum}
use Rattle.facet_solver_shape.specs.declared.shape.Field.{Field}
use Rattle.facet_solver_shape.specs.declared.shape.Variant.{Variant}
use Rattle.facet_solver_shape.specs.Catalogues.{FieldsBelow, VariantsBelow, KindBelow, NamesEarlier}
use Rattle.facet_solver.specs.build.Build.{Catalogue, kind_of, kind_at}
use Rattle.facet_solver.specs.build.Content.{is_zero}
use Rattle.facet_solver.specs.build.Nested.{KeyPath, KeyPaths, no_paths, paths_of_each, behind_prefix, named, Under, Entered, structs_alone, every_kind, through_field_step, through_fields_step, under_fields_step, under_variant_step, under_struct, under_kind, if_entered_step, under_shape_step, under_within, under_shape, if_entered, under_variant, nested_paths, flattened_paths, variant_paths, content_paths_of_shape, content_paths, FollowsKinds, EndsByLength, HasNoGaps}
use Rattle.facet_solver.proofs.Roles.{kind_of-below}
use Rattle.facet_solver.proofs.NestedSets.{Has, Has-none, Has-union, Has-left, Has-right, Has-insert, Has-other, Has-itself, Has-behind, Has-behind_from}

-- two definitions agree on the indices below a limit
abbrev AgreeBelow : ℕ → Under → Under → Type 0
AgreeBelow limit g h = (id : ℕ) → id < limit → g id ≡ h id

-- steps from definitions that agree
module _ (entered : Entered) (cat : Catalogue) (limit : ℕ) (rg rh g h : Under) (regular : AgreeBelow limit rg rh) (flattened : AgreeBelow limit g h) where
  through_same : (f : Field) (b : Bool) → f.shape < limit
      → (if b then g f.shape else named (effective_name f) (rg f.shape)) ≡ (if b then h f.shape else named (effective_name f) (rh f.shape))
  through_same f true lt = flattened f.shape lt
  through_same f false lt = ap (named (effective_name f)) (regular f.shape lt)

  through_fields_same : (fs : List Field) → FieldsBelow limit fs → through_fields_step rg g fs ≡ through_fields_step rh h fs
  through_fields_same [] b = refl
  through_fields_same (f ∷ fs) b =
      ap (λ (ps : KeyPaths). set.union ps (through_fields_step rg g fs)) (through_same f f.flattened b.0)
      ∙ ap (λ (ps : KeyPaths). set.union (through_field_step rh h f) ps) (through_fields_same fs b.1)

  zero_same : (b : Bool) (id : ℕ) (ps qs : KeyPaths) → id < limit → ps ≡ qs → (if b then rg id else ps) ≡ (if b then rh id else qs)
  zero_same true id ps qs lt e = regular id lt
  zero_same false id ps qs lt e = e

  variant_same : (fs : List Field) → FieldsBelow limit fs → under_fields_step entered cat rg g fs ≡ under_fields_step entered cat rh h fs
  variant_same [] b = refl
  variant_same (f ∷ []) b = zero_same (is_zero (string_bytes f.name) && entered (kind_at cat f.shape)) f.shape _ _ b.0 (through_fields_same (f ∷ []) b)
  variant_same (f ∷ k ∷ fs) b = through_fields_same (f ∷ k ∷ fs) b

  variants_same : (vs : List Variant) → VariantsBelow limit vs → paths_of_each (under_variant_step entered cat rg g) vs ≡ paths_of_each (under_variant_step entered cat rh h) vs
  variants_same [] b = refl
  variants_same (v ∷ vs) b =
      ap (λ (ps : KeyPaths). set.union ps (paths_of_each (under_variant_step entered cat rg g) vs)) (variant_same v.fields.items b.0)
      ∙ ap (λ (ps : KeyPaths). set.union (under_variant_step entered cat rh h v) ps) (variants_same vs b.1)

  kind_same : (k : ShapeKind) → KindBelow limit k
      → under_kind (through_fields_step rg g) (under_variant_step entered cat rg g) k ≡ under_kind (through_fields_step rh h) (under_variant_step entered cat rh h) k
  kind_same (Struct kind fs) b = through_fields_same fs.items b
  kind_same (Enum vs) b = variants_same vs.items b
  kind_same _ b = refl

entered_same : (entered : Entered) (cat : Catalogue) (limit : ℕ) (g h : Under) → AgreeBelow limit g h → AgreeBelow limit (if_entered_step entered cat g) (if_entered_step entered cat h)
entered_same entered cat limit g h agree id lt = ap (λ (ps : KeyPaths). if entered (kind_at cat id) then ps else no_paths) (agree id lt)

module _ (entered : Entered) (cat : Catalogue) (checked : NamesEarlier cat) where
  pub kind_at-below : (id : ℕ) → KindBelow id (kind_at cat id)
  kind_at-below id = kind_of-below cat checked id (slice_get cat id) refl

  -- more levels change nothing
  same_levels : (n m id : ℕ) → id < n → id < m → under_within n entered cat id ≡ under_within m entered cat id
  unfolding under_within
  same_levels zero m id p q = absurd (omega arith)
  same_levels (suc n) zero id p q = absurd (omega arith)
  same_levels (suc n) (suc m) id p q =
      let g = under_within n entered cat in
      let h = under_within m entered cat in
      let agree : AgreeBelow id g h = λ k lt. same_levels n m k (omega arith) (omega arith) in
      kind_same entered cat id (if_entered_step entered cat g) (if_entered_step entered cat h) g h (entered_same entered cat id g h agree) agree (kind_at cat id) (kind_at-below id)

  -- nothing is under an index past the end
  nothing_past : (n id : ℕ) → length cat ≤ id → under_within (suc n) entered cat id ≡ no_paths
  unfolding under_within
  nothing_past n id h =
      let g = under_within n entered cat in
      let r = if_entered_step entered cat g in
      ap (λ (o : Option Shape). under_kind (through_fields_step r g) (under_variant_step entered cat r g) (kind_of o)) (slice_get_past cat id h)

  -- more levels than the catalogue is long find nothing more
  enough_levels : (n m id : ℕ) → length cat < n → length cat < m → under_within n entered cat id ≡ under_within m entered cat id
  enough_levels zero m id p q = absurd (omega arith)
  enough_levels (suc n) zero id p q = absurd (omega arith)
  enough_levels (suc n) (suc m) id p q = elim (cases_lt id (length cat)) [
    | inl inside ↦ same_levels (suc n) (suc m) id (omega arith) (omega arith)
    | inr past ↦ nothing_past n id past ∙ sym (nothing_past m id past)
  ]

  pub under_shape-step : (id : ℕ) → under_shape entered cat id ≡ under_shape_step entered cat (under_shape entered cat) id
  unfolding under_shape under_within
  under_shape-step id = enough_levels (suc (length cat)) (suc (suc (length cat))) id (omega arith) (omega arith)

-- a struct is entered among structs alone, and every kind is entered
struct_by_kind : (through : List Field → KeyPaths) (under : Variant → KeyPaths) (k : ShapeKind) → (if structs_alone k then under_kind through under k else no_paths) ≡ under_struct through k
struct_by_kind through under (Struct kind fs) = refl
struct_by_kind through under (Enum vs) = refl
struct_by_kind through under _ = refl

pub follows_kinds : (cat : Catalogue) → NamesEarlier cat → FollowsKinds cat
unfolding nested_paths flattened_paths variant_paths content_paths_of_shape content_paths
follows_kinds cat checked = record {
  nested = λ id.
      ap (λ (ps : KeyPaths). if structs_alone (kind_at cat id) then ps else no_paths) (under_shape-step structs_alone cat checked id)
      ∙ struct_by_kind _ _ (kind_at cat id);
  flattened = under_shape-step structs_alone cat checked;
  variants = λ v. refl;
  content_of_shape = under_shape-step every_kind cat checked;
  content = λ v. refl;
}

pub ends_by_length : (cat : Catalogue) → NamesEarlier cat → EndsByLength cat
unfolding under_shape
ends_by_length cat checked entered levels id h = enough_levels entered cat checked levels (suc (length cat)) id h (omega arith)

-- the same of gaps, by what a set has
record Gapless (paths : KeyPaths) : Type 0 where
  none_empty : Has paths [] → ⊥
  gone_through : (p : KeyPath) (n : Name) → Has paths (p ++ n ∷ []) → (p ≡ []) ⊎ Has paths p

Gapless-none : Gapless no_paths
Gapless-none = record { none_empty = λ h. Has-none [] h; gone_through = λ p n h. Has-none (p ++ n ∷ []) h }

Gapless-union : (ps qs : KeyPaths) → Gapless ps → Gapless qs → Gapless (set.union ps qs)
Gapless-union ps qs g h = record {
  none_empty = λ i. elim (Has-union ps qs [] i) [ inl a ↦ g.none_empty a | inr b ↦ h.none_empty b ];
  gone_through = λ p n i. elim (Has-union ps qs (p ++ n ∷ []) i) [
    | inl a ↦ (elim (g.gone_through p n a) [ inl e ↦ inl e | inr k ↦ inr (Has-left ps qs p k) ])
    | inr b ↦ (elim (h.gone_through p n b) [ inl e ↦ inl e | inr k ↦ inr (Has-right ps qs p k) ])
  ];
}

Gapless-each : {X : Type 0} (paths : X → KeyPaths) → ((x : X) → Gapless (paths x)) → (xs : List X) → Gapless (paths_of_each paths xs)
Gapless-each paths h [] = Gapless-none
Gapless-each paths h (x ∷ xs) = Gapless-union (paths x) (paths_of_each paths xs) (h x) (Gapless-each paths h xs)

module _ (name : Name) (ps : KeyPaths) (g : Gapless ps) where
  abbrev under_name : KeyPaths
  under_name = behind_prefix (name ∷ []) ps

  not_empty : Has (named name ps) [] → ⊥
  not_empty h = elim (Has-insert under_name (name ∷ []) [] h) [
    | inl e ↦ cc
    | inr i ↦ (let r = Has-behind_from (name ∷ []) ps [] i in let e : name ∷ r.0 ≡ [] = r.2 in cc)
  ]

  behind : (m : Name) (p : KeyPath) (n : Name) (q : KeyPath) → Has ps q → name ≡ m → q ≡ p ++ n ∷ [] → Has (named name ps) (m ∷ p)
  behind m [] n q i e is = subst (λ (x : Name). Has (named name ps) (x ∷ [])) e (Has-itself under_name (name ∷ []))
  behind m (k ∷ p) n q i e is =
      elim (g.gone_through (k ∷ p) n (subst (Has ps) is i)) [
        | inl none ↦ absurd (cc)
        | inr h ↦ subst (λ (x : Name). Has (named name ps) (x ∷ (k ∷ p))) e (Has-other under_name (name ∷ []) (name ∷ (k ∷ p)) (Has-behind (name ∷ []) ps (k ∷ p) h))
      ]

  alone : (m : Name) (p : KeyPath) (n : Name) → m ∷ (p ++ n ∷ []) ≡ name ∷ [] → ⊥
  alone m [] n e = cc
  alone m (k ∷ p) n e = cc

  through_name : (p : KeyPath) (n : Name) → Has (named name ps) (p ++ n ∷ []) → (p ≡ []) ⊎ Has (named name ps) p
  through_name [] n h = inl refl
  through_name (m ∷ p) n h = elim (Has-insert under_name (name ∷ []) (m ∷ (p ++ n ∷ [])) h) [
    | inl e ↦ absurd (alone m p n e)
    | inr i ↦
        (let r = Has-behind_from (name ∷ []) ps (m ∷ (p ++ n ∷ [])) i in
        let e : name ∷ r.0 ≡ m ∷ (p ++ n ∷ []) = r.2 in
        inr (behind m p n r.0 r.1 (cc) (cc)))
  ]

  Gapless-named : Gapless (named name ps)
  Gapless-named = record { none_empty = not_empty; gone_through = through_name }

gapless_if : (b : Bool) (ps qs : KeyPaths) → Gapless ps → Gapless qs → Gapless (if b then ps else qs)
gapless_if true ps qs g k = g
gapless_if false ps qs g k = k

module _ (entered : Entered) (cat : Catalogue) (regular flattened : Under) (r : (id : ℕ) → Gapless (regular id)) (h : (id : ℕ) → Gapless (flattened id)) where
  gapless_field : (f : Field) → Gapless (through_field_step regular flattened f)
  gapless_field f =
      gapless_if f.flattened (flattened f.shape) (named (effective_name f) (regular f.shape)) (h f.shape)
      (Gapless-named (effective_name f) (regular f.shape) (r f.shape))

  gapless_variant_fields : (fs : List Field) → Gapless (under_fields_step entered cat regular flattened fs)
  gapless_variant_fields [] = Gapless-none
  gapless_variant_fields (f ∷ []) =
      gapless_if (is_zero (string_bytes f.name) && entered (kind_at cat f.shape)) (regular f.shape) (through_fields_step regular flattened (f ∷ [])) (r f.shape)
      (Gapless-each (through_field_step regular flattened) gapless_field (f ∷ []))
  gapless_variant_fields (f ∷ g ∷ fs) = Gapless-each (through_field_step regular flattened) gapless_field (f ∷ g ∷ fs)

  gapless_variant : (v : Variant) → Gapless (under_variant_step entered cat regular flattened v)
  gapless_variant v = gapless_variant_fields v.fields.items

  gapless_kind : (k : ShapeKind) → Gapless (under_kind (through_fields_step regular flattened) (under_variant_step entered cat regular flattened) k)
  gapless_kind (Struct kind fs) = Gapless-each (through_field_step regular flattened) gapless_field fs.items
  gapless_kind (Enum vs) = Gapless-each (under_variant_step entered cat regular flattened) gapless_variant vs.items
  gapless_kind _ = Gapless-none

module _ (entered : Entered) (cat : Catalogue) where
  gapless_entered : (under : Under) → ((id : ℕ) → Gapless (under id)) → (id : ℕ) → Gapless (if_entered_step entered cat under id)
  gapless_entered under h id = gapless_if (entered (kind_at cat id)) (under id) no_paths (h id) Gapless-none

  gapless_within : (n id : ℕ) → Gapless (under_within n entered cat id)
  unfolding under_within
  gapless_within zero id = Gapless-none
  gapless_within (suc n) id =
      let g = under_within n entered cat in
      gapless_kind entered cat (if_entered_step entered cat g) g (gapless_entered g (gapless_within n)) (gapless_within n) (kind_at cat id)

  gapless_shape : (id : ℕ) → Gapless (under_shape entered cat id)
  unfolding under_shape
  gapless_shape id = gapless_within (suc (length cat)) id

  without_gaps : (id : ℕ) → Gapless (if_entered entered cat id)
  without_gaps = gapless_entered (under_shape entered cat) gapless_shape

  variant_without_gaps : (v : Variant) → Gapless (under_variant entered cat v)
  variant_without_gaps = gapless_variant entered cat (if_entered entered cat) (under_shape entered cat) without_gaps gapless_shape

no_gaps : (ps : KeyPaths) → Gapless ps → HasNoGaps ps
no_gaps ps g = record {
  none_empty = is_false (set.contains ps []) g.none_empty;
  gone_through = g.gone_through;
}
  where
    is_false : (b : Bool) → (b ≡ true → ⊥) → b ≡ false
    is_false true h = absurd (h refl)
    is_false false h = refl

module _ (cat : Catalogue) where
  pub nested_without_gaps : (id : ℕ) → HasNoGaps (nested_paths cat id)
  unfolding nested_paths
  nested_without_gaps id = no_gaps _ (without_gaps structs_alone cat id)

  pub flattened_without_gaps : (id : ℕ) → HasNoGaps (flattened_paths cat id)
  unfolding flattened_paths
  flattened_without_gaps id = no_gaps _ (gapless_shape structs_alone cat id)

  pub variants_without_gaps : (v : Variant) → HasNoGaps (variant_paths cat v)
  unfolding variant_paths
  variants_without_gaps v = no_gaps _ (variant_without_gaps structs_alone cat v)

  pub content_of_shape_without_gaps : (id : ℕ) → HasNoGaps (content_paths_of_shape cat id)
  unfolding content_paths_of_shape
  content_of_shape_without_gaps id = no_gaps _ (gapless_shape every_kind cat id)

  pub content_without_gaps : (v : Variant) → HasNoGaps (content_paths cat v)
  unfolding content_paths
  content_without_gaps v = no_gaps _ (variant_without_gaps every_kind cat v)
