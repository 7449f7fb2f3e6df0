-- Where each field of a catalogue flattens no enum but those that are taken alike, so does each
-- field that the walk of a root meets.
use Rattle.std.proofs.Common.{◌≡◌, refl, sym, ap, ◌∙◌, subst, ℕ, zero, suc, Bool, true, false, ◌&&◌}
use Rattle.std.proofs.Common.{List, [], ◌∷◌, Option, Some, None, not, slice_get, string_bytes, Vec}
use Rattle.std.specs.Prelude.{⊤, IsTrue, codes, if◌then◌else◌, is_none}
use Rattle.std.specs.Option.{option_map_or}
use Rattle.std.specs.Str.{bytes_eq}
use Rattle.std.specs.declared.alloc.Global.{Global}
use Rattle.std.proofs.lemmas.Bool.{and_parts, false≢true}
use Rattle.std.proofs.lemmas.Option.{slice_get_within}
use Rattle.facet_solver_shape.specs.declared.role.Target.{Target}
use Rattle.facet_solver_shape.specs.declared.shape.Field.{Field}
use Rattle.facet_solver_shape.specs.declared.shape.Shape.{Shape}
use Rattle.facet_solver_shape.specs.declared.shape.ShapeKind.{ShapeKind}
use Rattle.facet_solver_shape.specs.declared.shape.ShapeKind.TheVariants.{Struct, Enum}
use Rattle.facet_solver_shape.specs.declared.shape.StructKind.TheVariants.{Unit as NoFields}
use Rattle.facet_solver_shape.specs.declared.shape.StructKind.TheVariants.{Struct as ByName}
use Rattle.facet_solver_shape.specs.declared.shape.StructKind.TheVariants.{Tuple, TupleStruct}
use Rattle.facet_solver_shape.specs.declared.shape.Variant.{Variant}
use Rattle.facet_solver_shape.specs.Catalogues.{Catalogue, kind_at, kind_of}
use Rattle.facet_solver_shape.specs.EffectiveShapes.{effective}
use Rattle.facet_solver_shape.specs.Metadata.{is_metadata_container}
use Rattle.facet_solver_shape.specs.Representation.{Repr, flattened, externally_tagged}
use Rattle.facet_solver_shape.specs.Representation.{internally_tagged, adjacently_tagged}
use Rattle.facet_solver_shape.specs.Representation.{repr_of_shape}
use Rattle.facet_solver_shape.specs.Roles.{Role, regular, block, alternatives, catch_all, leaf}
use Rattle.facet_solver_shape.specs.Roles.{role_by_kind, role_of, role_of_target, target_of}
use Rattle.facet_solver.specs.build.Content.{content_of, content_or, newtype_fields, struct_fields}
use Rattle.facet_solver_reader.proofs.Quantifiers.{all_from, any_is_at}
use Rattle.facet_solver_agreement.specs.Alike.{IsKeptAlike, IsPlainRoot, flattens_adjacent}
use Rattle.facet_solver_agreement.specs.Alike.{flattens_named, have_named_content, is_adjacent}
use Rattle.facet_solver_agreement.specs.Alike.{is_named_struct}
use Rattle.facet_solver_agreement.specs.Met.{AreMet, AreMetAt, AreOfContent, BringsIn}
use Rattle.facet_solver_agreement.specs.Throughout.{IsAlikeThroughout, are_fields_alike}
use Rattle.facet_solver_agreement.specs.Throughout.{are_variants_alike, is_enum_alike}
use Rattle.facet_solver_agreement.specs.Throughout.{is_field_alike, is_kind_alike, is_plain_struct}
use Rattle.facet_solver_agreement.specs.Throughout.{is_role_alike, is_shape_alike}
use Rattle.facet_solver_agreement.proofs.Listed.{all_pass}

-- ---- a plain root
none_is : {X : Type 0} (o : Option X) → is_none o ≡ true → o ≡ None
none_is None h = refl
none_is (Some x) h = absurd (cc)

not_is : (b : Bool) → not b ≡ true → b ≡ false
not_is true h = absurd (cc)
not_is false h = refl

-- a kind that is one of structs with named fields
named_is : (k : ShapeKind) → is_named_struct k ≡ true
    → (fs : Vec Field Global) × (k ≡ Struct ByName fs)
named_is (Struct ByName fs) h = (fs, refl)
named_is (Struct NoFields fs) h = absurd (false≢true h)
named_is (Struct Tuple fs) h = absurd (false≢true h)
named_is (Struct TupleStruct fs) h = absurd (false≢true h)
named_is _ h = absurd (false≢true h)

plain_root : (shapes : Catalogue) (root : ℕ) (o : Option Shape) → slice_get shapes root ≡ o
    → option_map_or is_plain_struct o false ≡ true → IsPlainRoot shapes root
plain_root shapes root None at h = absurd (false≢true h)
plain_root shapes root (Some s) at h =
    let bare = is_named_struct s.kind && not (is_metadata_container s) in
    let no_proxy = and_parts (bare && is_none s.inner) (is_none s.proxy) h in
    let no_inner = and_parts bare (is_none s.inner) no_proxy.0 in
    let both = and_parts (is_named_struct s.kind) (not (is_metadata_container s)) no_inner.0 in
    let kind = named_is s.kind both.0 in
    record {
      shape = s;
      fields = kind.0;
      is_there = at;
      is_struct = kind.1;
      no_container = not_is (is_metadata_container s) both.1;
      no_inner = none_is s.inner no_inner.1;
      no_proxy = none_is s.proxy no_proxy.1;
    }

module _ (shapes : Catalogue) (root : ℕ) (alike : IsAlikeThroughout shapes root) where
  plain : IsPlainRoot shapes root
  plain = plain_root shapes root (slice_get shapes root) refl alike.0

  -- each shape flattens alike, if there is one at the index
  shape_alike : (id : ℕ) → IsTrue (is_shape_alike shapes id)
  shape_alike id = go (slice_get shapes id) refl
    where
      go : (o : Option Shape) → slice_get shapes id ≡ o → is_kind_alike shapes (kind_of o) ≡ true
      go None at = refl
      go (Some s) at =
          ap (λ (o : Option Shape). is_kind_alike shapes (kind_of o)) (sym at)
          ∙ alike.1 id (slice_get_within shapes id s at)

  -- ---- what a field brings in
  -- the fields of a struct that a role flattens, and those of the variants of an enum, flatten
  -- alike
  abbrev HasAlike : Role → Type 0
  HasAlike regular = ⊤
  HasAlike (block target fs) = IsTrue (are_fields_alike shapes fs)
  HasAlike (alternatives target s vs) = IsTrue (are_variants_alike shapes vs)
  HasAlike (catch_all target) = ⊤
  HasAlike (leaf target) = ⊤

  has_by_kind : (target : Target) (s : Shape) (k : ShapeKind) → IsTrue (is_kind_alike shapes k)
      → HasAlike (role_by_kind target s k)
  has_by_kind target s (Struct kind fs) h = h
  has_by_kind target s (Enum vs) h = h
  has_by_kind target s _ h = tt

  has_alike : (f : Field) → HasAlike (role_of shapes f)
  has_alike f = by_flag f.flattened
    where
      target : Target
      target = target_of shapes f

      by_shape : (o : Option Shape) → slice_get shapes (target_of shapes f).shape ≡ o
          → HasAlike (role_of_target (target_of shapes f) o)
      by_shape None at = tt
      by_shape (Some s) at =
          has_by_kind (target_of shapes f) s s.kind
          (ap (λ (o : Option Shape). is_kind_alike shapes (kind_of o)) (sym at)
          ∙ shape_alike (target_of shapes f).shape)

      by_flag : (b : Bool)
          → HasAlike
          (if b
          then role_of_target (target_of shapes f) (slice_get shapes (target_of shapes f).shape)
          else regular)
      by_flag true = by_shape (slice_get shapes (target_of shapes f).shape) refl
      by_flag false = tt

  -- the fields of a variant's content flatten alike, if its own do
  content_alike : (v : Variant) → IsTrue (are_fields_alike shapes v.fields.items)
      → IsTrue (are_fields_alike shapes (content_of shapes v).fields)
  content_alike v h = go v.fields.items
    where
      by_kind : (k : ShapeKind) → IsTrue (is_kind_alike shapes k)
          → IsTrue (are_fields_alike shapes (content_or v (struct_fields k)).fields)
      by_kind (Struct kind fs) e = e
      by_kind (Enum vs) e = h
      by_kind _ e = h

      by_name : (f : Field) (b : Bool)
          → IsTrue
          (are_fields_alike shapes
          (content_or v
          (if b
          then struct_fields (kind_at shapes (effective shapes f.shape))
          else None)).fields)
      by_name f true =
          by_kind (kind_at shapes (effective shapes f.shape))
          (shape_alike (effective shapes f.shape))
      by_name f false = h

      go : (fs : List Field)
          → IsTrue (are_fields_alike shapes (content_or v (newtype_fields shapes fs)).fields)
      go [] = h
      go (f ∷ []) = by_name f (bytes_eq (string_bytes f.name) (codes "0"))
      go (f ∷ g ∷ fs) = h

  brought_alike : (gs : List Field) (r : Role) → HasAlike r → BringsIn shapes gs r
      → IsTrue (are_fields_alike shapes gs)
  brought_alike gs regular h b = absurd b
  brought_alike gs (block target fs) h b =
      subst (λ (xs : List Field). IsTrue (are_fields_alike shapes xs)) b h
  brought_alike gs (alternatives target s vs) h b =
      let v = b.1.1 in
      let at = any_is_at (AreOfContent shapes gs) vs b.1 in
      let own = all_pass (λ w. are_fields_alike shapes w.fields.items) vs b.1.0 v h at in
      subst (λ (xs : List Field). IsTrue (are_fields_alike shapes xs)) b.1.4 (content_alike v own)
  brought_alike gs (catch_all target) h b = absurd b
  brought_alike gs (leaf target) h b = absurd b

  -- ---- what the walk meets
  met_alike : (n : ℕ) (fs : List Field) → AreMetAt n shapes plain.fields.items fs
      → IsTrue (are_fields_alike shapes fs)
  met_alike zero fs same =
      let kind : kind_at shapes root ≡ Struct ByName plain.fields =
      ap kind_of plain.is_there ∙ plain.is_struct in
      subst (λ (xs : List Field). IsTrue (are_fields_alike shapes xs)) same
      (ap (is_kind_alike shapes) (sym kind) ∙ shape_alike root)
  met_alike (suc n) fs (around, met, brings) =
      brought_alike fs (role_of shapes brings.1) (has_alike brings.1) brings.4

  -- a field that flattens alike
  enum_named : (repr : Repr) (vs : List Variant) → IsTrue (is_enum_alike shapes repr vs)
      → IsTrue (have_named_content shapes repr vs)
  enum_named flattened vs h = h
  enum_named externally_tagged vs h = refl
  enum_named (internally_tagged tag) vs h = h
  enum_named (adjacently_tagged tag content) vs h = refl

  enum_apart : (repr : Repr) (vs : List Variant) → IsTrue (is_enum_alike shapes repr vs)
      → is_adjacent repr ≡ false
  enum_apart flattened vs h = refl
  enum_apart externally_tagged vs h = refl
  enum_apart (internally_tagged tag) vs h = refl
  enum_apart (adjacently_tagged tag content) vs h = absurd (false≢true h)

  role_named : (r : Role) → IsTrue (is_role_alike shapes r) → IsTrue (flattens_named shapes r)
  role_named (alternatives target s vs) h = enum_named (repr_of_shape s) vs h
  role_named _ h = refl

  role_apart : (r : Role) → IsTrue (is_role_alike shapes r) → flattens_adjacent r ≡ false
  role_apart (alternatives target s vs) h = enum_apart (repr_of_shape s) vs h
  role_apart _ h = refl

  pub kept_throughout : IsKeptAlike shapes root
  kept_throughout = record {
    taken = record {
      plain = plain;
      named = λ fs met.
          all_from (λ f. IsTrue (flattens_named shapes (role_of shapes f))) fs
          (λ k f at. role_named (role_of shapes f) (alike_at fs met k f at));
    };
    no_adjacent = λ fs met.
        all_from (λ f. flattens_adjacent (role_of shapes f) ≡ false) fs
        (λ k f at. role_apart (role_of shapes f) (alike_at fs met k f at));
  }
    where
      alike_at : (fs : List Field) → AreMet shapes plain.fields.items fs → (k : ℕ) (f : Field)
          → slice_get fs k ≡ Some f → IsTrue (is_field_alike shapes f)
      alike_at fs met k f at =
          all_pass (is_field_alike shapes) fs k f (met_alike met.0 fs met.1) at
