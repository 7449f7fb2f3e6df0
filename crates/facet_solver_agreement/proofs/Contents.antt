-- What fields and the content of variants are to a reader and to a solver.
use Rattle.std.proofs.Common.{◌≡◌, ◌⊎◌, inl, inr, refl, sym, ap, ◌∙◌, ℕ, zero, suc, Bool, true}
use Rattle.std.proofs.Common.{false, List, [], ◌∷◌, Option, Some, None, slice_get, length}
use Rattle.std.proofs.Common.{string_bytes, Vec}
use Rattle.std.specs.Prelude.{⊤, IsTrue, if◌then◌else◌, codes, option_and_then}
use Rattle.std.proofs.lemmas.Bool.{false≢true}
use Rattle.std.specs.Option.{option_map_or, option_or}
use Rattle.std.specs.Str.{bytes_eq}
use Rattle.std.specs.declared.alloc.Global.{Global}
use Rattle.facet_solver_shape.specs.declared.role.Target.{Target}
use Rattle.facet_solver_shape.specs.declared.shape.Field.{Field}
use Rattle.facet_solver_shape.specs.declared.shape.Shape.{Shape}
use Rattle.facet_solver_shape.specs.declared.shape.ShapeKind.{ShapeKind}
use Rattle.facet_solver_shape.specs.declared.shape.ShapeKind.TheVariants.{Struct, Enum}
use Rattle.facet_solver_shape.specs.declared.shape.StructKind.{StructKind}
use Rattle.facet_solver_shape.specs.declared.shape.StructKind.TheVariants.{Unit as NoFields}
use Rattle.facet_solver_shape.specs.declared.shape.StructKind.TheVariants.{Struct as ByName, Tuple}
use Rattle.facet_solver_shape.specs.declared.shape.StructKind.TheVariants.{TupleStruct}
use Rattle.facet_solver_shape.specs.declared.shape.Variant.{Variant}
use Rattle.facet_solver_shape.specs.Catalogues.{Catalogue, kind_of, kind_at}
use Rattle.facet_solver_shape.specs.EffectiveShapes.{effective, effective_within, go_on}
use Rattle.facet_solver_shape.specs.EffectiveShapes.{next_inside}
use Rattle.facet_solver_shape.specs.Pointers.{pointee_of_kind}
use Rattle.facet_solver_shape.specs.Roles.{Role, regular, block, alternatives, catch_all, leaf}
use Rattle.facet_solver_shape.specs.Roles.{role_by_kind, role_of, role_of_target, target_of}
use Rattle.facet_solver.specs.build.Content.{content_of, content_or, newtype_fields, struct_fields}
use Rattle.facet_solver_reader.specs.Content.{newtype_shape}
use Rattle.facet_solver_reader.specs.Ends.{last_of, last_within, next_of}
use Rattle.facet_solver_reader.specs.Parts.{Part, of_struct}
use Rattle.facet_solver_reader.specs.Types.{one_of, parts_of, parts_of_content}
use Rattle.facet_solver_reader.specs.Types.{parts_of_content_kind, parts_of_fields}
use Rattle.facet_solver_reader.specs.Types.{parts_of_newtype, parts_of_kind, parts_of_struct}
use Rattle.facet_solver_reader.specs.Types.{variants_at, variants_of_kind}
use Rattle.facet_solver_agreement.specs.Alike.{are_named, has_named_content, is_named_struct}
use Rattle.facet_solver_agreement.specs.Alike.{stands_for_named_struct}

module _ (shapes : Catalogue) where
  -- ---- roles
  -- what a role says of the shape at its target
  abbrev pub Stands : Role → Type 0
  Stands regular = ⊤
  Stands (block target fs) =
      parts_of_struct shapes (kind_at shapes target.shape) ≡ Some (parts_of_fields shapes fs)
  Stands (alternatives target s vs) =
      (slice_get shapes target.shape ≡ Some s) × (variants_at shapes target.shape ≡ vs)
  Stands (catch_all target) = ⊤
  Stands (leaf target) = ⊤

  stands_by_kind : (target : Target) (s : Shape) → slice_get shapes target.shape ≡ Some s
      → (k : ShapeKind) → kind_at shapes target.shape ≡ k → Stands (role_by_kind target s k)
  stands_by_kind target s at (Struct kind fs) e = ap (parts_of_struct shapes) e
  stands_by_kind target s at (Enum vs) e = (at, ap variants_of_kind e)
  stands_by_kind target s at _ e = tt

  stands_by_target : (target : Target) (o : Option Shape) → slice_get shapes target.shape ≡ o
      → Stands (role_of_target target o)
  stands_by_target target None at = tt
  stands_by_target target (Some s) at = stands_by_kind target s at s.kind (ap kind_of at)

  -- the role of a field says what is true
  pub stands : (f : Field) → Stands (role_of shapes f)
  stands f = by_flag f.flattened
    where
      by_flag : (b : Bool)
          → Stands
          (if b
          then role_of_target (target_of shapes f) (slice_get shapes (target_of shapes f).shape)
          else regular)
      by_flag true =
          stands_by_target (target_of shapes f) (slice_get shapes (target_of shapes f).shape) refl
      by_flag false = tt

  -- ---- ends
  -- where the effective shape is a struct, no pointer leads on from it
  module _ (kind : StructKind) (fs : Vec Field Global) where
    -- the two ways from an index, so many steps at the most, end at one
    abbrev EndAlike : ℕ → ℕ → Type 0
    EndAlike n id =
        kind_at shapes (effective_within n shapes id) ≡ Struct kind fs
        → last_within shapes n id ≡ effective_within n shapes id

    module _ (n : ℕ) (later : (next : ℕ) → EndAlike n next) (id : ℕ) where
      by_next : (s : Shape) → slice_get shapes id ≡ Some s → (q : Option ℕ)
          → kind_at shapes (go_on (effective_within n shapes) id q) ≡ Struct kind fs
          → option_map_or (last_within shapes n) (option_or q (pointee_of_kind s.kind)) id
          ≡ go_on (effective_within n shapes) id q
      by_next s at (Some next) e = later next e
      by_next s at None e =
          ap (λ (k : ShapeKind). option_map_or (last_within shapes n) (pointee_of_kind k) id)
          (sym (ap kind_of at) ∙ e)

      by_shape : (o : Option Shape) → slice_get shapes id ≡ o
          → kind_at shapes (go_on (effective_within n shapes) id (next_inside o)) ≡ Struct kind fs
          → option_map_or (last_within shapes n) (option_and_then next_of o) id
          ≡ go_on (effective_within n shapes) id (next_inside o)
      by_shape None at e = refl
      by_shape (Some s) at e = by_next s at (option_or s.inner s.proxy) e

    last_effective : (n : ℕ) (id : ℕ) → EndAlike n id
    last_effective zero id e = refl
    last_effective (suc n) id e =
        by_shape n (λ next h. last_effective n next h) id (slice_get shapes id) refl e

  -- ---- contents
  -- the parts of content and its fields: they are the parts of the fields, or those of the struct
  -- behind a field `0`
  abbrev pub AreParts : Option (List Part) → List Field → Type 0
  AreParts parts fs =
      (parts ≡ Some (parts_of_fields shapes fs))
      ⊎ ((id : ℕ) × (parts ≡ Some (one_of (of_struct id ∷ []) ∷ []))
      × (parts_of shapes (of_struct id) ≡ Some (parts_of_fields shapes fs)))

  named_parts : (kind : StructKind) (f : Field) (fs : List Field) → IsTrue (are_named kind (f ∷ fs))
      → parts_of_content_kind shapes kind (f ∷ fs) ≡ Some (parts_of_fields shapes (f ∷ fs))
  named_parts NoFields f fs h = refl
  named_parts ByName f fs h = refl
  named_parts Tuple f fs h = absurd (false≢true h)
  named_parts TupleStruct f fs h = absurd (false≢true h)

  -- the parts and the fields of named content
  pub content_parts : (v : Variant) → IsTrue (has_named_content shapes v)
      → AreParts (parts_of_content shapes v) (content_of shapes v).fields
  content_parts v h = go v.fields.items refl h
    where
      own : (fs : List Field) → v.fields.items ≡ fs
          → Some (parts_of_fields shapes fs) ≡ Some (parts_of_fields shapes v.fields.items)
      own fs same = ap (λ gs. Some (parts_of_fields shapes gs)) (sym same)

      by_kind : (id : ℕ) (k : ShapeKind) → kind_at shapes (effective shapes id) ≡ k
          → IsTrue (is_named_struct k)
          → AreParts (parts_of_newtype shapes id) (content_or v (struct_fields k)).fields
      by_kind id (Struct ByName fs) e h =
          let last = last_of shapes id in
          let same : last ≡ effective shapes id = last_effective ByName fs (length shapes) id e in
          let is : kind_at shapes last ≡ Struct ByName fs = ap (kind_at shapes) same ∙ e in
          inr (last, ap (parts_of_kind last) is, ap (parts_of_struct shapes) is)
      by_kind id (Struct NoFields fs) e h = absurd (false≢true h)
      by_kind id (Struct Tuple fs) e h = absurd (false≢true h)
      by_kind id (Struct TupleStruct fs) e h = absurd (false≢true h)
      by_kind id _ e h = absurd (false≢true h)

      by_name : (f : Field) (b : Bool) → v.fields.items ≡ f ∷ []
          → IsTrue
          (option_map_or (stands_for_named_struct shapes) (if b then Some f.shape else None)
          (are_named v.kind (f ∷ [])))
          → AreParts
          (option_map_or (parts_of_newtype shapes) (if b then Some f.shape else None)
          (parts_of_content_kind shapes v.kind (f ∷ [])))
          (content_or v
          (if b then struct_fields (kind_at shapes (effective shapes f.shape)) else None)).fields
      by_name f true same h =
          by_kind f.shape (kind_at shapes (effective shapes f.shape)) refl h
      by_name f false same h = inl (named_parts v.kind f [] h ∙ own (f ∷ []) same)

      go : (fs : List Field) → v.fields.items ≡ fs
          → IsTrue
          (option_map_or (stands_for_named_struct shapes) (newtype_shape fs)
          (are_named v.kind fs))
          → AreParts
          (option_map_or (parts_of_newtype shapes) (newtype_shape fs)
          (parts_of_content_kind shapes v.kind fs))
          (content_or v (newtype_fields shapes fs)).fields
      go [] same h = inl (own [] same)
      go (f ∷ []) same h = by_name f (bytes_eq (string_bytes f.name) (codes "0")) same h
      go (f ∷ g ∷ fs) same h = inl (named_parts v.kind f (g ∷ fs) h ∙ own (f ∷ g ∷ fs) same)
