-- What tables of nested key paths serve: their entries are the sets that walks emit, and walks ask
-- for no others.
use Rattle.std.proofs.Common.{◌≡◌, ◌<◌, ℕ, List, [], ◌∷◌, Option, Some, None, Bool, true, false, refl, sym, ap, ◌∙◌, subst, slice_get, length, get_or}
use Rattle.std.specs.Prelude.{All, IfSome, Vec, nat_lt, ⊤, if◌then◌else◌}
use Rattle.std.specs.Option.{option_map}
use Rattle.std.specs.declared.alloc.Global.{Global}
use Rattle.std.proofs.lemmas.Option.{get_or_from_slice_get, slice_get-map, slice_get_within}
use Rattle.facet_solver_shape.specs.Catalogues.{NamesEarlier}
use Rattle.facet_solver_shape.specs.Names.{Name}
use Rattle.facet_solver_shape.specs.Resolved.{Resolved}
use Rattle.facet_solver_shape.specs.declared.shape.Field.{Field}
use Rattle.facet_solver_shape.specs.declared.shape.Shape.{Shape}
use Rattle.facet_solver_shape.specs.declared.shape.ShapeKind.{ShapeKind}
use Rattle.facet_solver_shape.specs.declared.shape.ShapeKind.TheVariants.{Enum, Struct}
use Rattle.facet_solver_shape.specs.declared.shape.Variant.{Variant}
use Rattle.facet_solver.specs.declared.build.nested.by_name.FieldsByName.{FieldsByName}
use Rattle.facet_solver.specs.declared.build.nested.table.Entry.{Entry}
use Rattle.facet_solver.specs.declared.build.nested.tables.NestedTables.{NestedTables}
use Rattle.facet_solver.specs.declared.build.place.Chosen.{Chosen}
use Rattle.facet_solver_shape.specs.declared.role.Target.{Target}
use Rattle.facet_solver.specs.build.Build.{Build, Catalogue, kind_at, kind_of, repr_for}
use Rattle.facet_solver.specs.build.Content.{content_of, content_or, newtype_fields, struct_fields}
use Rattle.facet_solver.specs.build.Nested.{Entered, KeyPaths, content_paths, every_kind, nested_paths, no_paths, structs_alone, under_shape, under_variant, with_paths_behind}
use Rattle.facet_solver.specs.build.NestedTable.{AllLeadTo, AreEntries, EntriesStandFor, HasVariants, IsMarked, LeadEarlier, LeadTo, is_filled, paths_by_name, under_at, variant_at, variants_at, variants_of}
use Rattle.facet_solver.specs.build.Reached.{ContentReachedBy, FieldReached, IsChosen, KindReached, Reach, RoleReached, ServesEnum, ServesField, ServesFields, ServesVariant, ShapeReached, VariantReached}
use Rattle.facet_solver_shape.specs.Representation.{is_walked}
use Rattle.facet_solver_shape.specs.Roles.{Role, alternatives, block, catch_all, leaf, regular, role_by_kind, role_of, role_of_target, target_of}
use Rattle.facet_solver.proofs.Content.{newtype_at}
use Rattle.facet_solver.proofs.Nested.{under_shape-step}
use Rattle.facet_solver.proofs.NestedFields.{all_lead_also, leads_also, second_of}

-- ---- what an entry has
-- entries stand for what is under the shapes at their indices
pub entries_stand : (entered : Entered) (cat : Catalogue) (entries : List Entry) → NamesEarlier cat → AreEntries entered cat entries → EntriesStandFor (under_shape entered cat) entries
entries_stand entered cat entries checked are id fields at = are.under id fields at ∙ sym (under_shape-step entered cat checked id)

-- and lead to shapes that have one
pub under_filled : (entries : List Entry) (id : ℕ) (fields : FieldsByName) → LeadEarlier entries → under_at entries id ≡ Some fields → LeadTo (is_filled entries) fields
under_filled entries id fields leads at = leads_also _ (is_filled entries) (λ t h. second_of (nat_lt t id) (is_filled entries t) h) fields (leads.under id fields at)

pub variants_filled : (entries : List Entry) (id : ℕ) (each : Vec FieldsByName Global) → LeadEarlier entries → variants_at entries id ≡ Some each → AllLeadTo (is_filled entries) each
variants_filled entries id each leads at = all_lead_also _ (is_filled entries) (λ t h. second_of (nat_lt t id) (is_filled entries t) h) each (leads.variants id each at)

-- the key paths under a regular field's shape, where that is a struct
pub regular_entry : (cat : Catalogue) (entries : List Entry) (id : ℕ) (fields : FieldsByName) → NamesEarlier cat → AreEntries structs_alone cat entries → under_at entries id ≡ Some fields → structs_alone (kind_at cat id) ≡ true
    → paths_by_name (under_shape structs_alone cat) fields ≡ nested_paths cat id
unfolding nested_paths
regular_entry cat entries id fields checked are at is_struct =
    entries_stand structs_alone cat entries checked are id fields at
    ∙ sym (chosen (structs_alone (kind_at cat id)) is_struct)
  where
    chosen : (b : Bool) → b ≡ true → (if b then under_shape structs_alone cat id else no_paths) ≡ under_shape structs_alone cat id
    chosen true e = refl
    chosen false e = absurd (cc)

-- no key path, where it is none
pub regular_nothing : (cat : Catalogue) (id : ℕ) → structs_alone (kind_at cat id) ≡ false → nested_paths cat id ≡ no_paths
unfolding nested_paths
regular_nothing cat id e = nothing (structs_alone (kind_at cat id)) e
  where
    nothing : (b : Bool) → b ≡ false → (if b then under_shape structs_alone cat id else no_paths) ≡ no_paths
    nothing true e = absurd (cc)
    nothing false e = refl

found_item : {X Y : Type 0} (f : X → Y) (o : Option X) (y : Y) → option_map f o ≡ Some y → (x : X) × (o ≡ Some x) × (f x ≡ y)
found_item f None y e = absurd (cc)
found_item f (Some x) y e = (x, refl, cc)

-- the key paths under the content of a variant, at the variant's index
pub variant_entry : (cat : Catalogue) (entries : List Entry) (id : ℕ) (each : Vec FieldsByName Global) → AreEntries every_kind cat entries → variants_at entries id ≡ Some each
    → (i : ℕ) (v : Variant) → variant_at cat id i ≡ Some v
    → (fields : FieldsByName) × (slice_get each.items i ≡ Some fields) × (paths_by_name (under_shape every_kind cat) fields ≡ content_paths cat v)
unfolding content_paths
variant_entry cat entries id each are at i v found =
    let stands = paths_by_name (under_shape every_kind cat) in
    found_item stands (slice_get each.items i) (under_variant every_kind cat v)
    (sym (slice_get-map stands each.items i)
    ∙ ap (λ (ps : List KeyPaths). slice_get ps i) (are.variants id each at)
    ∙ slice_get-map (under_variant every_kind cat) (variants_of (kind_at cat id)) i
    ∙ ap (option_map (under_variant every_kind cat)) found)

-- a chosen variant stands at its index, so the key paths added are those under its content
pub chosen_paths : (cat : Catalogue) (chosen : Chosen) (name : Name) (old new : Resolved) → IsChosen cat chosen
    → IfSome (variant_at cat chosen.target.shape chosen.index) (λ v. new ≡ with_paths_behind old (name ∷ []) (content_paths cat v))
    → new ≡ with_paths_behind old (name ∷ []) (content_paths cat chosen.variant.now)
chosen_paths cat chosen name old new is added =
    subst (λ (o : Option Variant). IfSome o (λ v. new ≡ with_paths_behind old (name ∷ []) (content_paths cat v)))
    (ap (λ (k : ShapeKind). slice_get (variants_of k) chosen.index) (ap kind_of is.shape ∙ is.kind) ∙ is.variant) added

-- ---- what a walk asks for is served where it goes
-- the fields of a struct that is marked
struct_reached : (m : Reach) (apart : Type 0) (build : Build) (o : Option Shape) (fs : List Field) → ShapeReached m apart build o → struct_fields (kind_of o) ≡ Some fs → All (FieldReached m build.catalogue) fs
struct_reached m apart build None fs h e = absurd (cc)
struct_reached m apart build (Some s) fs h e = of_kind (is_walked (repr_for build s)) s.kind h e
  where
    of_kind : (w : Bool) (k : ShapeKind) → KindReached m build.catalogue apart w k → struct_fields k ≡ Some fs → All (FieldReached m build.catalogue) fs
    of_kind w (Struct kind gs) h e = let same : gs.items ≡ fs = cc in subst (All (FieldReached m build.catalogue)) same h
    of_kind w (Enum vs) h e = absurd (cc)
    of_kind w _ h e = absurd (cc)

-- what a role is by the shape of its target
abbrev pub IsRoleOfTarget : Catalogue → Role → Type 0
IsRoleOfTarget cat regular = ⊤
IsRoleOfTarget cat (block target fs) = struct_fields (kind_at cat target.shape) ≡ Some fs
IsRoleOfTarget cat (alternatives target s vs) =
    (slice_get cat target.shape ≡ Some s) × ((ws : Vec Variant Global) × ((s.kind ≡ Enum ws) × (ws.items ≡ vs)))
IsRoleOfTarget cat (catch_all target) = ⊤
IsRoleOfTarget cat (leaf target) = ⊤

module _ (cat : Catalogue) where
  by_kind : (target : Target) (s : Shape) (k : ShapeKind) → slice_get cat target.shape ≡ Some s → s.kind ≡ k → IsRoleOfTarget cat (role_by_kind target s k)
  by_kind target s (Struct kind fs) at is = ap (λ (o : Option Shape). struct_fields (kind_of o)) at ∙ ap struct_fields is
  by_kind target s (Enum vs) at is = (at, (vs, (is, refl)))
  by_kind target s _ at is = tt

  by_target : (target : Target) (o : Option Shape) → slice_get cat target.shape ≡ o → IsRoleOfTarget cat (role_of_target target o)
  by_target target None at = tt
  by_target target (Some s) at = by_kind target s s.kind at refl

  by_flag : (b : Bool) (r : Role) → IsRoleOfTarget cat r → IsRoleOfTarget cat (if b then r else regular)
  by_flag true r h = h
  by_flag false r h = tt

  -- each field's role is
  pub role_of-target : (f : Field) (r : Role) → r ≡ role_of cat f → IsRoleOfTarget cat r
  role_of-target f r e =
      subst (IsRoleOfTarget cat) (sym e) (by_flag f.flattened (role_of_target (target_of cat f) (slice_get cat (target_of cat f).shape)) (by_target (target_of cat f) (slice_get cat (target_of cat f).shape) refl))

module _ (build : Build) (tables : NestedTables) where
  -- one of some fields
  pub field_served : (fs : List Field) (i : ℕ) (f : Field) → i < length fs → f ≡ get_or fs i f → ServesFields build tables fs → ServesField build tables f
  field_served fs i f within is serves = record {
    marks = serves.marks;
    follows = serves.follows;
    reached = subst (FieldReached serves.marks build.catalogue) (sym is) (serves.reached i f within);
  }

  module _ (f : Field) (serves : ServesField build tables f) where
    role_served : (r : Role) → r ≡ role_of build.catalogue f → RoleReached serves.marks build.catalogue f.shape r
    role_served r e = subst (RoleReached serves.marks build.catalogue f.shape) (sym e) serves.reached

    -- the fields of a flattened struct
    pub block_served : (target : Target) (fs : List Field) → block target fs ≡ role_of build.catalogue f → ServesFields build tables fs
    block_served target fs e = record {
      marks = serves.marks;
      follows = serves.follows;
      reached = struct_reached serves.marks (HasVariants tables.contents.by_index.items target.shape) build (slice_get build.catalogue target.shape) fs
          (serves.follows.closed target.shape (role_served (block target fs) e)) (role_of-target build.catalogue f (block target fs) e);
    }

    -- a flattened enum
    pub enum_served : (target : Target) (s : Shape) (vs : List Variant) → alternatives target s vs ≡ role_of build.catalogue f → ServesEnum build tables target.shape
    enum_served target s vs e = record { marks = serves.marks; follows = serves.follows; reached = role_served (alternatives target s vs) e }

  -- what a variant leads to, by its enum's kind
  variant_reached : (m : Reach) (apart : Type 0) (k : ShapeKind) (w : Bool) (vs : Vec Variant Global) (i : ℕ) (v : Variant)
      → KindReached m build.catalogue apart w k → k ≡ Enum vs → w ≡ true → slice_get vs.items i ≡ Some v → VariantReached m build.catalogue v
  variant_reached m apart k w vs i v h is walked found =
      let all : All (VariantReached m build.catalogue) vs.items = subst (λ (k : ShapeKind). KindReached m build.catalogue apart true k) is (subst (λ (w : Bool). KindReached m build.catalogue apart w k) walked h) in
      subst (VariantReached m build.catalogue) (get_or_from_slice_get vs.items i v v found) (all i v (slice_get_within vs.items i v found))

  module _ (chosen : Chosen) (is : IsChosen build.catalogue chosen) (serves : ServesEnum build tables chosen.target.shape) where
    at_enum : KindReached serves.marks build.catalogue (HasVariants tables.contents.by_index.items chosen.target.shape) (is_walked (repr_for build chosen.shape.now)) chosen.shape.now.kind
    at_enum = subst (ShapeReached serves.marks (HasVariants tables.contents.by_index.items chosen.target.shape) build) is.shape (serves.follows.closed chosen.target.shape serves.reached)

    -- the content of a variant, where it is walked
    pub variant_served : is_walked (repr_for build chosen.shape.now) ≡ true → ServesVariant build tables chosen.variant.now
    variant_served walked = record {
      marks = serves.marks;
      follows = serves.follows;
      reached = variant_reached serves.marks (HasVariants tables.contents.by_index.items chosen.target.shape) chosen.shape.now.kind (is_walked (repr_for build chosen.shape.now)) is.variants chosen.index chosen.variant.now
          at_enum is.kind walked is.variant;
    }

  -- the fields of a variant's content
  module _ (v : Variant) (serves : ServesVariant build tables v) where
    content_reached : (o : Option (List Field)) → newtype_fields build.catalogue v.fields.items ≡ o → ContentReachedBy serves.marks build.catalogue v.fields.items o
    content_reached o e = subst (ContentReachedBy serves.marks build.catalogue v.fields.items) e serves.reached

    pub newtype_served : (fs : List Field) → Some fs ≡ newtype_fields build.catalogue v.fields.items → ServesFields build tables fs
    newtype_served fs e =
        let at = newtype_at build.catalogue v.fields.items fs (sym e) in
        let marked : IsMarked serves.marks.walked at.0 =
        subst (λ (o : Option ℕ). IfSome o (IsMarked serves.marks.walked)) at.1 (content_reached (Some fs) (sym e)) in
        record {
          marks = serves.marks;
          follows = serves.follows;
          reached = struct_reached serves.marks (HasVariants tables.contents.by_index.items at.0) build (slice_get build.catalogue at.0) fs (serves.follows.closed at.0 marked) at.2;
        }

    pub own_served : None ≡ newtype_fields build.catalogue v.fields.items → ServesFields build tables v.fields.items
    own_served e = record { marks = serves.marks; follows = serves.follows; reached = content_reached None (sym e) }

    pub content_served : ServesFields build tables (content_of build.catalogue v).fields
    content_served = go (newtype_fields build.catalogue v.fields.items) refl
      where
        go : (o : Option (List Field)) → newtype_fields build.catalogue v.fields.items ≡ o → ServesFields build tables (content_or v o).fields
        go None e = own_served (sym e)
        go (Some fs) e = newtype_served fs (sym e)
