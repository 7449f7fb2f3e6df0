-- What a field is to the fields that it stands among.
use Rattle.std.specs.Prelude.{ℕ, Bool, true, false, List, Option, Some, None, slice_get, not, ◌&&◌, if◌then◌else◌}
use Rattle.facet_solver_shape.specs.declared.shape.Shape.{Shape}
use Rattle.facet_solver_shape.specs.declared.shape.ShapeKind.{ShapeKind}
use Rattle.facet_solver_shape.specs.declared.shape.ShapeKind.TheVariants.{Option as OptionOf, Struct, Enum, Map, DynamicValue}
use Rattle.facet_solver_shape.specs.declared.shape.Field.{Field}
use Rattle.facet_solver_shape.specs.declared.shape.Variant.{Variant}
use Rattle.facet_solver_shape.specs.declared.role.Role as code
use Rattle.facet_solver_shape.specs.declared.role.Role.TheVariants.{Regular, Block, Alternatives, CatchAll, Leaf}
use Rattle.facet_solver_shape.specs.declared.role.Target.{Target}
use Rattle.facet_solver_shape.specs.Catalogues.{Catalogue, kind_at}

-- whether a kind is an option
abbrev pub has_inside : ShapeKind → Bool
has_inside (OptionOf inside) = true
has_inside _ = false

-- whether the shape at an index is an option
abbrev pub is_option : Catalogue → ℕ → Bool
is_option cat id = has_inside (kind_at cat id)

-- whether a field that stands by itself in a document is required: it has no default, and its shape
-- is no option
abbrev pub is_required : Catalogue → Field → Bool
is_required cat f = not f.has_default && not (is_option cat f.shape)

-- the target of a field whose shape is of a kind: the inside of an option, else the shape itself
abbrev pub target_by_kind : ℕ → ShapeKind → Target
target_by_kind id (OptionOf inside) = record { shape = inside; optional = true }
target_by_kind id _ = record { shape = id; optional = false }

-- the target of a flattened field
abbrev pub target_of : Catalogue → Field → Target
target_of cat f = target_by_kind f.shape (kind_at cat f.shape)

-- regular; or flattened: a block of fields, alternatives of an enum, a catch-all for what no field
-- takes, or a leaf
pub data Role : Type 0 where
  regular : Role
  block : Target → List Field → Role
  alternatives : Target → Shape → List Variant → Role
  catch_all : Target → Role
  leaf : Target → Role

-- a flattened field's role by the kind of its target
abbrev pub role_by_kind : Target → Shape → ShapeKind → Role
role_by_kind target s (Struct kind fields) = block target fields.items
role_by_kind target s (Enum variants) = alternatives target s variants.items
role_by_kind target s (Map key value) = catch_all target
role_by_kind target s DynamicValue = catch_all target
role_by_kind target s _ = leaf target

-- a flattened field's role by the shape of its target
abbrev pub role_of_target : Target → Option Shape → Role
role_of_target target None = leaf target
role_of_target target (Some s) = role_by_kind target s s.kind

-- a field's role
abbrev pub role_of : Catalogue → Field → Role
role_of cat f =
    if f.flattened then role_of_target (target_of cat f) (slice_get cat (target_of cat f).shape)
    else regular

-- a role, wherever its fields and variants lie
abbrev pub role_view : code.Role → Role
role_view Regular = regular
role_view (Block target fs) = block target fs.now
role_view (Alternatives target s vs) = alternatives target s.now vs.now
role_view (CatchAll target) = catch_all target
role_view (Leaf target) = leaf target

-- whether a field of a role may be absent: an option of a struct or an enum
abbrev pub may_be_absent : Role → Bool
may_be_absent regular = false
may_be_absent (block target fs) = target.optional
may_be_absent (alternatives target s vs) = target.optional
may_be_absent (catch_all target) = false
may_be_absent (leaf target) = false
