-- What the walk of one choice emits, one thing after another.
use Rattle.std.specs.Prelude.{List, [], ◌∷◌, ◌++◌, false, string_bytes, true, ⊤}
use Rattle.facet_solver_shape.specs.declared.shape.Shape.{Shape}
use Rattle.facet_solver_shape.specs.declared.shape.Field.{Field}
use Rattle.facet_solver_shape.specs.declared.shape.Variant.{Variant}
use Rattle.facet_solver_shape.specs.Names.{Name, effective_name}
use Rattle.facet_solver_shape.specs.Fields.{FieldView}
use Rattle.facet_solver_shape.specs.Resolved.{Selection}
use Rattle.facet_solver_shape.specs.declared.role.Target.{Target}
use Rattle.facet_solver.specs.build.Build.{Build, repr_for}
use Rattle.facet_solver_shape.specs.Roles.{is_required, Role, regular, block, alternatives, catch_all, leaf}
use Rattle.facet_solver.specs.build.Place.{Path, Chosen, field_path, variant_path}
use Rattle.facet_solver_shape.specs.Representation.{Repr, flattened, externally_tagged, internally_tagged, adjacently_tagged}
use Rattle.facet_solver.specs.build.Format.{field_category, selector_category, catch_all_category}
use Rattle.facet_solver.specs.build.Nested.{KeyPaths, no_paths, named, nested_paths, content_paths}

-- a field, key paths, a selection or a catch-all
pub data Emission : Type 0 where
  a_field : FieldView → Emission
  some_key_paths : KeyPaths → Emission
  a_selection : Selection → Emission
  a_catch_all : FieldView → Emission

-- a regular field, with its own shape
unfoldable pub regular_field : Build → Field → Path → FieldView
regular_field build f place = record {
  name = effective_name f;
  path = field_path place f;
  is_required = is_required build.catalogue f;
  shape = f.shape;
  field = f;
  category = field_category build.format f.dom;
}

-- a flattened map or dynamic value: never required
unfoldable pub catch_all_field : Build → Field → Target → Path → FieldView
catch_all_field build f target place = record {
  name = effective_name f;
  path = field_path place f;
  is_required = false;
  shape = target.shape;
  field = f;
  category = catch_all_category build.format f.dom;
}

-- any other flattened field, with its target as its shape; whether it is required goes by its own
unfoldable pub leaf_field : Build → Field → Target → Path → FieldView
leaf_field build f target place = record {
  name = effective_name f;
  path = field_path place f;
  is_required = is_required build.catalogue f;
  shape = target.shape;
  field = f;
  category = field_category build.format f.dom;
}

-- the field by which a reader of an enum learns the variant: always required
unfoldable pub selector_field : Build → Name → Chosen → Path → FieldView
selector_field build name chosen place = record {
  name = name;
  path = variant_path place chosen;
  is_required = true;
  shape = chosen.target.shape;
  field = chosen.field;
  category = selector_category build.format;
}

-- a field, and the key paths of its name and behind it
unfoldable pub field_and_paths : FieldView → KeyPaths → List Emission
field_and_paths f paths = a_field f ∷ some_key_paths (named f.name paths) ∷ []

-- a regular field emits itself, and the key paths under its shape behind its name
unfoldable pub emit_regular : Build → Field → Path → List Emission
emit_regular build f place =
    field_and_paths (regular_field build f place) (nested_paths build.catalogue f.shape)

-- a flattened map or dynamic value emits a catch-all
unfoldable pub emit_catch_all : Build → Field → Target → Path → List Emission
emit_catch_all build f target place = a_catch_all (catch_all_field build f target place) ∷ []

-- any other flattened field emits itself
unfoldable pub emit_leaf : Build → Field → Target → Path → List Emission
emit_leaf build f target place = field_and_paths (leaf_field build f target place) no_paths

-- a role that takes no index and has nothing below it
abbrev pub IsPlain : Role → Type 0
IsPlain regular = ⊤
IsPlain (block target fs) = ⊥
IsPlain (alternatives target s vs) = ⊥
IsPlain (catch_all target) = ⊤
IsPlain (leaf target) = ⊤

-- what a field emits by its role, where it takes no index and has nothing below it
unfoldable pub emit_plain : Build → Field → Path → Role → List Emission
emit_plain build f place regular = emit_regular build f place
emit_plain build f place (block target fs) = []
emit_plain build f place (alternatives target s vs) = []
emit_plain build f place (catch_all target) = emit_catch_all build f target place
emit_plain build f place (leaf target) = emit_leaf build f target place

-- the selector of a variant and its key paths, by a representation
unfoldable pub emit_selector_by : Repr → Build → Chosen → Path → List Emission
emit_selector_by flattened build chosen place = []
emit_selector_by externally_tagged build chosen place =
    field_and_paths (selector_field build (string_bytes chosen.variant.name) chosen place)
    (content_paths build.catalogue chosen.variant)
emit_selector_by (internally_tagged tag) build chosen place =
    field_and_paths (selector_field build tag chosen place) no_paths
emit_selector_by (adjacently_tagged tag content) build chosen place =
    field_and_paths (selector_field build tag chosen place) no_paths
    ++ some_key_paths (named content (content_paths build.catalogue chosen.variant)) ∷ []

-- the selector of a variant and its key paths
abbrev pub emit_selector : Build → Chosen → Path → List Emission
emit_selector build chosen place = emit_selector_by (repr_for build chosen.shape) build chosen place

-- the selection of a variant
abbrev pub selection_of : Shape → Variant → Path → Emission
selection_of s v p = a_selection record {
  path = p;
  enum_name = string_bytes s.type_identifier;
  variant_name = string_bytes v.name;
}

-- what a flattened enum emits before the content of the chosen variant: the selection and the
-- selector
unfoldable pub emit_variant : Build → Chosen → Path → List Emission
emit_variant build chosen place =
    selection_of chosen.shape chosen.variant (field_path place chosen.field)
    ∷ emit_selector build chosen place
