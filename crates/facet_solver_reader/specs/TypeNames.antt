-- What errors call types and variants.
use Rattle.std.specs.Prelude.{◌≡◌, ℕ, Option, None, option_map, string_bytes}
use Rattle.facet_solver_shape.specs.declared.shape.ShapeKind.{ShapeKind}
use Rattle.facet_solver_shape.specs.declared.shape.ShapeKind.TheVariants.{Scalar}
use Rattle.facet_solver_shape.specs.Catalogues.{Catalogue, kind_at}
use Rattle.facet_solver_shape.specs.Names.{Name}
use Rattle.facet_solver_reader.specs.declared.read_error.Branch.{Branch}
use Rattle.facet_solver_reader.specs.declared.read_error.TypeName.{TypeName}
use Rattle.facet_solver_reader.specs.Ends.{last_of}
use Rattle.facet_solver_reader.specs.FieldPlaces.{shape_name}
use Rattle.facet_solver_reader.specs.Parts.{ListId, Target, of_shape, of_content, of_tag}
use Rattle.facet_solver_reader.specs.Parts.{of_struct, of_enum, of_joined, of_branch, of_fields}
use Rattle.facet_solver_reader.specs.Rules.{Content, Rules, as_shape}
use Rattle.facet_solver_reader.specs.Types.{variant_at}
use Rattle.facet_solver_reader.specs.Views.{list_view}

-- the name of a type, and of a variant of it
pub record Called : Type 0 where
  pub name : Name
  pub variant : Option Name

-- the names that are told
abbrev pub called_view : TypeName → Called
called_view n = record { name = n.name.now; variant = option_map (λ x. x.now) n.variant }

-- the name of the shape at an index, and of no variant
abbrev pub whole_name : Catalogue → ℕ → Called
whole_name shapes id = record { name = shape_name shapes id; variant = None }

-- the name of the shape at an index, and of a variant of it
abbrev pub full_name : Catalogue → ℕ → ℕ → Called
full_name shapes id k =
    record {
      name = shape_name shapes id;
      variant = option_map (λ v. string_bytes v.name) (variant_at shapes id k);
    }

-- by the kind of a shape: the name of a basic type, or else another
abbrev pub basic_by_kind : ShapeKind → Called → Called → Called
basic_by_kind (Scalar t) basic other = basic
basic_by_kind _ basic other = other

-- the name of the basic type to which the shape at an index leads, if it leads to one, or else
-- another
abbrev pub basic_name : Catalogue → ℕ → Called → Called
basic_name shapes id other =
    basic_by_kind (kind_at shapes (last_of shapes id)) (whole_name shapes (last_of shapes id)) other

-- the name of the content of a variant: of the basic type that it is, or else of the variant
abbrev pub content_name : Catalogue → Content → Called → Called
content_name shapes (as_shape id) variant = basic_name shapes id variant
content_name shapes _ variant = variant

-- what a target is called; a text by itself
abbrev pub target_name : Rules → Target → Called
target_name rules (of_shape id) = basic_name rules.shapes id (whole_name rules.shapes id)
target_name rules (of_content id k) =
    content_name rules.shapes (rules.content_of id k) (full_name rules.shapes id k)
target_name rules (of_tag text) = record { name = text; variant = None }

-- what a list of parts is called
abbrev pub list_name : Catalogue → ListId → Called
list_name shapes (of_struct id) = whole_name shapes id
list_name shapes (of_enum id) = whole_name shapes id
list_name shapes (of_joined id) = whole_name shapes id
list_name shapes (of_branch id k) = full_name shapes id k
list_name shapes (of_fields id k) = full_name shapes id k

-- a branch is told by the name of its list
abbrev pub IsCalled : Rules → Branch → Type 0
IsCalled rules b = called_view b.name ≡ list_name rules.shapes (list_view b.list)
