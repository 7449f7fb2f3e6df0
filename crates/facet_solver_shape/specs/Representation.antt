-- How a flattened enum is written in a document.
use Rattle.std.specs.Prelude.{Bool, true, false, if◌then◌else◌, Option, Some, None}
use Rattle.std.specs.declared.string.String.{String}
use Rattle.std.specs.declared.alloc.Global.{Global}
use Rattle.std.specs.String.{string_bytes}
use Rattle.facet_solver_shape.specs.declared.shape.Shape.{Shape}
use Rattle.facet_solver_shape.specs.Names.{Name}
use Rattle.facet_solver_shape.specs.declared.representation.EnumRepr.{EnumRepr}
use Rattle.facet_solver_shape.specs.declared.representation.EnumRepr.TheVariants.{Flattened, ExternallyTagged, InternallyTagged, AdjacentlyTagged}

-- a representation, wherever its names lie
pub data Repr : Type 0 where
  flattened : Repr
  externally_tagged : Repr
  internally_tagged : Name → Repr
  adjacently_tagged : Name → Name → Repr

-- what a representation says
abbrev pub repr_view : EnumRepr → Repr
repr_view Flattened = flattened
repr_view ExternallyTagged = externally_tagged
repr_view (InternallyTagged tag) = internally_tagged tag.now
repr_view (AdjacentlyTagged tag content) = adjacently_tagged tag.now content.now

-- a representation that may be left to each enum
abbrev pub asked_view : Option EnumRepr → Option Repr
asked_view None = None
asked_view (Some repr) = Some (repr_view repr)

-- what a tag and a content name ask for
abbrev pub tagged : Option (String Global) → Option (String Global) → Repr
tagged None _ = externally_tagged
tagged (Some tag) None = internally_tagged (string_bytes tag)
tagged (Some tag) (Some content) = adjacently_tagged (string_bytes tag) (string_bytes content)

-- what an enum's own attributes ask for
abbrev pub repr_of_shape : Shape → Repr
repr_of_shape s = if s.untagged then flattened else tagged s.tag s.content

-- whether a variant's content is walked at the enum's own level
abbrev pub is_walked : Repr → Bool
is_walked flattened = true
is_walked externally_tagged = false
is_walked (internally_tagged tag) = true
is_walked (adjacently_tagged tag content) = false
