-- What a variant with one field holds: the shape that is reached from the field.
use Rattle.std.specs.Prelude.{◌≡◌, ℕ, zero, suc, List, [], ◌∷◌, Option, Some, None, length, slice_get}
use Rattle.std.specs.Option.{option_and_then, option_map_or, option_or}
use Rattle.facet_solver.specs.Formats.{value_shape}
use Rattle.facet_solver.specs.Pointers.{pointee_of_kind}
use Rattle.facet_solver.specs.declared.Field.{Field}
use Rattle.facet_solver.specs.declared.Shape.{Shape}
use Rattle.facet_solver.specs.declared.StructKind.{StructKind}
use Rattle.facet_solver.specs.declared.StructKind.TheVariants.{TupleStruct, Tuple}
use Rattle.facet_solver.specs.declared.Variant.{Variant}

-- where a shape leads to: to `inner`, or else to `proxy`, or else to the shape that it points to
abbrev pub next_of : Shape → Option ℕ
next_of s = option_or (option_or s.inner s.proxy) (pointee_of_kind s.kind)

-- the shape that is reached from an index and leads nowhere, if it is one of the first n on the way
abbrev pub reached_within : ℕ → List Shape → ℕ → Option Shape
reached_within zero shapes id = None
reached_within (suc n) shapes id =
    option_and_then (λ s. option_map_or (reached_within n shapes) (next_of s) (Some s))
    (slice_get shapes id)

-- the shape that is reached from an index and leads nowhere; none where the way has no end. A way
-- that ends has no shape twice, so it is no longer than the list
abbrev pub reached : List Shape → ℕ → Option Shape
reached shapes id = reached_within (length shapes) shapes id

-- what is the end of a way, however long, is reached
abbrev pub ReachesEveryEnd : List Shape → Type 0
ReachesEveryEnd shapes =
    (n id : ℕ) (s : Shape) → reached_within n shapes id ≡ Some s → reached shapes id ≡ Some s

-- the shape of the only field
abbrev pub only_shape : List Field → Option ℕ
only_shape (field ∷ []) = Some field.shape
only_shape fields = None

-- the shape of the only field, where fields have no names
abbrev pub unnamed_shape : StructKind → List Field → Option ℕ
unnamed_shape TupleStruct fields = only_shape fields
unnamed_shape Tuple fields = only_shape fields
unnamed_shape kind fields = None

-- the shape of a newtype's field: a newtype is a variant with one field, which has no name
abbrev pub newtype_field : Variant → Option ℕ
newtype_field v = unnamed_shape v.kind v.fields.items

-- what is reached from a field's shape, a metadata container being the value that it contains
abbrev pub reached_by_field : List Shape → ℕ → Option Shape
reached_by_field shapes field = reached shapes (value_shape shapes field)
