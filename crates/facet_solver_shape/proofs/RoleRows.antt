-- What fields are to those around them: the definitions, row by row.
use Rattle.std.proofs.Common.{◌≡◌, ℕ, Bool, true, false, List, [], ◌∷◌, Some, None, refl, codes}
use Rattle.facet_solver_shape.specs.declared.role.Target.{Target}
use Rattle.facet_solver_shape.specs.declared.shape.Field.{Field}
use Rattle.facet_solver_shape.specs.declared.shape.Shape.{Shape}
use Rattle.facet_solver_shape.specs.declared.shape.ShapeKind.TheVariants as kinds
use Rattle.facet_solver_shape.specs.EffectiveShapes.{effective}
use Rattle.facet_solver_shape.specs.Pointers.{end_of}
use Rattle.facet_solver_shape.specs.Representation.{is_walked, repr_of_shape, flattened, externally_tagged, internally_tagged, adjacently_tagged}
use Rattle.facet_solver_shape.specs.Roles.{alternatives, block, catch_all, is_option, is_required, leaf, may_be_absent, regular, role_of}
use Rattle.facet_solver_shape.proofs.Samples.{field, flat_field, number, shape, struct_of, enum_of, text, variant}

-- a struct with a field `a` of a number
abbrev one_field : List Field
one_field = field (codes "a") 0 ∷ []

-- 0 is a number, 1 a struct, 2 an enum of a variant `V`, 3 a map, 4 an option of the struct, 5 one of
-- the enum, 6 one of the number
abbrev catalogue : List Shape
catalogue =
    number ∷ struct_of one_field ∷ enum_of (variant (codes "V") [] ∷ [])
    ∷ shape (codes "M") (kinds.Map 0 0) ∷ shape (codes "O") (kinds.Option 1)
    ∷ shape (codes "O") (kinds.Option 2) ∷ shape (codes "O") (kinds.Option 0) ∷ []

-- a target that no option holds
abbrev plain : ℕ → Target
plain index = record { shape = index; optional = false }

-- a target in an option
abbrev optional : ℕ → Target
optional index = record { shape = index; optional = true }

-- regular fields of a struct and of a map; and flattened ones, by what they lead to
pub role_rows :
    (role_of catalogue (field (codes "f") 1) ≡ regular)
    × (role_of catalogue (field (codes "f") 3) ≡ regular)
    × (role_of catalogue (flat_field (codes "f") 0) ≡ leaf (plain 0))
    × (role_of catalogue (flat_field (codes "f") 1) ≡ block (plain 1) one_field)
    × (role_of catalogue (flat_field (codes "f") 2)
    ≡ alternatives (plain 2) (enum_of (variant (codes "V") [] ∷ [])) (variant (codes "V") [] ∷ []))
    × (role_of catalogue (flat_field (codes "f") 3) ≡ catch_all (plain 3))
    × (role_of catalogue (flat_field (codes "f") 4) ≡ block (optional 1) one_field)
    × (role_of catalogue (flat_field (codes "f") 6) ≡ leaf (optional 0))
role_rows = (refl, refl, refl, refl, refl, refl, refl, refl)

-- only options of structs and enums may be absent
pub absence_rows :
    (may_be_absent (role_of catalogue (flat_field (codes "f") 1)) ≡ false)
    × (may_be_absent (role_of catalogue (flat_field (codes "f") 4)) ≡ true)
    × (may_be_absent (role_of catalogue (flat_field (codes "f") 5)) ≡ true)
    × (may_be_absent (role_of catalogue (flat_field (codes "f") 6)) ≡ false)
    × (may_be_absent (role_of catalogue (field (codes "f") 4)) ≡ false)
absence_rows = (refl, refl, refl, refl, refl)

-- a field is required unless it has a default or is an option
pub required_rows :
    (is_required catalogue (field (codes "f") 0) ≡ true)
    × (is_required catalogue (record (field (codes "f") 0) { has_default = true }) ≡ false)
    × (is_required catalogue (field (codes "f") 4) ≡ false)
    × (is_option catalogue 4 ≡ true)
    × (is_option catalogue 1 ≡ false)
required_rows = (refl, refl, refl, refl, refl)

-- an enum whose attributes name a tag, a content, or neither
abbrev tagged_enum : List ℕ → Shape
tagged_enum tag = record (enum_of []) { tag = Some (text tag) }

-- how enums are written, and whether that is at their own level
pub representation_rows :
    (repr_of_shape (enum_of []) ≡ externally_tagged)
    × (repr_of_shape (tagged_enum (codes "t")) ≡ internally_tagged (codes "t"))
    × (repr_of_shape (record (tagged_enum (codes "t")) { content = Some (text (codes "c")) })
    ≡ adjacently_tagged (codes "t") (codes "c"))
    × (repr_of_shape (record (enum_of []) { content = Some (text (codes "c")) }) ≡ externally_tagged)
    × (repr_of_shape (record (tagged_enum (codes "t")) { untagged = true }) ≡ flattened)
    × (is_walked flattened ≡ true)
    × (is_walked (internally_tagged (codes "t")) ≡ true)
    × (is_walked externally_tagged ≡ false)
    × (is_walked (adjacently_tagged (codes "t") (codes "c")) ≡ false)
representation_rows = (refl, refl, refl, refl, refl, refl, refl, refl, refl)

-- a number, a shape that stands for it by `inner`, and one that is read as that by `proxy`
abbrev wrapped : List Shape
wrapped =
    number ∷ record number { inner = Some 0 } ∷ record number { proxy = Some 1 }
    ∷ record number { inner = Some 0; proxy = Some 2 } ∷ []

-- `inner` is followed before `proxy`, and both to the end
pub effective_rows :
    (effective wrapped 0 ≡ 0)
    × (effective wrapped 1 ≡ 0)
    × (effective wrapped 2 ≡ 0)
    × (effective (number ∷ number ∷ record number { inner = Some 0; proxy = Some 1 } ∷ []) 2 ≡ 0)
    × (effective (number ∷ number ∷ record number { proxy = Some 1 } ∷ []) 2 ≡ 1)
effective_rows = (refl, refl, refl, refl, refl)

-- a pointer to a pointer to a number
abbrev pointers : List Shape
pointers =
    number ∷ shape (codes "P") (kinds.Pointer (Some 0)) ∷ shape (codes "P") (kinds.Pointer (Some 1))
    ∷ shape (codes "P") (kinds.Pointer None) ∷ []

-- pointers are followed to their end, and one that leads to nothing is one
pub end_rows :
    (end_of pointers 0 ≡ 0) × (end_of pointers 1 ≡ 0) × (end_of pointers 2 ≡ 0) × (end_of pointers 3 ≡ 3)
end_rows = (refl, refl, refl, refl)
