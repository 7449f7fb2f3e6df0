-- Fields that may be absent since their types lead to options.
use Rattle.std.specs.Prelude.{Bool, ◌&&◌, ◌||◌, not, if◌then◌else◌, List, is_some, map}
use Rattle.facet_solver_shape.specs.declared.shape.StructKind.{StructKind}
use Rattle.facet_solver_types.specs.declared.catalogue.absences.Absence.{Absence}
use Rattle.facet_solver_types.specs.Absences.{leads_to_option}
use Rattle.facet_solver_types.specs.ShapeViews.{Field, Kind, Shape, Variant, structure, enumeration, other}
use Rattle.facet_solver_types.specs.TypeTables.{has_names}

-- whether a field with a name may be absent since its type leads to an option: a flattened one has
-- its members in its place
abbrev pub may_be_absent : List Absence → Field → Bool
may_be_absent absences f = not f.flattened && leads_to_option absences f.shape

-- a field with a name, which has a default also where it may be absent so
abbrev pub let_absent_field : List Absence → Field → Field
let_absent_field absences f =
    record f { has_default = f.has_default || may_be_absent absences f }

-- fields of a kind: those without names stay
abbrev pub let_absent_fields : List Absence → StructKind → List Field → List Field
let_absent_fields absences kind fields =
    if has_names kind then map (let_absent_field absences) fields else fields

-- a variant with its fields so
abbrev pub let_absent_variant : List Absence → Variant → Variant
let_absent_variant absences v =
    record v { fields = let_absent_fields absences v.kind v.fields }

-- a kind with its fields so, or with those of its variants
abbrev pub let_absent_kind : List Absence → Kind → Kind
let_absent_kind absences (structure kind fields) =
    structure kind (let_absent_fields absences kind fields)
let_absent_kind absences (enumeration variants) =
    enumeration (map (let_absent_variant absences) variants)
let_absent_kind absences (other kind) = other kind

-- a shape with its fields so; one that stands for its one field has no members
abbrev pub let_absent : List Absence → Shape → Shape
let_absent absences s =
    if is_some s.inner then s else record s { kind = let_absent_kind absences s.kind }
