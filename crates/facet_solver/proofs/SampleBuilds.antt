-- Builds of small catalogues: what the rows of the definitions are tried on.
use Rattle.std.proofs.Common.{Some, None, codes, List, [], ◌∷◌, ℕ}
use Rattle.facet_solver_shape.specs.Catalogues.{Catalogue}
use Rattle.facet_solver_shape.specs.Representation.{Repr, flattened}
use Rattle.facet_solver_shape.proofs.Samples.{enum_of, field, flat_field, number, struct_of, variant}
use Rattle.facet_solver.specs.build.Build.{Build}
use Rattle.facet_solver.specs.build.Emissions.{Emission}
use Rattle.facet_solver.specs.build.Walk.{Walked, walk_root}
use Rattle.facet_solver.specs.declared.build.format.Format.TheVariants.{Flat}

-- for flat documents, with flattened enums written so
abbrev pub flat_with : Repr → Catalogue → Build
flat_with repr catalogue =
    record { catalogue = catalogue; representation = Some repr; format = Flat }

-- for flat documents, with flattened enums written without a tag
abbrev pub flat : Catalogue → Build
flat catalogue = flat_with flattened catalogue

-- a number, and an enum of `V` with a field `a` and of `W` with a field `b`
abbrev pub two_variants : Catalogue
two_variants =
    number
    ∷ enum_of (variant (codes "V") (field (codes "a") 0 ∷ []) ∷ variant (codes "W") (field (codes "b") 0 ∷ []) ∷ [])
    ∷ []

-- a number, a struct with a field `a`, and one with a field `a` beside that struct
abbrev pub twice_a : Catalogue
twice_a =
    number ∷ struct_of (field (codes "a") 0 ∷ [])
    ∷ struct_of (field (codes "a") 0 ∷ flat_field (codes "f") 1 ∷ []) ∷ []

-- what a walk emits, and nothing where there is no walk
abbrev pub emitted_by : Walked → List Emission
emitted_by None = []
emitted_by (Some w) = w.0

-- what the walk of a choice emits
abbrev pub emissions : Build → ℕ → List ℕ → List Emission
emissions build root choice = emitted_by (walk_root build root choice)
