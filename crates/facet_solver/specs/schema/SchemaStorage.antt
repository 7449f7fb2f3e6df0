-- How a schema is stored, by which proofs tell values apart. No clause speaks of it.
use Rattle.std.specs.Prelude.{◌≡◌, ℕ, zero, suc, List, [], Option, refl}
use Rattle.std.specs.Coded.{Coded, code_by, coded×, coded_ℕ, coded_list, coded_option}
use Rattle.facet_solver_shape.specs.Names.{Name}
use Rattle.facet_solver_shape.specs.Resolved.{Resolved}
use Rattle.facet_solver_shape.specs.ResolvedCode.{resolved_code}
use Rattle.facet_solver_shape.specs.contracts.shape.Shape as shape
use Rattle.facet_solver.specs.contracts.build.format.Format as format
use Rattle.facet_solver.specs.declared.build.format.Format.{Format}
use Rattle.facet_solver.specs.build.Build.{Build, Catalogue}
use Rattle.facet_solver_shape.specs.Representation.{Repr, flattened, externally_tagged, internally_tagged, adjacently_tagged}
use Rattle.facet_solver.specs.schema.Schema.{SchemaView}

-- a representation is its index among the four and its names
abbrev repr_parts : Repr → ℕ × (Name × Name)
repr_parts flattened = (0, ([], []))
repr_parts externally_tagged = (1, ([], []))
repr_parts (internally_tagged tag) = (2, (tag, []))
repr_parts (adjacently_tagged tag content) = (3, (tag, content))

-- and back
abbrev repr_numbered : Name → Name → ℕ → Repr
repr_numbered tag content zero = flattened
repr_numbered tag content (suc zero) = externally_tagged
repr_numbered tag content (suc (suc zero)) = internally_tagged tag
repr_numbered tag content (suc (suc (suc n))) = adjacently_tagged tag content

-- which is the representation again
pub repr_back : (r : Repr)
    → repr_numbered (repr_parts r).1.0 (repr_parts r).1.1 (repr_parts r).0 ≡ r
repr_back flattened = refl
repr_back externally_tagged = refl
repr_back (internally_tagged tag) = refl
repr_back (adjacently_tagged tag content) = refl

-- a representation
abbrev pub repr_code : Coded Repr
repr_code =
    code_by (ℕ × (Name × Name)) (coded× coded_ℕ (coded× (coded_list coded_ℕ) (coded_list coded_ℕ)))
    repr_parts
    (λ p. repr_numbered p.1.0 p.1.1 p.0)
    repr_back

-- what a build goes by
abbrev pub build_code : Coded Build
build_code =
    code_by (Catalogue × (Option Repr × Format))
    (coded× (coded_list shape.the_row.coded) (coded× (coded_option repr_code) format.the_row.coded))
    (λ b. (b.catalogue, (b.representation, b.format)))
    (λ p. record { catalogue = p.0; representation = p.1.0; format = p.1.1 })
    (λ _. refl)

-- a schema as the tuple of its parts
abbrev pub schema_code : Coded SchemaView
schema_code =
    code_by (Build × (ℕ × List Resolved))
    (coded× build_code (coded× coded_ℕ (coded_list resolved_code)))
    (λ s. (s.build, (s.root, s.resolutions)))
    (λ p. record { build = p.0; root = p.1.0; resolutions = p.1.1 })
    (λ _. refl)
