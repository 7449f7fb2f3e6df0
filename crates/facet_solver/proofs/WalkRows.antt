-- What walks emit, and which indices they take: the definitions, row by row.
use Rattle.std.proofs.Common.{◌≡◌, ℕ, List, [], ◌∷◌, ◌++◌, map, Option, Some, None, option_map, refl, codes}
use Rattle.facet_solver_shape.specs.Catalogues.{Catalogue}
use Rattle.facet_solver_shape.specs.Names.{Name}
use Rattle.facet_solver_shape.specs.Representation.{Repr, flattened, externally_tagged, internally_tagged, adjacently_tagged}
use Rattle.facet_solver_shape.specs.declared.shape.Field.{Field}
use Rattle.facet_solver_shape.specs.declared.shape.ShapeKind.TheVariants as kinds
use Rattle.facet_solver_shape.proofs.Samples.{enum_of, field, flat_field, number, shape, struct_of, variant}
use Rattle.facet_solver.specs.build.Build.{Build}
use Rattle.facet_solver.specs.build.Emissions.{Emission, a_catch_all, a_field, a_selection, some_key_paths, catch_all_field, emit_catch_all, emit_leaf, emit_plain, emit_regular, emit_selector_by, emit_variant, field_and_paths, leaf_field, regular_field, selector_field}
use Rattle.facet_solver.specs.build.Walk.{walk_content, walk_fields, walk_fields_step, walk_root, walk_root_variant, walk_within}
use Rattle.facet_solver.proofs.SampleBuilds.{flat, flat_with, two_variants}

-- what is emitted, in words
abbrev said : Emission → Name
said (a_field f) = codes "field " ++ f.name
said (some_key_paths paths) = codes "paths"
said (a_selection selection) = codes "variant " ++ selection.variant_name
said (a_catch_all f) = codes "rest " ++ f.name

-- what a walk of a root emits, in words, and the indices that it leaves
abbrev walked : Build → ℕ → List ℕ → Option (List Name × List ℕ)
walked build root indices = option_map (λ w. (map said w.0, w.1)) (walk_root build root indices)

-- an enum as the root: the next index chooses the variant
pub root_rows :
    (walked (flat two_variants) 1 (0 ∷ []) ≡ Some (codes "variant V" ∷ codes "field a" ∷ codes "paths" ∷ [], []))
    × (walked (flat two_variants) 1 (1 ∷ []) ≡ Some (codes "variant W" ∷ codes "field b" ∷ codes "paths" ∷ [], []))
    × (walked (flat two_variants) 1 (1 ∷ 7 ∷ []) ≡ Some (codes "variant W" ∷ codes "field b" ∷ codes "paths" ∷ [], 7 ∷ []))
    × (walked (flat two_variants) 1 (2 ∷ []) ≡ None)
    × (walked (flat two_variants) 1 [] ≡ None)
    × (walked (flat two_variants) 0 [] ≡ Some ([], []))
    × (walked (flat two_variants) 2 [] ≡ None)
unfolding walk_root walk_root_variant walk_content walk_fields walk_within walk_fields_step catch_all_field emit_catch_all emit_leaf emit_plain emit_regular emit_selector_by emit_variant field_and_paths leaf_field regular_field selector_field
root_rows = (refl, refl, refl, refl, refl, refl, refl)

-- 0 is a number, 1 a struct with a field `a`, 2 an enum of `V` with a field `b` and of `W`, 3 a map, 4
-- an option of the struct, 5 one of the enum
abbrev parts : Catalogue
parts =
    number ∷ struct_of (field (codes "a") 0 ∷ [])
    ∷ enum_of (variant (codes "V") (field (codes "b") 0 ∷ []) ∷ variant (codes "W") [] ∷ [])
    ∷ shape (codes "M") (kinds.Map 0 0) ∷ shape (codes "O") (kinds.Option 1)
    ∷ shape (codes "O") (kinds.Option 2) ∷ []

-- what the walk of a struct of these fields emits, which stands behind these shapes
abbrev walked_by : Repr → List Field → List ℕ → Option (List Name × List ℕ)
walked_by repr fields indices = walked (flat_with repr (parts ++ struct_of fields ∷ [])) 6 indices

-- a regular field, a block, a catch-all and a leaf take no index, and an enum takes one
pub role_rows :
    (walked_by flattened [] [] ≡ Some ([], []))
    × (walked_by flattened (field (codes "f") 2 ∷ []) []
    ≡ Some (codes "field f" ∷ codes "paths" ∷ [], []))
    × (walked_by flattened (flat_field (codes "f") 1 ∷ []) []
    ≡ Some (codes "field a" ∷ codes "paths" ∷ [], []))
    × (walked_by flattened (flat_field (codes "f") 3 ∷ []) [] ≡ Some (codes "rest f" ∷ [], []))
    × (walked_by flattened (flat_field (codes "f") 0 ∷ []) []
    ≡ Some (codes "field f" ∷ codes "paths" ∷ [], []))
    × (walked_by flattened (flat_field (codes "f") 2 ∷ []) (0 ∷ [])
    ≡ Some (codes "variant V" ∷ codes "field b" ∷ codes "paths" ∷ [], []))
    × (walked_by flattened (flat_field (codes "f") 2 ∷ []) (1 ∷ []) ≡ Some (codes "variant W" ∷ [], []))
    × (walked_by flattened (flat_field (codes "f") 2 ∷ []) (2 ∷ []) ≡ None)
    × (walked_by flattened (flat_field (codes "f") 2 ∷ []) [] ≡ None)
unfolding walk_root walk_root_variant walk_content walk_fields walk_within walk_fields_step catch_all_field emit_catch_all emit_leaf emit_plain emit_regular emit_selector_by emit_variant field_and_paths leaf_field regular_field selector_field
role_rows = (refl, refl, refl, refl, refl, refl, refl, refl, refl)

-- where a block or an enum may be absent, 0 says that it is, and 1 that it is there
pub absence_rows :
    (walked_by flattened (flat_field (codes "f") 4 ∷ []) (0 ∷ []) ≡ Some ([], []))
    × (walked_by flattened (flat_field (codes "f") 4 ∷ []) (1 ∷ [])
    ≡ Some (codes "field a" ∷ codes "paths" ∷ [], []))
    × (walked_by flattened (flat_field (codes "f") 4 ∷ []) (2 ∷ []) ≡ None)
    × (walked_by flattened (flat_field (codes "f") 4 ∷ []) [] ≡ None)
    × (walked_by flattened (flat_field (codes "f") 5 ∷ []) (0 ∷ []) ≡ Some ([], []))
    × (walked_by flattened (flat_field (codes "f") 5 ∷ []) (1 ∷ 1 ∷ []) ≡ Some (codes "variant W" ∷ [], []))
    × (walked_by flattened (flat_field (codes "f") 5 ∷ []) (1 ∷ []) ≡ None)
unfolding walk_root walk_root_variant walk_content walk_fields walk_within walk_fields_step catch_all_field emit_catch_all emit_leaf emit_plain emit_regular emit_selector_by emit_variant field_and_paths leaf_field regular_field selector_field
absence_rows = (refl, refl, refl, refl, refl, refl, refl)

-- the selector of an enum by its representation; only a tag alone has the content beside it
pub selector_rows :
    (walked_by externally_tagged (flat_field (codes "f") 2 ∷ []) (0 ∷ [])
    ≡ Some (codes "variant V" ∷ codes "field V" ∷ codes "paths" ∷ [], []))
    × (walked_by (internally_tagged (codes "t")) (flat_field (codes "f") 2 ∷ []) (0 ∷ [])
    ≡ Some (codes "variant V" ∷ codes "field t" ∷ codes "paths" ∷ codes "field b" ∷ codes "paths" ∷ [], []))
    × (walked_by (adjacently_tagged (codes "t") (codes "c")) (flat_field (codes "f") 2 ∷ []) (0 ∷ [])
    ≡ Some (codes "variant V" ∷ codes "field t" ∷ codes "paths" ∷ codes "paths" ∷ [], []))
unfolding walk_root walk_root_variant walk_content walk_fields walk_within walk_fields_step catch_all_field emit_catch_all emit_leaf emit_plain emit_regular emit_selector_by emit_variant field_and_paths leaf_field regular_field selector_field
selector_rows = (refl, refl, refl)

-- fields are walked in their order, each with the indices that the one before left
pub order_rows :
    (walked_by flattened (flat_field (codes "f") 5 ∷ flat_field (codes "g") 4 ∷ []) (1 ∷ 0 ∷ 1 ∷ 9 ∷ [])
    ≡ Some (codes "variant V" ∷ codes "field b" ∷ codes "paths" ∷ codes "field a" ∷ codes "paths" ∷ [], 9 ∷ []))
    × (walked_by flattened (flat_field (codes "g") 4 ∷ flat_field (codes "f") 5 ∷ []) (1 ∷ 0 ∷ 9 ∷ [])
    ≡ Some (codes "field a" ∷ codes "paths" ∷ [], 9 ∷ []))
unfolding walk_root walk_root_variant walk_content walk_fields walk_within walk_fields_step catch_all_field emit_catch_all emit_leaf emit_plain emit_regular emit_selector_by emit_variant field_and_paths leaf_field regular_field selector_field
order_rows = (refl, refl)

-- a variant whose only field `0` is a struct has the fields of that, and otherwise its own
pub content_rows :
    (walked (flat (parts ++ enum_of (variant (codes "V") (field (codes "0") 1 ∷ []) ∷ []) ∷ [])) 6 (0 ∷ [])
    ≡ Some (codes "variant V" ∷ codes "field a" ∷ codes "paths" ∷ [], []))
    × (walked (flat (parts ++ enum_of (variant (codes "V") (field (codes "0") 0 ∷ []) ∷ []) ∷ [])) 6 (0 ∷ [])
    ≡ Some (codes "variant V" ∷ codes "field 0" ∷ codes "paths" ∷ [], []))
    × (walked (flat (parts ++ enum_of (variant (codes "V") (field (codes "x") 1 ∷ []) ∷ []) ∷ [])) 6 (0 ∷ [])
    ≡ Some (codes "variant V" ∷ codes "field x" ∷ codes "paths" ∷ [], []))
unfolding walk_root walk_root_variant walk_content walk_fields walk_within walk_fields_step catch_all_field emit_catch_all emit_leaf emit_plain emit_regular emit_selector_by emit_variant field_and_paths leaf_field regular_field selector_field
content_rows = (refl, refl, refl)
