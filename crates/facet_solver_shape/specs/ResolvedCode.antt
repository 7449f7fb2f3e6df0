-- How the parts of a resolution are stored, by which proofs tell values apart. No clause speaks of
-- it.
use Rattle.std.specs.Prelude.{ℕ, List, Bool, Option, ◌⊎◌, ◌≡◌, refl}
use Rattle.std.specs.Coded.{Coded, code_by, coded×, coded⊎, coded_ℕ, coded_bool, coded_list, coded_option}
use Rattle.std.proofs.Common.{inl, inr}
use Rattle.std.specs.Ordering.{nat_cmp}
use Rattle.std.specs.Cmp.Lexicographic.{slice_cmp}
use Rattle.std.specs.FinMap as finite
use Rattle.std.specs.FinSet as set
use Rattle.facet_solver_shape.specs.declared.shape.Field.{Field}
use Rattle.facet_solver_shape.specs.contracts.shape.Field as field
use Rattle.facet_solver_shape.specs.declared.resolution.key.FieldCategory.{FieldCategory}
use Rattle.facet_solver_shape.specs.contracts.resolution.key.FieldCategory as category
use Rattle.facet_solver_shape.specs.Names.{Name}
use Rattle.facet_solver_shape.specs.Paths.{Segment, by_field, by_variant}
use Rattle.facet_solver_shape.specs.Keys.{Key, key_cmp, category_cmp}
use Rattle.facet_solver_shape.specs.Fields.{FieldView}
use Rattle.facet_solver_shape.specs.Resolved.{Resolved, Selection}

-- a name
abbrev name_code : Coded Name
name_code = coded_list coded_ℕ

-- a segment as its names
abbrev segment_parts : Segment → Name ⊎ (Name × Name)
segment_parts (by_field name) = inl name
segment_parts (by_variant field variant) = inr (field, variant)

-- and back
abbrev segment_from : Name ⊎ (Name × Name) → Segment
segment_from (inl name) = by_field name
segment_from (inr names) = by_variant names.0 names.1

-- which is the segment again
pub segment_back : (s : Segment) → segment_from (segment_parts s) ≡ s
segment_back (by_field name) = refl
segment_back (by_variant field variant) = refl

-- a path
abbrev path_code : Coded (List Segment)
path_code = coded_list
    (code_by (Name ⊎ (Name × Name)) (coded⊎ name_code (coded× name_code name_code))
    segment_parts segment_from segment_back)

-- a field
abbrev pub field_view_code : Coded FieldView
field_view_code =
    code_by ((Name × (List Segment)) × ((Bool × ℕ) × (Field × FieldCategory)))
    (coded× (coded× name_code path_code)
    (coded× (coded× coded_bool coded_ℕ)
    (coded× field.the_row.coded category.the_row.coded)))
    (λ f. ((f.name, f.path), ((f.is_required, f.shape), (f.field, f.category))))
    (λ p. record {
      name = p.0.0;
      path = p.0.1;
      is_required = p.1.0.0;
      shape = p.1.0.1;
      field = p.1.1.0;
      category = p.1.1.1;
    })
    (λ _. refl)

-- a selection
abbrev pub selection_code : Coded Selection
selection_code =
    code_by (List Segment × (Name × Name)) (coded× path_code (coded× name_code name_code))
    (λ p. (p.path, (p.enum_name, p.variant_name)))
    (λ p. record { path = p.0; enum_name = p.1.0; variant_name = p.1.1 })
    (λ _. refl)

-- a key
abbrev pub key_code : Coded Key
key_code =
    code_by (Option FieldCategory × Name) (coded× (coded_option category.the_row.coded) name_code)
    (λ k. (k.dom, k.name))
    (λ p. record { dom = p.0; name = p.1 })
    (λ _. refl)

-- fields by key
abbrev pub field_map_code : Coded (finite.FinMap key_cmp FieldView)
field_map_code = finite.code key_code field_view_code

-- names
abbrev pub name_set_code : Coded (set.FinSet (slice_cmp nat_cmp))
name_set_code = set.code name_code

-- key paths
abbrev pub key_path_set_code : Coded (set.FinSet (slice_cmp (slice_cmp nat_cmp)))
key_path_set_code = set.code (coded_list name_code)

-- catch-alls by category
abbrev pub catch_alls_code : Coded (finite.FinMap category_cmp FieldView)
catch_alls_code = finite.code category.the_row.coded field_view_code

-- a resolution as the tuple of its parts
abbrev pub resolved_code : Coded Resolved
resolved_code =
    code_by
    ((finite.FinMap key_cmp FieldView × set.FinSet (slice_cmp nat_cmp))
    × (set.FinSet (slice_cmp (slice_cmp nat_cmp))
    × (List Selection × finite.FinMap category_cmp FieldView)))
    (coded× (coded× field_map_code name_set_code)
    (coded× key_path_set_code (coded× (coded_list selection_code) catch_alls_code)))
    (λ r. ((r.fields, r.required_names), (r.key_paths, (r.selections, r.catch_alls))))
    (λ p. record {
      fields = p.0.0;
      required_names = p.0.1;
      key_paths = p.1.0;
      selections = p.1.1.0;
      catch_alls = p.1.1.1;
    })
    (λ _. refl)
