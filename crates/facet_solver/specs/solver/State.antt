-- States of a solver, and what calls leave of them.
use Rattle.std.specs.Prelude.{ℕ, Bool, List, [], ◌∷◌, ◌&&◌, Option, Some, None, filter, length, map, refl, slice_get, string_bytes, false}
use Rattle.std.specs.BTreeSet.{insert_key}
use Rattle.std.specs.Coded.{Coded, code_by, coded×, coded_ℕ, coded_list}
use Rattle.std.specs.FinMap as finite
use Rattle.std.specs.List.{list_any}
use Rattle.std.specs.Option.{option_map_or}
use denote.Bor.{Bor}
use Rattle.std.specs.declared.alloc.Global.{Global}
use Rattle.std.specs.declared.string.String.{String}
use Rattle.facet_solver_shape.specs.declared.shape.Shape.{Shape}
use Rattle.facet_solver_shape.specs.Keys.{Key, key_cmp}
use Rattle.facet_solver_shape.specs.Fields.{FieldView}
use Rattle.facet_solver_shape.specs.Names.{Name, name_eq}
use Rattle.facet_solver_shape.specs.Resolved.{Resolved}
use Rattle.facet_solver_shape.specs.ResolvedCode.{key_code}
use Rattle.facet_solver.specs.build.Build.{Catalogue}
use Rattle.facet_solver.specs.set.IndexSet.{has_index, upto}
use Rattle.facet_solver.specs.Resolutions.{has_key, passes}
use Rattle.facet_solver.specs.schema.Schema.{SchemaView}
use Rattle.facet_solver.specs.schema.SchemaStorage.{schema_code}

-- a schema, the candidates, which are the resolutions of it that are left, by their indices, and
-- the keys that were seen, in their order
pub record State : Type 0 where
  pub schema : SchemaView
  pub candidates : List ℕ
  pub seen : List Key

-- some resolutions are candidates, and no key was seen
abbrev pub state_of : SchemaView → List ℕ → State
state_of schema candidates = record { schema = schema; candidates = candidates; seen = [] }

-- all resolutions are candidates, and no key was seen
abbrev pub new_solver : SchemaView → State
new_solver schema = state_of schema (upto (length schema.resolutions))

-- the candidates that pass a test
abbrev pub passing : (Resolved → Bool) → State → List ℕ
passing test s = filter (passes test s.schema.resolutions) s.candidates

-- some indices, or all where there are none
abbrev pub or_all : List ℕ → List ℕ → List ℕ
or_all [] all = all
or_all (index ∷ rest) all = index ∷ rest

-- only the candidates stay that pass a test, so none where none does
abbrev pub retain : (Resolved → Bool) → State → State
retain test s = record s { candidates = passing test s }

-- only the candidates stay that pass a test, or all where none does
abbrev pub narrow : (Resolved → Bool) → State → State
narrow test s = record s { candidates = or_all (passing test s) s.candidates }

-- a key is seen
abbrev pub mark_seen : Key → State → State
mark_seen key s = record s { seen = insert_key key_cmp s.seen key }

-- a key is seen, and only the candidates stay that have it, or all where none has
abbrev pub see_key : Key → State → State
see_key key s = narrow (has_key key) (mark_seen key s)

-- whether a variant of the name was selected, for whichever enum
abbrev pub selects_variant : Name → Resolved → Bool
selects_variant name r = list_any (λ selection. name_eq selection.variant_name name) r.selections

-- only the candidates stay that selected a variant of the name, or all where none did
abbrev pub hint_variant : Name → State → State
hint_variant name s = narrow (selects_variant name) s

-- whether an enum of these attributes has the name as its tag, and no content beside it
abbrev pub is_tag_alone : Name → Option (String Global) → Option (String Global) → Bool
is_tag_alone tag (Some name) None = name_eq (string_bytes name) tag
is_tag_alone tag _ _ = false

-- whether a shape has the name as its tag, and no content beside it
abbrev pub has_tag_alone : Name → Shape → Bool
has_tag_alone tag shape = is_tag_alone tag shape.tag shape.content

-- whether a field has the name, and its shape has that name as its tag, and no content beside it
abbrev pub is_tag_field : Catalogue → Name → FieldView → Bool
is_tag_field cat tag f =
    name_eq f.name tag && option_map_or (has_tag_alone tag) (slice_get cat f.shape) false

-- whether one of a resolution's fields is such a field
abbrev pub has_tag_field : Catalogue → Name → Resolved → Bool
has_tag_field cat tag r = list_any (is_tag_field cat tag) (finite.values r.fields)

-- a state where there is any index, and another where there is none
abbrev pub where_any : List ℕ → State → State → State
where_any [] some none = none
where_any (index ∷ rest) some none = some

-- where some candidate has such a field, a hint of the variant's name
abbrev pub hint_variant_for_tag : Name → Name → State → State
hint_variant_for_tag tag name s =
    where_any (passing (has_tag_field s.schema.build.catalogue tag) s) (hint_variant name s) s

-- whether one of a resolution's fields has one of the shapes
abbrev pub has_shape_among : List ℕ → Resolved → Bool
has_shape_among shapes r = list_any (λ f. has_index shapes f.shape) (finite.values r.fields)

-- only the candidates stay that have a field of one of the shapes
abbrev pub satisfy_shapes : List ℕ → State → State
satisfy_shapes shapes s = retain (has_shape_among shapes) s

-- the shapes of fields behind references
abbrev pub shapes_of : List (Bor FieldView) → List ℕ
shapes_of fields = map (λ f. f.now.shape) fields

-- only the candidates stay that have a field of the shape of one of some fields
abbrev pub satisfy : List (Bor FieldView) → State → State
satisfy fields s = satisfy_shapes (shapes_of fields) s

-- whether a key of the name was seen
abbrev pub was_field_seen : Name → State → Bool
was_field_seen name s = list_any (λ key. name_eq key.name name) s.seen

-- How a state is stored, by which proofs tell values apart. No clause speaks of it: the tuple of
-- its parts
abbrev pub state_code : Coded State
state_code =
    code_by (SchemaView × (List ℕ × List Key))
    (coded× schema_code (coded× (coded_list coded_ℕ) (coded_list key_code)))
    (λ s. (s.schema, (s.candidates, s.seen)))
    (λ p. record { schema = p.0; candidates = p.1.0; seen = p.1.1 })
    (λ _. refl)
