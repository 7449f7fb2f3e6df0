-- Why a resolution is not the answer: what it lacks, and which seen keys mean nothing in it.
use Rattle.std.specs.Prelude.{Bool, ◌||◌, List, [], ◌∷◌, filter, map, not}
use Rattle.std.specs.BTreeSet.{insert_key}
use Rattle.std.specs.Cmp.Lexicographic.{slice_cmp}
use Rattle.std.specs.FinMap as finite
use Rattle.std.specs.List.{list_any}
use Rattle.std.specs.Ordering.{nat_cmp}
use Rattle.facet_solver_shape.specs.Fields.{matches, FieldView}
use Rattle.facet_solver_shape.specs.Keys.{Key}
use Rattle.facet_solver_shape.specs.Names.{Name}
use Rattle.facet_solver_shape.specs.Paths.{path_text}
use Rattle.facet_solver_shape.specs.Resolved.{description, Resolved}
use Rattle.facet_solver.specs.build.Build.{Catalogue, type_identifier}
use Rattle.facet_solver.specs.error.ErrorView.{FailureView, MissingView}
use Rattle.facet_solver.specs.Resolutions.{has_key}

-- some names in byte order, each once
abbrev pub in_byte_order : List Name → List Name
in_byte_order [] = []
in_byte_order (name ∷ names) = insert_key (slice_cmp nat_cmp) (in_byte_order names) name

-- the names of the keys that pass a test, one for each key, in key order
abbrev pub names_where : (Key → Bool) → List Key → List Name
names_where test seen = map (λ k. k.name) (filter test seen)

-- whether the seen keys meet a field: it is not required, or one of them matches it
abbrev pub is_met : List Key → FieldView → Bool
is_met seen f = not f.is_required || list_any (λ key. matches key f) seen

-- what a resolution lacks: its fields that are not met, by stored key
abbrev pub missing : List Key → Resolved → List FieldView
missing seen r = filter (λ f. not (is_met seen f)) (finite.values r.fields)

-- what is told of a field that a resolution lacks
abbrev pub missing_field : Catalogue → FieldView → MissingView
missing_field catalogue f = record {
  name = f.name;
  path = path_text f.path;
  defined_in = type_identifier catalogue f.shape;
}

-- what is told of all that a resolution lacks
abbrev pub missing_fields : Catalogue → List Key → Resolved → List MissingView
missing_fields catalogue seen r = map (missing_field catalogue) (missing seen r)

-- the names of the seen keys that mean no field of a resolution
abbrev pub unknown_to : List Key → Resolved → List Name
unknown_to seen r = names_where (λ key. not (has_key key r)) seen

-- why a resolution is not the answer
abbrev pub failure_of : Catalogue → List Key → Resolved → FailureView
failure_of catalogue seen r = record {
  variant_name = description r.selections;
  missing_fields = missing_fields catalogue seen r;
  unknown_fields = unknown_to seen r;
  suggestion_matches = 0;
}
