-- What a strict loader of configurations answers.
use Rattle.std.specs.Prelude.{◌≡◌, ◌≢◌, true, List, [], ◌∷◌, Some, None, Result, Ok, Err, ⊤, filter, not}
use Rattle.std.specs.Borrow.{Bor}
use Rattle.std.specs.BTreeSet.{BTreeSet, contains}
use Rattle.std.specs.List.{filter_map, list_any}
use Rattle.facet_solver.specs.Keys.{Key, key_of, flat_key}
use Rattle.facet_solver.specs.Names.{Name, name_eq, name_ref_cmp, names_of}
use Rattle.facet_solver.specs.Resolutions.{has_key}
use Rattle.facet_solver.specs.schema.Schema.{SchemaView}
use Rattle.facet_solver.specs.schema.ResolutionHandle.{IsHandleOf, index_of, resolution_of}
use Rattle.facet_solver.specs.solver.State.{State, new_solver, passing, see_key}
use Rattle.facet_solver.specs.solver.Tag.{has_no_other_under, has_variant_under, see_tag, variant_under}
use Rattle.facet_solver.specs.solver.Told.{see_keys}
use Rattle.facet_solver.specs.solver.Report.{IsReportOn, resolutions_at, viable}
use Rattle.facet_solver.specs.declared.ResolutionHandle.{ResolutionHandle}
use Rattle.facet_solver.specs.declared.SolverError.{SolverError}
use Rattle.facet_solver.specs.declared.SolverError.TheVariants.{OutOfMemory}
use Rattle.facet_solver_uses.specs.Taken.{first_unknown}
use Rattle.facet_solver_uses.specs.declared.load_config.Refused.{Refused}
use Rattle.facet_solver_uses.specs.declared.load_config.Refused.TheVariants.{UnknownVariant, UnknownKey, Solver}

-- the key of the tag was seen
abbrev pub saw_tag : SchemaView → Name → State
saw_tag schema tag = see_key (flat_key tag) (new_solver schema)

-- the text is the name of a variant that some candidate has under the tag
abbrev pub NamesVariant : SchemaView → Name → Name → Type 0
NamesVariant schema tag variant =
    passing (has_variant_under tag variant) (saw_tag schema tag) ≢ []

-- names, each once, where it first stands
abbrev pub each_once : List Name → List Name
each_once [] = []
each_once (name ∷ names) =
    name ∷ filter (λ other. not (name_eq other name)) (each_once names)

-- a set has the names that are some names, and no others
abbrev pub AreKnown : List (Bor Name) → BTreeSet (Bor Name) → Type 0
AreKnown names known =
    (name : Bor Name) → contains name_ref_cmp known name
    ≡ list_any (λ other. name_eq other.now name.now) names

-- the variants that the candidates have under a tag, each once, in the order of the candidates
abbrev pub variants_under : Name → State → List Name
variants_under tag s =
    each_once (filter_map (variant_under tag)
    (resolutions_at s.schema.resolutions s.candidates))

-- a configuration was told: its tag, the text under it, and its other keys
abbrev pub told : SchemaView → Name → Name → List Key → State
told schema tag variant keys = see_keys keys (see_tag tag variant (new_solver schema))

-- a handle is that of the only viable resolution, which has the tag, and no other variant under it
-- than the text names
pub record IsFound
    (schema : SchemaView) (tag variant : Name) (keys : List Key) (handle : ResolutionHandle)
    : Type 0 where
  pub named : NamesVariant schema tag variant
  pub alone : viable (told schema tag variant keys) ≡ index_of handle ∷ []
  pub of_schema : IsHandleOf schema handle
  pub has_tag : has_key (flat_key tag) (resolution_of handle) ≡ true
  pub of_variant : has_no_other_under tag variant (resolution_of handle) ≡ true

-- an error is the report on a configuration whose text names a variant, or says that memory ran out
abbrev pub IsReport : SchemaView → Name → Name → List Key → SolverError → Type 0
IsReport schema tag variant keys OutOfMemory = ⊤
IsReport schema tag variant keys error =
    NamesVariant schema tag variant × IsReportOn (told schema tag variant keys) error

-- what a configuration comes to: the resolution that was found, which takes each key; or a text
-- that names no variant under the tag, with the variants that there are; or the first key that the
-- resolution does not take; or the report
abbrev pub Loads : SchemaView → Name → Name → List Key
    → Result ResolutionHandle Refused → Type 0
Loads schema tag variant keys (Ok handle) =
    IsFound schema tag variant keys handle × (first_unknown (resolution_of handle) keys ≡ None)
Loads schema tag variant keys (Err (UnknownVariant names)) =
    (¬ NamesVariant schema tag variant)
    × (names_of names.items ≡ variants_under tag (saw_tag schema tag))
Loads schema tag variant keys (Err (UnknownKey key)) =
    (handle : ResolutionHandle) × IsFound schema tag variant keys handle
    × (first_unknown (resolution_of handle) keys ≡ Some (key_of key))
Loads schema tag variant keys (Err (Solver error)) = IsReport schema tag variant keys error
