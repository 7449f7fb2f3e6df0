-- Documents that fit a resolution, and that their events come to it.
use Rattle.std.specs.Prelude.{◌≡◌, ◌||◌, ℕ, Bool, true, List, [], ◌∷◌, Result, Ok, Err, Some, not, slice_get}
use Rattle.std.specs.List.{list_all, list_any}
use Rattle.std.specs.Option.{option_map_or}
use Rattle.facet_solver.specs.Keys.{Key, flat_key}
use Rattle.facet_solver.specs.KeyPath.{has_key_path, whole_path}
use Rattle.facet_solver.specs.Names.{Name, name_eq}
use Rattle.facet_solver.specs.Resolved.{Resolved, description}
use Rattle.facet_solver.specs.build.Build.{Catalogue}
use Rattle.facet_solver.specs.build.Choice.{ListsChoices}
use Rattle.facet_solver.specs.schema.Schema.{SchemaView}
use Rattle.facet_solver.specs.set.IndexSet.{has_index}
use Rattle.facet_solver.specs.solver.Found.{GivesOrNames}
use Rattle.facet_solver.specs.solver.ShapeAtPath.{shape_at_path}
use Rattle.facet_solver.specs.solver.State.{State}
use Rattle.facet_solver.specs.solver.Tag.{variant_under}
use Rattle.facet_solver.specs.solver.Told.{TellsChoice}
use Rattle.facet_solver.specs.declared.ResolutionHandle.{ResolutionHandle}
use Rattle.facet_solver_uses.specs.KeysToChoice.{UnlessOutOfMemory}
use Rattle.facet_solver_uses.specs.stream.Candidates.{may_hide}
use Rattle.facet_solver_uses.specs.stream.Documents.{Members, no_members, member, object, events_of, member_parts, told_document}
use Rattle.facet_solver_uses.specs.stream.Events.{Reading, read_all}
use Rattle.facet_solver_uses.specs.stream.Tell.{Part, a_key, a_scalar, a_text}
use Rattle.facet_solver_uses.specs.declared.stream.event.Event.{Event}
use Rattle.facet_solver_uses.specs.declared.stream.event.Unread.{Unread}
use Rattle.facet_solver_uses.specs.declared.stream.event.Unread.TheVariants.{Misplaced, Unfinished, Solver}

-- the keys of the members of an object
abbrev pub keys_of_members : Members → List Key
keys_of_members no_members = []
keys_of_members (member key value members) = flat_key key.now ∷ keys_of_members members

-- whether a key below the first level fits a resolution: it has the whole path of the key, or may
-- hide the key, or no resolution of the schema has that path
abbrev pub fits_key : SchemaView → List Name → Resolved → Bool
fits_key schema whole r =
    has_key_path whole r
    || may_hide schema.build.catalogue whole r
    || not (list_any (has_key_path whole) schema.resolutions)

-- whether the shapes that a value fits have that of a resolution at the path, if it has one
abbrev pub fits_shapes : Catalogue → List Name → List ℕ → Resolved → Bool
fits_shapes cat path shapes r = option_map_or (has_index shapes) (shape_at_path cat path r) true

-- whether a text of the first level is the variant of a resolution under the key, or, where it has
-- no variant there, fits as any value does
abbrev pub fits_tag : Catalogue → Name → Name → List ℕ → Resolved → Bool
fits_tag cat tag text shapes r =
    option_map_or (λ variant. name_eq variant text) (variant_under tag r)
    (fits_shapes cat (tag ∷ []) shapes r)

-- whether a part of a document fits a resolution, beside the keys of the first level
abbrev pub fits_part : SchemaView → Resolved → Part → Bool
fits_part schema r (a_key [] key) = true
fits_part schema r (a_key path key) = fits_key schema (whole_path path key) r
fits_part schema r (a_scalar path shapes) = fits_shapes schema.build.catalogue path shapes r
fits_part schema r (a_text (tag ∷ []) text shapes) =
    fits_tag schema.build.catalogue tag text shapes r
fits_part schema r (a_text path text shapes) = fits_shapes schema.build.catalogue path shapes r

-- a document fits a choice and its resolution: its keys of the first level tell the choice, and all
-- that stands outside its lists fits the resolution
pub record FitsDocument
    (schema : SchemaView) (choice : List ℕ) (r : Resolved) (members : Members) : Type 0 where
  pub keys : TellsChoice schema.build schema.root choice (keys_of_members members) r
  pub parts : list_all (fits_part schema r) (member_parts [] members) ≡ true

-- an answer gives the index of a resolution, or names it by its description at its place, or says
-- that memory ran out
abbrev pub FindsOrNames : State → ℕ → Name → Result ResolutionHandle Unread → Type 0
FindsOrNames s index text (Ok handle) = GivesOrNames s index text (Ok handle)
FindsOrNames s index text (Err (Misplaced event)) = ⊥
FindsOrNames s index text (Err Unfinished) = ⊥
FindsOrNames s index text (Err (Solver error)) =
    UnlessOutOfMemory (GivesOrNames s index text) (Err error)

-- where a document fits a choice, the answer to its events gives that choice or names it
abbrev pub FindsDocument : SchemaView → List Event → Result ResolutionHandle Unread → Type 0
FindsDocument schema events answer =
    (members : Members) → events ≡ events_of (object members)
    → (choices : List (List ℕ)) → ListsChoices schema.build schema.root choices
    → (index : ℕ) (choice : List ℕ) → slice_get choices index ≡ Some choice
    → (r : Resolved) → FitsDocument schema choice r members
    → FindsOrNames (told_document schema members) index (description r.selections) answer

-- so does the end of a new reader that has read the events one after another
abbrev pub FindsRead : Reading → Result ResolutionHandle Unread → Type 0
FindsRead r answer =
    (schema : SchemaView) (events : List Event) → r ≡ read_all schema events
    → FindsDocument schema events answer
