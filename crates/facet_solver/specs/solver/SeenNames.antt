-- How seen keys are gone through, and their names by the category of the fields that they may
-- match.
use Rattle.std.specs.Prelude.{◌≡◌, ◌∷◌, ◌++◌, Bool, true, List, Option, Some, None, filter}
use Rattle.std.specs.Cmp.Lexicographic.{slice_cmp}
use Rattle.std.specs.FinSet as set
use Rattle.std.specs.Ordering.{nat_cmp}
use denote.Bor.{Bor}
use Rattle.facet_solver_shape.specs.declared.resolution.key.FieldCategory.{FieldCategory}
use Rattle.facet_solver_shape.specs.declared.resolution.key.FieldCategory.TheVariants.{Flat, Attribute, Element, Text, Tag, Elements}
use Rattle.facet_solver_shape.specs.declared.resolution.key.FieldKey.{FieldKey}
use Rattle.facet_solver_shape.specs.Fields.{category_eq}
use Rattle.facet_solver_shape.specs.Keys.{Key}
use Rattle.facet_solver_shape.specs.Names.{Name}
use Rattle.facet_solver_shape.specs.Resolved.{names_view}
use Rattle.facet_solver.specs.solver.ByName.{names_among}
use Rattle.facet_solver.specs.declared.solver.conditions.viable.Cursor.{Cursor}
use Rattle.facet_solver.specs.declared.solver.report.seen.SeenNames.{SeenNames}

-- a key, if there is one, and those behind it
abbrev pub keys_from : Option (Bor FieldKey) → List FieldKey → List FieldKey
keys_from None later = later
keys_from (Some key) later = key.now ∷ later

-- the keys from a cursor on
abbrev pub left : Cursor → List FieldKey
left cursor = keys_from cursor.next cursor.later

-- keys that are the last of some keys
abbrev pub IsSuffixOf : List FieldKey → List FieldKey → Type 0
IsSuffixOf keys all = (skipped : List FieldKey) × (skipped ++ keys ≡ all)

-- whether keys of a kind may match fields of a category
abbrev pub may_match : Option FieldCategory → FieldCategory → Bool
may_match dom Flat = true
may_match None category = category_eq category Element
may_match (Some asked) category = category_eq asked category

-- the names of the seen keys that may match fields of a category
abbrev pub names_for : FieldCategory → List Key → set.FinSet (slice_cmp nat_cmp)
names_for category seen = names_among (filter (λ key. may_match key.dom category) seen)

-- the names that are kept for a category
abbrev pub of_category : SeenNames → FieldCategory → List (Bor Name)
of_category names Flat = names.flat.keys
of_category names Attribute = names.attributes.keys
of_category names Element = names.elements.keys
of_category names Text = names.texts.keys
of_category names Tag = names.tags.keys
of_category names Elements = names.lists.keys

-- the names are those of the seen keys, for each category
abbrev pub AreSeenNames : List Key → SeenNames → Type 0
AreSeenNames seen names =
    (category : FieldCategory) → names_view (of_category names category) ≡ names_for category seen
