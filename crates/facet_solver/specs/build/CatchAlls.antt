-- The catch-alls that a walk emits: of each category the last one is kept. Only private contracts
-- and proofs speak of them.
use Rattle.std.specs.Prelude.{List, [], ◌∷◌, if◌then◌else◌, Option, Some, None}
use Rattle.std.specs.Option.{option_or}
use Rattle.std.specs.Ordering.{eq_by_cmp}
use Rattle.facet_solver_shape.specs.declared.resolution.key.FieldCategory.{FieldCategory}
use Rattle.facet_solver_shape.specs.declared.shape.Field.{Field}
use Rattle.facet_solver_shape.specs.Fields.{FieldView}
use Rattle.facet_solver_shape.specs.Keys.{category_cmp}
use Rattle.facet_solver_shape.specs.Resolved.{Resolved, with_catch_all}
use Rattle.facet_solver.specs.declared.build.contribution.Contribution.{Contribution}
use Rattle.facet_solver.specs.build.Place.{Path}
use Rattle.facet_solver.specs.build.Contribution.{contribution_of_field, has_last}
use Rattle.facet_solver.specs.build.Build.{Build}
use Rattle.facet_solver.specs.build.Emissions.{Emission, a_catch_all}
use Rattle.facet_solver.specs.build.Walk.{Walked, walk_fields}

-- what was emitted
abbrev pub emitted : Walked → List Emission
emitted None = []
emitted (Some w) = w.0

-- what the walk of fields emits that takes no index
abbrev pub emitted_by : Build → List Field → Path → List Emission
emitted_by build fs place = emitted (walk_fields build fs place [])

-- an emission, where it is a catch-all of a category
abbrev pub as_catch_all : FieldCategory → Emission → Option FieldView
as_catch_all category (a_catch_all f) =
    if eq_by_cmp category_cmp category f.category then Some f else None
as_catch_all category _ = None

-- the last catch-all of a category
abbrev pub last_catch_all : FieldCategory → List Emission → Option FieldView
last_catch_all category [] = None
last_catch_all category (e ∷ es) =
    option_or (last_catch_all category es) (as_catch_all category e)

-- with a catch-all in the place of the one of its category, if there is one
abbrev pub with_last : FieldCategory → Option FieldView → Resolved → Resolved
with_last category None r = r
with_last category (Some f) r = with_catch_all r category f

-- the last of fields that contribute a catch-all of a category
abbrev pub last_with : List Contribution → Build → FieldCategory → List Field → Option Field
last_with table build category [] = None
last_with table build category (f ∷ fs) =
    option_or (last_with table build category fs)
    (if has_last category (contribution_of_field table build f) then Some f else None)
