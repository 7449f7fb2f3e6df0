-- The walk as a loop: what one field leaves to walk, and the fields that lie on a stack. Only
-- private contracts and proofs speak of it.
use Rattle.std.specs.Prelude.{⊤, ℕ, List, [], ◌∷◌, ◌<◌, ◌≤◌, ◌≡◌, Option, Some, None, IfOk, IfSome, MatchResult, Result, length, take}
use Rattle.std.specs.Option.{option_copied}
use Rattle.facet_solver_shape.specs.declared.shape.Field.{Field}
use Rattle.facet_solver_shape.specs.declared.resolution.error.SchemaError.{SchemaError}
use Rattle.facet_solver_shape.specs.Catalogues.{FieldsBelow}
use Rattle.facet_solver_shape.specs.Resolved.{Resolved}
use Rattle.facet_solver.specs.declared.build.nested.tables.NestedTables.{NestedTables}
use Rattle.facet_solver.specs.declared.build.walk.Frame.{Frame}
use Rattle.facet_solver.specs.declared.build.walk.Further.{Further}
use Rattle.facet_solver.specs.build.Build.{Build}
use Rattle.facet_solver.specs.build.Outcome.{Outcome, StopsBy, effect}
use Rattle.facet_solver.specs.build.Place.{Path}
use Rattle.facet_solver.specs.build.Reached.{ServesFields}
use Rattle.facet_solver.specs.build.Walk.{Walking, and_then, walk_fields}
use Rattle.facet_solver.specs.build.Work.{work_of_fields}

-- the walk of fields inside a field, if there are any
abbrev pub walk_inside : Build → Option (List Field) → Path → Walking
walk_inside build None place ns = Some ([], ns)
walk_inside build (Some fs) place ns = walk_fields build fs place ns

-- the walk of what lies on a stack, whose frames stand on the way to a place: the top first
unfoldable pub walk_frames : Build → Path → List Frame → Walking
walk_frames build place [] ns = Some ([], ns)
walk_frames build place (frame ∷ frames) ns =
    and_then (walk_fields build frame.fields.now (take frame.depth place) ns)
    (λ rest. walk_frames build place frames rest)

-- the effect of a walk is that of what is left to walk
abbrev pub Leads : Build → Option (Outcome × List ℕ) → Result Further SchemaError → Path → Resolved
    → Type 0
Leads build e result place r =
    MatchResult result
    (λ further.
    e ≡ effect r (walk_inside build (option_copied further.inside) place further.indices.now))
    (λ err. StopsBy e err)

-- a place that lies in another, or is the same
abbrev pub IsInside : Path → Path → Type 0
IsInside outer place = take (length outer) place ≡ outer

-- fields that refer to shapes below a limit, with less work than an amount, and with the tables
-- that their walk asks for
pub record IsReached (build : Build) (tables : NestedTables) (limit work : ℕ) (fs : List Field)
    : Type 0 where
  pub below : FieldsBelow limit fs
  pub served : ServesFields build tables fs
  pub less : work_of_fields build fs < work

-- what is left to walk refers to shapes below a limit, and is less work than an amount
abbrev pub LeadsBelow : Build → NestedTables → ℕ → ℕ → Result Further SchemaError → Type 0
LeadsBelow build tables limit work result =
    IfOk result
    (λ further. IfSome (option_copied further.inside) (IsReached build tables limit work))

-- frames that can be walked, each on the way to the one above it
abbrev pub AreFrames : Build → NestedTables → ℕ → List Frame → Type 0
AreFrames build tables depth [] = ⊤
AreFrames build tables depth (frame ∷ frames) =
    (frame.depth ≤ depth)
    × (FieldsBelow (length build.catalogue) frame.fields.now
    × (ServesFields build tables frame.fields.now × AreFrames build tables frame.depth frames))
