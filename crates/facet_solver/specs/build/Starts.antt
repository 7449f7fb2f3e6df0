-- Where the choices of variants begin among those of their enum, and a table of that by index.
-- Only private contracts and proofs speak of it.
use Rattle.std.specs.Prelude.{◌≡◌, ◌+◌, ◌<◌, ◌≤◌, ◌^◌, ⊤, ℕ, List, [], Option, Some, Vec, get_or, length, slice_get, take, true}
use Rattle.std.specs.Option.{option_map_or}
use Rattle.std.specs.declared.alloc.Global.{Global}
use Rattle.facet_solver_shape.specs.declared.shape.Shape.{Shape}
use Rattle.facet_solver_shape.specs.declared.shape.ShapeKind.{ShapeKind}
use Rattle.facet_solver_shape.specs.declared.shape.ShapeKind.TheVariants.{Enum}
use Rattle.facet_solver_shape.specs.declared.shape.Variant.{Variant}
use Rattle.facet_solver.specs.build.Build.{Build, kind_at, repr_for}
use Rattle.facet_solver.specs.build.Count.{count_variants}
use Rattle.facet_solver_shape.specs.Representation.{is_walked}

-- how many choices the variants before an index have
abbrev pub count_before : Build → List Variant → ℕ → ℕ
count_before build vs i = count_variants build true (take i vs)

-- the starts of variants: how many choices those before each have, where that is below 2^64
pub record AreStarts (build : Build) (vs : List Variant) (starts : List ℕ) : Type 0 where
  pub all : length starts ≡ length vs
  pub each : (i start : ℕ) → slice_get starts i ≡ Some start → count_before build vs i < 2 ^ 64
      → start ≡ count_before build vs i

-- the starts of a shape's variants, if it is an enum
abbrev pub AreStartsOf : Build → ShapeKind → List ℕ → Type 0
AreStartsOf build (Enum variants) starts = AreStarts build variants.items starts
AreStartsOf build _ starts = ⊤

-- starts that may be absent; then there are none
abbrev pub starts_or_none : Option (Vec ℕ Global) → List ℕ
starts_or_none starts = option_map_or (λ (some : Vec ℕ Global). some.items) starts []

-- what a table has at an index
abbrev pub starts_at : List (Vec ℕ Global) → ℕ → List ℕ
starts_at table id = starts_or_none (slice_get table id)

-- a table also has these starts at an index, where it ends
pub record IsMoreStarts (index : ℕ) (starts : List ℕ) (old new : List (Vec ℕ Global)) : Type 0 where
  pub ends : length new ≤ index + 1
  pub earlier : (id : ℕ) → id < index → starts_at new id ≡ starts_at old id
  pub here : starts_at new index ≡ starts

-- a table has the starts of the shape at an index
abbrev pub HasStarts : Build → List (Vec ℕ Global) → ℕ → Type 0
HasStarts build table id = AreStartsOf build (kind_at build.catalogue id) (starts_at table id)

-- a table has the starts of each shape whose contents are walked where it is flattened
abbrev pub HasWalkedStarts : Build → List (Vec ℕ Global) → Type 0
HasWalkedStarts build table = (id : ℕ) (s : Shape) → slice_get build.catalogue id ≡ Some s
    → is_walked (repr_for build s) ≡ true → HasStarts build table id

-- the last of some starts that is not above a rank
pub record IsLastStart (starts : List ℕ) (k i : ℕ) : Type 0 where
  pub within : i < length starts
  pub from : get_or starts i 0 ≤ k
  pub next : (j : ℕ) → i < j → j < length starts → k < get_or starts j 0
