-- Ranks of choices, and the parts that a choice is put together from. Only private contracts and
-- proofs speak of it.
use Rattle.facet_solver.specs.build.Build.{Build}
use Rattle.std.specs.Prelude.{ℕ, zero, suc, ◌<◌, ◌≤◌, ◌^◌, ◌≡◌, ◌+◌, List, [], ◌∷◌, ◌++◌, flat_map, sum_by, get_or, length, Bool, true, false, Option, Some, None, ⊤}
use Rattle.std.specs.List.{AllByRecursion}
use Rattle.facet_solver_shape.specs.Catalogues.{FieldsBelow}
use Rattle.facet_solver.specs.declared.build.choices.Part.{Part}
use Rattle.facet_solver.specs.declared.build.choices.Part.TheVariants.{Index, Fields}
use Rattle.facet_solver.specs.build.Count.{count_fields}
use Rattle.facet_solver.specs.build.Listing.{Choices, choices_of_fields}
use Rattle.facet_solver.specs.build.Work.{work_of_fields}

-- a rank among so many choices, which are fewer than 2^64
abbrev pub IsRank : ℕ → ℕ → Type 0
IsRank k n = (k < n) × (n < 2 ^ 64)

-- the choice of a rank
abbrev pub choice_at : Choices → ℕ → List ℕ
choice_at cs k = get_or cs k []

-- the indices that a part stands for
abbrev pub indices_of : Build → Part → List ℕ
indices_of build (Index k) = k ∷ []
indices_of build (Fields fs k) = choice_at (choices_of_fields build fs.now) k

-- a part's fields are of the catalogue, and have a choice of its rank
abbrev pub IsPart : Build → Part → Type 0
IsPart build (Index k) = ⊤
IsPart build (Fields fs k) =
    FieldsBelow (length build.catalogue) fs.now × IsRank k (count_fields build fs.now)

-- how much there is to do for a part
abbrev pub work_of_part : Build → Part → ℕ
work_of_part build (Index k) = 1
work_of_part build (Fields fs k) = 1 + work_of_fields build fs.now

-- parts stand for indices, one part after another
pub record StandFor (build : Build) (parts : List Part) (indices : List ℕ) : Type 0 where
  pub are : AllByRecursion (IsPart build) parts
  pub stand : flat_map (indices_of build) parts ≡ indices

-- parts that stand for indices are added, with no more to do than so much
pub record Adds (build : Build) (old new : List Part) (indices : List ℕ) (work : ℕ) : Type 0 where
  pub added : List Part
  pub is : new ≡ old ++ added
  pub stand : StandFor build added indices
  pub within : sum_by (work_of_part build) added ≤ work

-- the rank where a field is present, of one that may be absent or not
abbrev pub present_rank : Bool → ℕ → Option ℕ
present_rank false k = Some k
present_rank true zero = None
present_rank true (suc k) = Some k

-- the part that says whether the field is present, if it may be absent
abbrev pub presence : Bool → ℕ → List Part
presence false k = []
presence true zero = Index 0 ∷ []
presence true (suc k) = Index 1 ∷ []
