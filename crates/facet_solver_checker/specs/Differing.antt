-- Where two readings of a value differ first.
use Rattle.std.specs.Prelude.{◌≡◌, ◌+◌, ℕ, List, [], ◌∷◌}
use Rattle.facet_solver_reader.specs.Choices.{Choice, ChoiceAt, Reading, Readings, Taken}
use Rattle.facet_solver_reader.specs.Choices as choices
use Rattle.facet_solver_reader.specs.Choices.{next, having, choosing, taking}
use Rattle.facet_solver_reader.specs.Choices.{reading, passing, taken}

-- a step on the way to where two readings differ: into a value within, a part of a list, a branch,
-- the content of a variant, the value of a member, or one that a catch-all takes
pub data Step : Type 0 where
  into_value : ℕ → Step
  at_part : ℕ → Step
  into_branch : ℕ → Step
  into_variant : ℕ → Step
  into_member : Step
  into_taken : ℕ → Step

-- what a reading takes where another takes something else: a branch of a selection, a variant of an
-- enum that is read as a value, or those variants of one that are read together as one object
pub data Side : Type 0 where
  branch : ℕ → Side
  variant : ℕ → Side
  joined : Side

-- where two readings differ: the steps to it, and what each takes there
pub record Difference : Type 0 where
  pub way : List Step
  pub first : Side
  pub second : Side

-- a difference right here
abbrev pub here : Side → Side → Difference
here a b = record { way = []; first = a; second = b }

-- a difference behind one step more
abbrev pub behind : Step → Difference → Difference
behind step d = record { way = step ∷ d.way; first = d.first; second = d.second }

mutual
  -- two readings differ so
  pub data Differ : Reading → Reading → Difference → Type 0 where
    -- by two variants
    by_variants : (j k : ℕ) (r s : Reading) → (j ≡ k → ⊥)
        → Differ (choices.a_variant j r) (choices.a_variant k s) (here (variant j) (variant k))
    -- by a variant that stands alone, where the other is of those that are read together
    by_alone : (c : Choice) (k : ℕ) (s : Reading)
        → Differ (choices.an_object c) (choices.a_variant k s) (here joined (variant k))
    -- the other way round
    by_joined : (j : ℕ) (r : Reading) (e : Choice)
        → Differ (choices.a_variant j r) (choices.an_object e) (here (variant j) joined)
    -- within the content of one variant
    in_variant : (k : ℕ) (r s : Reading) (d : Difference) → Differ r s d
        → Differ (choices.a_variant k r) (choices.a_variant k s) (behind (into_variant k) d)
    -- at a value within
    in_values : (rs ss : Readings) (k : ℕ) (d : Difference) → DifferEach rs ss k d
        → Differ (choices.each_of rs) (choices.each_of ss) (behind (into_value k) d)
    -- in the choice of an object
    in_object : (c e : Choice) (k : ℕ) (d : Difference) → DifferAt c e k d
        → Differ (choices.an_object c) (choices.an_object e) (behind (at_part k) d)

  -- those at an index differ so
  pub data DifferEach : Readings → Readings → ℕ → Difference → Type 0 where
    first_differ : (r s : Reading) (rs ss : Readings) (d : Difference) → Differ r s d
        → DifferEach (reading r rs) (reading s ss) 0 d
    later_differ : (r s : Reading) (rs ss : Readings) (k : ℕ) (d : Difference)
        → DifferEach rs ss k d → DifferEach (reading r rs) (reading s ss) (1 + k) d

  -- two choices differ so at the part of an index
  pub data DifferAt : Choice → Choice → ℕ → Difference → Type 0 where
    first_part : (a b : ChoiceAt) (c e : Choice) (d : Difference) → DifferPart a b d
        → DifferAt (next a c) (next b e) 0 d
    later_part : (a b : ChoiceAt) (c e : Choice) (k : ℕ) (d : Difference)
        → DifferAt c e k d → DifferAt (next a c) (next b e) (1 + k) d

  -- two choices of one part differ so
  pub data DifferPart : ChoiceAt → ChoiceAt → Difference → Type 0 where
    -- by two branches
    by_branches : (j k : ℕ) (c e : Choice) → (j ≡ k → ⊥)
        → DifferPart (choosing j c) (choosing k e) (here (branch j) (branch k))
    -- in the choice of one branch
    in_branch : (k i : ℕ) (c e : Choice) (d : Difference) → DifferAt c e i d
        → DifferPart (choosing k c) (choosing k e) (behind (into_branch k) (behind (at_part i) d))
    -- at the value of a member
    in_member : (r s : Reading) (d : Difference) → Differ r s d
        → DifferPart (having r) (having s) (behind into_member d)
    -- at a value that a catch-all takes
    in_taken : (t u : Taken) (k : ℕ) (d : Difference) → DifferTaken t u k d
        → DifferPart (taking t) (taking u) (behind (into_taken k) d)

  -- what is taken of the member at an index differs so
  pub data DifferTaken : Taken → Taken → ℕ → Difference → Type 0 where
    first_taken : (r s : Reading) (t u : Taken) (d : Difference) → Differ r s d
        → DifferTaken (taken r t) (taken s u) 0 d
    behind_taken : (r s : Reading) (t u : Taken) (k : ℕ) (d : Difference)
        → DifferTaken t u k d → DifferTaken (taken r t) (taken s u) (1 + k) d
    behind_passed : (t u : Taken) (k : ℕ) (d : Difference)
        → DifferTaken t u k d → DifferTaken (passing t) (passing u) (1 + k) d
