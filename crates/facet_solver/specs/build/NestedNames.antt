-- Names of fields with the shapes behind each, which nested key paths go through. Only private
-- contracts and proofs speak of them.
use denote.Bor.{Bor}
use Rattle.std.specs.Prelude.{◌≡◌, ◌∷◌, [], ℕ, Bool, true, List, map}
use Rattle.std.specs.List.{AllByRecursion}
use Rattle.std.specs.List.Sorted.{IsStrictlyIncreasing, IsStrictlySortedBy}
use Rattle.facet_solver_shape.specs.Names.{Name, name_ref_cmp}
use Rattle.facet_solver.specs.build.Nested.{KeyPaths, Under, named, paths_of_each}
use Rattle.facet_solver.specs.declared.build.nested.shapes_behind.ShapesBehind.{ShapesBehind}
use Rattle.facet_solver.specs.declared.build.nested.shapes_behind.ShapesBehind.TheVariants.{Nothing, One, Several}

-- the shapes behind a name
abbrev pub shapes_behind : ShapesBehind → List ℕ
shapes_behind Nothing = []
shapes_behind (One id) = id ∷ []
shapes_behind (Several ids) = ids.items

-- each of the shapes is there once, in rising order
abbrev pub HasEachOnce : ShapesBehind → Type 0
HasEachOnce shapes = IsStrictlyIncreasing (shapes_behind shapes)

-- names, each with the shapes behind it
abbrev pub Names : Type 0
Names = List (Bor Name × ShapesBehind)

-- each name is before those after it
abbrev pub AreRising : Names → Type 0
AreRising names = IsStrictlySortedBy name_ref_cmp (map (λ e. e.0) names)

-- the shapes behind names pass a test
abbrev pub NamesLead : (ℕ → Bool) → Names → Type 0
NamesLead passes names =
    AllByRecursion (λ e. AllByRecursion (λ id. passes id ≡ true) (shapes_behind e.1)) names

-- the key paths that names stand for, from what is under the shapes behind each
abbrev pub paths_of_names : Under → Names → KeyPaths
paths_of_names under names =
    paths_of_each (λ e. named e.0.now (paths_of_each under (shapes_behind e.1))) names
