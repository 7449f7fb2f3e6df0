-- When a checker of types shows a table, and when it has none.
use Rattle.std.specs.Prelude.{◌<◌, ◌≤◌, ℕ, Option, Some, None, Result, Ok, Err, ⊤}
use Rattle.std.specs.declared.alloc.Global.{Global}
use Rattle.std.specs.declared.string.String.{String}
use Rattle.facet_solver.specs.build.Build.{Build}
use Rattle.facet_solver.specs.build.Choice.{IsRefusal}
use Rattle.facet_solver.specs.build.Count.{IsCountOf}
use Rattle.facet_solver_uses.specs.declared.ambiguity_table.NoTable.{NoTable}
use Rattle.facet_solver_uses.specs.declared.ambiguity_table.NoTable.TheVariants.{Schema, TooMany}

-- a number above a bound; none is one that no u64 holds
abbrev pub IsAbove : ℕ → Option ℕ → Type 0
IsAbove most None = ⊤
IsAbove most (Some count) = most < count

-- the choices are counted, and there are at most as many as asked for
pub record HasAtMost (build : Build) (root most : ℕ) : Type 0 where
  pub count : ℕ
  pub counted : IsCountOf build.catalogue root build.representation (Some count)
  pub within : count ≤ most

-- a table is that of at most as many choices as asked for; or there are more, and as many as said;
-- or the schema is refused
abbrev pub GivesTable : Build → ℕ → ℕ → Result (String Global) NoTable → Type 0
GivesTable build root most (Ok table) = HasAtMost build root most
GivesTable build root most (Err (TooMany count)) =
    IsCountOf build.catalogue root build.representation count × IsAbove most count
GivesTable build root most (Err (Schema error)) = IsRefusal build root error
