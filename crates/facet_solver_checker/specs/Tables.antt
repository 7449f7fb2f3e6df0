-- What the tables of a plan say.
use Rattle.std.specs.Prelude.{◌≡◌, ℕ, List, length}
use Rattle.facet_solver_witnesses.specs.declared.place.Fork.{Fork}
use Rattle.facet_solver_witnesses.specs.declared.place.Place.{Place}
use Rattle.facet_solver_checker.specs.declared.tables.Tables.{Tables}
use Rattle.facet_solver_checker.specs.Apartness.{AreNamesRequired}
use Rattle.facet_solver_checker.specs.Atoms.{HaveAtoms}
use Rattle.facet_solver_checker.specs.Forks.{AllSettled, AreSettled, IsFork, IsSettled}
use Rattle.facet_solver_checker.specs.Touched.{AreTouched}

-- what they have is so of the plan's lists and targets
pub record AreTablesOf (tables : Tables) : Type 0 where
  pub required : AreNamesRequired tables.plan.now tables.required.now.names.items
  pub touched : AreTouched tables.plan.now tables.touched.now.flags.items
  pub atoms : HaveAtoms tables.plan.now tables.atoms.now
  pub len : length tables.atoms.now ≡ length tables.plan.now.targets.items

-- their plan has a fork of so many ways
abbrev pub HasFork : Tables → Fork → ℕ → Type 0
HasFork tables fork n = IsFork tables.plan.now fork n

-- a place is settled by them
abbrev pub IsSettledBy : Tables → List Place → Place → Type 0
IsSettledBy tables places place = IsSettled tables.plan.now tables.apart.now places place

-- so are each two of the first ways of a fork
abbrev pub AreSettledBy : Tables → List Place → Fork → ℕ → Type 0
AreSettledBy tables places fork n = AreSettled tables.plan.now tables.apart.now places fork n

-- so are each two ways of each fork
abbrev pub AllSettledBy : Tables → List Place → Type 0
AllSettledBy tables places = AllSettled tables.plan.now tables.apart.now places
