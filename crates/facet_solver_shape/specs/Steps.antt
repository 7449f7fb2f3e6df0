-- Counts of steps.
use Rattle.std.specs.Prelude.{ℕ, ◌≤◌}

-- how many words of an index were read, how often a resolution was searched for a field, how many
-- fields were visited
pub record StepCounts : Type 0 where
  pub words : ℕ
  pub searches : ℕ
  pub visits : ℕ

-- no count falls, from old to new
pub record NoCountFalls (old new : StepCounts) : Type 0 where
  pub words : old.words ≤ new.words
  pub searches : old.searches ≤ new.searches
  pub visits : old.visits ≤ new.visits
