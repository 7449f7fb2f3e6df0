-- Two readings of one value by two variants of an enum.
use Rattle.std.specs.Prelude.{◌≡◌, ◌<◌, ⊤, ℕ, length}
use Rattle.facet_solver_reader.specs.Choices.{Reading, a_variant, an_object}
use Rattle.facet_solver_reader.specs.Documents.{Tree}
use Rattle.facet_solver_reader.specs.Objects.{Reads}
use Rattle.facet_solver_reader.specs.Parts.{Target}
use Rattle.facet_solver_reader.specs.Rules.{End, a_named_variant, an_untagged_variant}
use Rattle.facet_solver_checker.specs.Differing.{Side, joined, variant}

-- a reading of an enum takes the variant, or is by those that are read together
abbrev pub Takes : Side → Reading → Type 0
Takes joined (an_object c) = ⊤
Takes (variant k) (a_variant j r) = j ≡ k
Takes _ _ = ⊥

-- one value has two readings as a target, one of each side
pub record VariantsMeet (reads : Reads) (t : Target) (a b : Side) : Type 0 where
  pub value : Tree
  pub first : Reading
  pub second : Reading
  pub first_reads : reads t value first
  pub second_reads : reads t value second
  pub first_takes : Takes a first
  pub second_takes : Takes b second

-- an enum has the variant, or variants that are read together
abbrev pub HasSide : End → Side → Type 0
HasSide (a_named_variant vs) (variant k) = k < length vs
HasSide (an_untagged_variant list alone) (variant k) = k < length alone
HasSide (an_untagged_variant list alone) joined = ⊤
HasSide _ _ = ⊥
