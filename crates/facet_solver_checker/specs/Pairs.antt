-- Pairs of targets that read one value.
use Rattle.std.specs.Prelude.{ℕ}
use Rattle.facet_solver_reader.specs.Documents.{Tree}
use Rattle.facet_solver_reader.specs.Parts.{Target}
use Rattle.facet_solver_reader.specs.Choices.{Reading}
use Rattle.facet_solver_reader.specs.Objects.{Reads}
use Rattle.facet_solver_reader.specs.Rules.{Rules}
use Rattle.facet_solver_reader.specs.Values.{ReadsDown, ReadsWithin}

-- pairs of targets
abbrev pub Pairs : Type 1
Pairs = Target → Target → Type 0

-- whatever value is read in the one way as one target, and in the other as another, is of a pair
abbrev pub AreAmong : Pairs → Reads → Reads → Type 0
AreAmong S first second =
    (t u : Target) (v : Tree) (r s : Reading) → first t v r → second u v s → S t u

-- what two targets read one value is a pair, where what its values within are read as are pairs:
-- however those are read
abbrev pub IsClosed : Rules → Pairs → Type 1
IsClosed rules S =
    (first second : Reads) → AreAmong S first second → (m n : ℕ)
    → AreAmong S (ReadsWithin rules first m) (ReadsWithin rules second n)

-- the same, where values that nest fewer than so many deep are read
abbrev pub IsClosedDown : Rules → Pairs → Type 0
IsClosedDown rules S =
    (depth : ℕ) → AreAmong S (ReadsDown rules depth) (ReadsDown rules depth) → (m n : ℕ)
    → AreAmong S (ReadsWithin rules (ReadsDown rules depth) m)
    (ReadsWithin rules (ReadsDown rules depth) n)
