-- A few bits of names, by which most other names are known to be missing.
use Rattle.std.specs.Prelude.{◌+◌, ◌-◌, ◌*◌, ◌%◌, ℕ, Bool, IsTrue, List, length, nat_eq, slice_index}
use Rattle.std.specs.Int.{bit_at}
use Rattle.facet_solver_shape.specs.Names.{Name}
use Rattle.facet_solver_reader.specs.declared.count.name_filter.NameFilter.{NameFilter}
use Rattle.facet_solver_reader.specs.Documents.{Member}
use Rattle.facet_solver_reader.specs.Objects.{HasNamed}

-- the bit that stands for a name: by its length, its first byte and its last two
unfoldable pub bit_of : Name → ℕ
bit_of x =
    (length x % 64 + 3 * slice_index x 0 + 7 * slice_index x (length x - 2)
    + 13 * slice_index x (length x - 1)) % 64

-- whether the bit of a name is set
abbrev pub may_have : NameFilter → Name → Bool
may_have filter x = nat_eq (bit_at filter.bits (bit_of x)) 1

-- the bit of each name of members is set
pub record HoldsNames (members : List Member) (filter : NameFilter) : Type 0 where
  pub holds : (x : Name) → HasNamed members x → IsTrue (may_have filter x)
