-- That pairs which are closed have each two targets that read one value.
use Rattle.std.proofs.Common.{ℕ, zero, suc, arith}
use Rattle.facet_solver_reader.specs.Rules.{Rules}
use Rattle.facet_solver_checker.specs.Pairs.{AreAmong, IsClosed, IsClosedDown, Pairs}
use Rattle.facet_solver_reader.specs.Readings.{ReadsValue}
use Rattle.facet_solver_reader.specs.Values.{ReadsDown}
use Rattle.facet_solver_reader.specs.Documents.{depth}

-- however values within are read, so are they where fewer nest
pub closed_down : (rules : Rules) (S : Pairs) → IsClosed rules S → IsClosedDown rules S
closed_down rules S closed d among m n =
    closed (ReadsDown rules d) (ReadsDown rules d) among m n

-- values that nest fewer than so many deep are of a pair
pub among_down : (rules : Rules) (S : Pairs) → IsClosedDown rules S → (d : ℕ)
    → AreAmong S (ReadsDown rules d) (ReadsDown rules d)
among_down rules S closed zero t u v r s h k = absurd h
among_down rules S closed (suc d) t u v r s h k =
    closed d (among_down rules S closed d) h.least k.least t u v r s
    (h.holds h.least (omega arith)) (k.holds k.least (omega arith))

-- so is each value
pub closed_is_sound : (rules : Rules) (S : Pairs) → IsClosedDown rules S
    → AreAmong S (ReadsValue rules) (ReadsValue rules)
unfolding ReadsValue
closed_is_sound rules S closed t u v r s h k =
    among_down rules S closed (suc (depth v)) t u v r s h k
