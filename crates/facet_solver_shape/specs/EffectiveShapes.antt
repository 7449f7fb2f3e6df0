-- Effective shapes: where `inner`, and else `proxy`, lead to.
use Rattle.std.specs.Prelude.{ℕ, zero, suc, List, Option, Some, None, length, slice_get}
use Rattle.std.specs.Option.{option_or}
use Rattle.facet_solver_shape.specs.declared.shape.Shape.{Shape}

-- where the effective shape is sought next: `inner` before `proxy`
abbrev pub next_inside : Option Shape → Option ℕ
next_inside None = None
next_inside (Some s) = option_or s.inner s.proxy

-- from one index on to the next, if there is one
abbrev pub go_on : (ℕ → ℕ) → ℕ → Option ℕ → ℕ
go_on below id None = id
go_on below id (Some next) = below next

-- the effective shape, at most n steps away
abbrev pub effective_within : ℕ → List Shape → ℕ → ℕ
effective_within zero shapes id = id
effective_within (suc n) shapes id =
    go_on (effective_within n shapes) id (next_inside (slice_get shapes id))

-- the effective shape: `inner` is followed to its end, then `proxy`, and again from there. Both
-- refer to earlier shapes, so no chain is longer than the list
abbrev pub effective : List Shape → ℕ → ℕ
effective shapes id = effective_within (length shapes) shapes id
