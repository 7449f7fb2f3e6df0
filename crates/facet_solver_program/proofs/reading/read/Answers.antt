use Rattle.std.proofs.Common.{◌≡◌, ◌∙◌, Bool, true, false, cond, Some, None, ap, sym}
use Rattle.serde_json.specs.Data.{Data}
use Rattle.serde_json.specs.View.{view}
use Rattle.serde_json.specs.Written.{has_float}
use Rattle.facet_solver_program.specs.Reading.{whole}
use Rattle.facet_solver_program.proofs.reading.read.Goals as goal

-- a value with no float is whole
no_float : (d : Data) → has_float d ≡ false → whole (Some d) ≡ Some d
no_float d e = ap (λ (b : Bool). cond b None (Some d)) e

-- and another is not
some_float : (d : Data) → has_float d ≡ true → whole (Some d) ≡ None
some_float d e = ap (λ (b : Bool). cond b None (Some d)) e

pub returns-in-Ok-clause-bad : goal.returns-in-Ok-clause-bad
returns-in-Ok-clause-bad c =
    let d = view c.in-Ok.value in
    λ _. (Some d, c.in-Ok.ensures.ok, some_float d (sym c.has_float.ensures ∙ c.if-has_float.true))

pub returns-in-Ok-2-clause-ok : goal.returns-in-Ok-2-clause-ok
returns-in-Ok-2-clause-ok c =
    let d = view c.in-Ok.value in
    (Some d, c.in-Ok.ensures.ok, no_float d (sym c.has_float.ensures ∙ c.if-has_float.false))
