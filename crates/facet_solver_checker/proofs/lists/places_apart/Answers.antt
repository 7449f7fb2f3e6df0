use Rattle.std.proofs.Common.{◌<◌, ◌∙◌, arith, get_or, length, sym}
use Rattle.std.proofs.lemmas.Option.{slice_get-get_or}
use Rattle.facet_solver_checker.proofs.EndsApart.{lengths_apart, place_apart_at}
use Rattle.facet_solver_checker.proofs.lists.places_apart.Goals as goal

pub returns-then-first-second : goal.returns-then-first-second
returns-then-first-second c = λ h.
    lengths_apart c.args.apart.now c.args.first.now c.args.second.now c.if-first-second.true

pub returns-then-has : goal.returns-then-has
returns-then-has c = λ h.
    let is = c.args.first.now in
    let js = c.args.second.now in
    let k = c.loop-index.index in
    let first : k < length is = omega arith in
    let second : k < length js = omega arith in
    place_apart_at c.args.apart.now is js k (get_or is k 0) (get_or js k 0)
    (slice_get-get_or is k 0 first) (slice_get-get_or js k 0 second)
    (sym c.has.ensures ∙ c.if-has.true)
