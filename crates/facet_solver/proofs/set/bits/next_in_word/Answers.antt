use Rattle.std.proofs.Common.{◌≡◌, ℕ, ◌+◌, ◌*◌, ◌/◌, ◌%◌, ◌^◌, ◌<◌, ap, sym, subst, ◌∙◌, ◌≤◌, arith, w64}
use Rattle.std.specs.Int.{trailing_zeros}
use Rattle.facet_solver.specs.set.SharedBits.{IsNext}
use Rattle.facet_solver.specs.set.Words.{bit_of}
use Rattle.facet_solver.proofs.Words.{next_in_word, none_in_word}
use Rattle.facet_solver.proofs.SharedBits.{lowest_within}
use Rattle.facet_solver.proofs.set.bits.next_in_word.Goals as goal

pub returns-then-rest-eq0-clause-next : goal.returns-then-rest-eq0-clause-next
returns-then-rest-eq0-clause-next c = λ f is.
    let at : f (c.args.from / 64) ≡ c.args.word = ap f c.if-from-place.false ∙ is in
    λ i high below. none_in_word f c.args.from (ap (λ w. w / 2 ^ (c.args.from % 64)) at ∙ c.if-rest-eq0.true) i high (let same : c.args.from / 64 ≡ c.args.place = c.if-from-place.false in omega arith)

pub overflow_add-result : goal.overflow_add-result
overflow_add-result c =
    let low = lowest_within c.args.word (c.args.from % 64) c.ranges.word.fits (omega arith) in
    let same : c.args.from / 64 ≡ c.args.place = c.if-from-place.false in
    let room : (c.args.place + 1) * 64 ≤ 2 ^ 64 = c.requires.fits in
    let small : c.args.from + trailing_zeros w64 (c.args.word / 2 ^ (c.args.from % 64)) < 2 ^ 64 = omega arith in
    omega arith

pub returns-clause-next : goal.returns-clause-next
returns-clause-next c = λ f is.
    let at : c.args.word ≡ f (c.args.from / 64) = sym (ap f c.if-from-place.false ∙ is) in
    let some : 0 < c.args.word / 2 ^ (c.args.from % 64) = omega arith in
    let fits : c.args.word < 2 ^ 64 = c.ranges.word.fits in
    let Next : ℕ → Type 0 = λ w. IsNext (bit_of f) c.args.from (c.args.from + trailing_zeros w64 (w / 2 ^ (c.args.from % 64))) in
    subst Next (sym at) (next_in_word f c.args.from (rw (sym at) fits) (rw (sym at) some))

pub returns-clause-within : goal.returns-clause-within
returns-clause-within c =
    let low = lowest_within c.args.word (c.args.from % 64) c.ranges.word.fits (omega arith) in
    let same : c.args.from / 64 ≡ c.args.place = c.if-from-place.false in
    omega arith
