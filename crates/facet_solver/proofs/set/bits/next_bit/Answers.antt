use Rattle.std.proofs.Common.{ℕ, ◌+◌, ◌*◌, ◌/◌, ◌%◌, ◌^◌, ◌<◌, ◌-◌, get_or, inl, inr, sym, arith, rules, w64}
use Rattle.std.specs.Int.{trailing_zeros}
use Rattle.std.proofs.lemmas.Bool.{cases_lt}
use Rattle.facet_solver.specs.set.Words.{has_bit}
use Rattle.facet_solver.proofs.Words.{not_set, next_in_word, none_in_word, next_in_later, none_in_later, next_member, no_members}
use Rattle.facet_solver.proofs.IndexSet.{next_below}
use Rattle.facet_solver.proofs.set.bits.next_bit.Goals as goal

pub returns-then-word-words-clause-next : goal.returns-then-word-words-clause-next
returns-then-word-words-clause-next c = no_members c.args.words.now c.args.from (λ i high. sym (not_set c.args.words.now i (omega arith)))

pub overflow_add-result : goal.overflow_add-result
overflow_add-result c =
    let word : ℕ → ℕ = λ k. get_or c.args.words.now k 0 in
    let next = next_in_word word c.args.from (search rules) (omega arith) in
    let low : c.args.from + trailing_zeros w64 (word (c.args.from / 64) / 2 ^ (c.args.from % 64)) < 2 ^ 64 - 1 = next_below (has_bit c.args.words.now) c.args.from _ (2 ^ 64 - 1) c.requires next in
    omega arith

pub returns-then-rest-ne0 : goal.returns-then-rest-ne0
returns-then-rest-ne0 c =
    let word : ℕ → ℕ = λ k. get_or c.args.words.now k 0 in
    let next = next_in_word word c.args.from (search rules) (omega arith) in
    record { next = next_member c.args.words.now c.args.from _ next; fits = next_below (has_bit c.args.words.now) c.args.from _ (2 ^ 64 - 1) c.requires next }

pub loop-k-init : goal.loop-k-init
loop-k-init c =
    let word : ℕ → ℕ = λ k. get_or c.args.words.now k 0 in
    none_in_word word c.args.from (omega arith)

pub returns-then-bits-ne0 : goal.returns-then-bits-ne0
returns-then-bits-ne0 c =
    let word : ℕ → ℕ = λ k. get_or c.args.words.now k 0 in
    let next = next_in_later word c.args.from c.loop-k.k (search rules) (omega arith) (omega arith) c.loop-k.invariant in
    record { next = next_member c.args.words.now c.args.from _ next; fits = next_below (has_bit c.args.words.now) c.args.from _ (2 ^ 64 - 1) c.requires next }

pub overflow_add-result-then-bits-ne0 : goal.overflow_add-result-then-bits-ne0
overflow_add-result-then-bits-ne0 c =
    let word : ℕ → ℕ = λ k. get_or c.args.words.now k 0 in
    let next = next_in_later word c.args.from c.loop-k.k (search rules) (omega arith) (omega arith) c.loop-k.invariant in
    let low : c.loop-k.k * 64 + trailing_zeros w64 (get_or c.args.words.now c.loop-k.k 0) < 2 ^ 64 - 1 = next_below (has_bit c.args.words.now) c.args.from _ (2 ^ 64 - 1) c.requires next in
    omega arith

pub overflow_mul-result : goal.overflow_mul-result
overflow_mul-result c =
    let word : ℕ → ℕ = λ k. get_or c.args.words.now k 0 in
    let next = next_in_later word c.args.from c.loop-k.k (search rules) (omega arith) (omega arith) c.loop-k.invariant in
    let low : c.loop-k.k * 64 + trailing_zeros w64 (get_or c.args.words.now c.loop-k.k 0) < 2 ^ 64 - 1 = next_below (has_bit c.args.words.now) c.args.from _ (2 ^ 64 - 1) c.requires next in
    omega arith

pub loop-k-preserved : goal.loop-k-preserved
loop-k-preserved c =
    let word : ℕ → ℕ = λ k. get_or c.args.words.now k 0 in
    none_in_later word c.args.from c.loop-k.k (omega arith) c.loop-k.invariant

pub returns-clause-next : goal.returns-clause-next
returns-clause-next c =
    no_members c.args.words.now c.args.from
    (λ i high.
    elim (cases_lt i (c.loop-k.k * 64)) [
      | inl low ↦ c.loop-k.invariant i high low
      | inr past ↦ sym (not_set c.args.words.now i (omega arith))
    ])
