use Rattle.std.proofs.Common.{◌≡◌, ℕ, [], ◌+◌, ◌-◌, ◌*◌, ◌^◌, ◌<◌, ◌≤◌, length, ap, sym, ◌∙◌, arith, w64}
use Rattle.std.proofs.lemmas.Nat.Bits.{bit_at-trailing_zeros}
use Rattle.std.specs.Int.{trailing_zeros}
use Rattle.facet_solver.specs.set.SharedBits.{CommonView, common_bit, common_word}
use Rattle.facet_solver.proofs.IndexSet.{next_below}
use Rattle.facet_solver.proofs.SharedBits.{common_clear, next_by_words, next_common, none_by_words, none_common}
use Rattle.facet_solver.proofs.set.common.CommonIter.next.Goals as goal

pub returns-in-Some-clause-next : goal.returns-in-Some-clause-next
returns-in-Some-clause-next c =
    let s = c.self.inside in
    ap (λ (v : CommonView). v.items) (sym c.self.view_is) ∙ next_common s.words.now s.others.now s.next c.in-Some.index (c.in-Some.ensures.next (common_word s.words.now s.others.now) c.self.invariant.6)

pub overflow_add-self : goal.overflow_add-self
overflow_add-self c =
    let s = c.self.inside in
    let inv = c.self.invariant in
    let next = c.in-Some.ensures.next (common_word s.words.now s.others.now) inv.6 in
    let low : c.in-Some.index < 2 ^ 64 - 1 = next_below (common_bit s.words.now s.others.now) s.next c.in-Some.index (2 ^ 64 - 1) (common_clear s.words.now s.others.now (2 ^ 64 - 1) inv.0) next in
    omega arith

pub invariant_of-self : goal.invariant_of-self
invariant_of-self c =
    let s = c.self.inside in
    let inv = c.self.invariant in
    let next = c.in-Some.ensures.next (common_word s.words.now s.others.now) inv.6 in
    let above : s.next ≤ c.in-Some.index = next.above in
    let at : s.place * 64 ≤ s.next = inv.4 in
    let within : c.in-Some.index < (s.place + 1) * 64 = c.in-Some.ensures.within in
    (inv.0, inv.1, inv.2, inv.3, omega arith, omega arith, inv.6)

pub returns-in-Some-next_shared-clause-next : goal.returns-in-Some-next_shared-clause-next
returns-in-Some-next_shared-clause-next c =
    let s = c.self.inside in
    let inv = c.self.invariant in
    let f : ℕ → ℕ = common_word s.words.now s.others.now in
    let next = next_by_words f s.next (s.place + 1) (length s.words.now) (c.in-Some-next_shared.place, c.in-Some-next_shared.word) inv.5 (c.in_default.ensures.next f inv.6) c.in-Some-next_shared.ensures.shared in
    ap (λ (v : CommonView). v.items) (sym c.self.view_is) ∙ next_common s.words.now s.others.now s.next _ next

pub overflow_add-self-in-Some-next_shared : goal.overflow_add-self-in-Some-next_shared
overflow_add-self-in-Some-next_shared c =
    let s = c.self.inside in
    let inv = c.self.invariant in
    let f : ℕ → ℕ = common_word s.words.now s.others.now in
    let next = next_by_words f s.next (s.place + 1) (length s.words.now) (c.in-Some-next_shared.place, c.in-Some-next_shared.word) inv.5 (c.in_default.ensures.next f inv.6) c.in-Some-next_shared.ensures.shared in
    let low : c.in-Some-next_shared.place * 64 + trailing_zeros w64 c.in-Some-next_shared.word < 2 ^ 64 - 1 =
    next_below (common_bit s.words.now s.others.now) s.next _ (2 ^ 64 - 1) (common_clear s.words.now s.others.now (2 ^ 64 - 1) inv.0) next in
    omega arith

pub invariant_of-self-in-Some-next_shared : goal.invariant_of-self-in-Some-next_shared
invariant_of-self-in-Some-next_shared c =
    let s = c.self.inside in
    let inv = c.self.invariant in
    let shared = c.in-Some-next_shared.ensures.shared in
    let word : trailing_zeros w64 c.in-Some-next_shared.word < 64 = (bit_at-trailing_zeros w64 c.in-Some-next_shared.word shared.some shared.fits).0 in
    (inv.0, inv.1, inv.2, shared.within, omega arith, omega arith, sym shared.is)

pub returns-in-None-clause-next : goal.returns-in-None-clause-next
returns-in-None-clause-next c =
    let s = c.self.inside in
    let inv = c.self.invariant in
    let f : ℕ → ℕ = common_word s.words.now s.others.now in
    let none : c.args.self.now.items ≡ [] =
    ap (λ (v : CommonView). v.items) (sym c.self.view_is) ∙ none_common s.words.now s.others.now s.next (none_by_words f s.next (s.place + 1) (c.in_default.ensures.next f inv.6) c.in-None.ensures.shared) in
    none
