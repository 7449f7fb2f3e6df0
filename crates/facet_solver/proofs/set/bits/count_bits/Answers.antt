use Rattle.std.proofs.Common.{◌≡◌, ◌+◌, ◌-◌, ◌*◌, ◌^◌, get_or, length, filter, sym, ap, ◌∙◌, arith, rules}
use Rattle.std.specs.Int.Count.{ones}
use Rattle.facet_solver.specs.set.IndexSet.{upto}
use Rattle.facet_solver.specs.set.Words.{has_bit}
use Rattle.facet_solver.proofs.Words.{count_more, members_upto}
use Rattle.facet_solver.proofs.IndexSet.{count_within}
use Rattle.facet_solver.proofs.set.bits.count_bits.Goals as goal

pub overflow_add-total : goal.overflow_add-total
overflow_add-total c =
    let more = count_more c.args.words.now c.loop-word.word-index (search rules) in
    let most = count_within (has_bit c.args.words.now) ((c.loop-word.word-index + 1) * 64) (2 ^ 64 - 1) c.requires in
    let before = c.loop-word.invariant in
    omega arith

pub loop-word-preserved : goal.loop-word-preserved
loop-word-preserved c =
    ap (λ n. n + ones (get_or c.args.words.now c.loop-word.word-index 0)) c.loop-word.invariant
    ∙ sym (count_more c.args.words.now c.loop-word.word-index (search rules))

pub returns : goal.returns
returns c =
    let all : c.loop-word.word-index ≡ length c.args.words.now = omega arith in
    c.loop-word.invariant
    ∙ ap (λ n. length (filter (has_bit c.args.words.now) (upto (n * 64)))) all
    ∙ ap length (sym (members_upto c.args.words.now))
