use Rattle.std.proofs.Common.{◌≡◌, ◌+◌, ◌<◌, ◌==◌, ◌∙◌, false, cond, ap, drop, length, sym, arith}
use Rattle.std.proofs.lemmas.Bool.Decides.{nat_tests}
use Rattle.facet_solver_types.specs.declared.grammar.run.Run.TheVariants.{Statement}
use Rattle.facet_solver_types.specs.Passages.{passage_view, up_to}
use Rattle.facet_solver_types.specs.Runs.{run_len}
use Rattle.facet_solver_types.specs.WrittenTypes.{array, slice}
use Rattle.facet_solver_types.proofs.Views.{rest_view, view_len}
use Rattle.facet_solver_types.proofs.grammar.written.in_square.Goals as goal

pub returns-then-len-held : goal.returns-then-len-held
returns-then-len-held c =
    let held = passage_view c.args.held in
    let ts = c.args.held.tokens.now in
    let n = c.run_len-len.result in
    let len = run_len Statement held.tokens in
    let same = view_len ts in
    let shorter : len < length held.tokens = omega (arith, same, c.run_len-len.ensures.value, c.if-len-held.true) in
    let differs : (len == length held.tokens) ≡ false = grind (arith, nat_tests) in
    ap (λ l. array (passage_view c.up_to.result) l) (rest_view ts (n + 1))
    ∙ ap (λ p. array p (drop (n + 1) held.tokens)) c.up_to.ensures
    ∙ ap (λ k. array (up_to k held) (drop (k + 1) held.tokens)) c.run_len-len.ensures.value
    ∙ ap (λ b. cond b (slice held) (array (up_to len held) (drop (len + 1) held.tokens))) (sym differs)
