use Rattle.std.proofs.Common.{◌≡◌, ◌<◌, ◌+◌, ◌++◌, ◌∷◌, [], append_assoc, append-nil, length, sym, ap, ◌∙◌, arith}
use Rattle.std.proofs.lemmas.Bool.Decides.{nat_tests}
use Rattle.facet_solver_types.specs.Passages.{after, passage_view, up_to}
use Rattle.facet_solver_types.specs.Pieces.{pieces}
use Rattle.facet_solver_types.specs.WrittenTypes.{passages_view}
use Rattle.facet_solver_types.proofs.Listed.{pieces_more, pieces_none, view_more}
use Rattle.facet_solver_types.proofs.Views.{view_len}
use Rattle.facet_solver_types.proofs.grammar.written.pieces.Goals as goal

pub loop-left-preserved : goal.loop-left-preserved
loop-left-preserved c =
    let l = c.loop-left in
    let run = c.args.run in
    let left = passage_view l.left in
    let found = passages_view l.found.items in
    let rest = passage_view c.after_comma-left.result in
    let seen = view_len l.left.tokens.now in
    let filled : 0 < length l.left.tokens.now = grind (arith, nat_tests) in
    let some : 0 < length left.tokens = omega (arith, seen, filled) in
    let piece = c.up_to.result in
    l.invariant
    ∙ ap (λ ps. found ++ ps) (pieces_more run left some)
    ∙ ap (λ k. found ++ (up_to k left ∷ pieces run (after (k + 1) left))) (sym c.run_len-len.ensures.value)
    ∙ ap (λ p. found ++ (p ∷ pieces run (after (c.run_len-len.result + 1) left))) (sym c.up_to.ensures)
    ∙ ap (λ p. found ++ (passage_view piece ∷ pieces run p)) (sym c.after_comma-left.ensures.value)
    ∙ sym (append_assoc found (passage_view piece ∷ []) (pieces run rest))
    ∙ ap (λ fs. fs ++ pieces run rest) (sym (view_more passage_view l.found.items piece) ∙ ap passages_view (sym c.in_ok-push.ensures.items))

pub returns : goal.returns
returns c =
    let l = c.loop-left in
    let seen = view_len l.left.tokens.now in
    let none : length l.left.tokens.now ≡ 0 = grind (arith, nat_tests) in
    let found = passages_view l.found.items in
    sym (l.invariant ∙ ap (λ ps. found ++ ps) (pieces_none c.args.run (passage_view l.left) (seen ∙ none)) ∙ append-nil found)
