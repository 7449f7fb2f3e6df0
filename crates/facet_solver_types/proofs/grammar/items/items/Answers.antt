use Rattle.std.proofs.Common.{◌≡◌, ◌≢◌, ◌<◌, [], Err, length, sym, ap, ◌∙◌, arith, rules}
use Rattle.std.proofs.lemmas.Bool.Decides.{nat_tests}
use Rattle.facet_solver_types.specs.declared.fault.Fault.TheVariants.{OutOfMemory}
use Rattle.facet_solver_types.specs.Declarations.{items_view}
use Rattle.facet_solver_types.specs.Enclosings.{around_after, around_view, context_of, piece_view}
use Rattle.facet_solver_types.specs.Items.{items, items_in, piece}
use Rattle.facet_solver_types.specs.Passages.{after, passage_view}
use Rattle.facet_solver_types.specs.Starts.{piece_len}
use Rattle.facet_solver_types.proofs.Listed.{before, before_none}
use Rattle.facet_solver_types.proofs.ListedItems.{item_fault, item_ok, items_read}
use Rattle.facet_solver_types.proofs.Views.{view_len}
use Rattle.facet_solver_types.proofs.grammar.items.items.Goals as goal

pub loop-left-init : goal.loop-left-init
loop-left-init c =
    let rest = passage_view c.after-left.result in
    let first = c.after-left.ensures.value ∙ ap (λ n. after n (passage_view c.args.passage)) c.attributes_len.ensures.value in
    ap (items_in []) (sym first)
    ∙ before_none (items_in [] rest)
    ∙ ap (λ found. before (items_view found) (items_in [] rest)) (sym c.new-found.ensures.items)
    ∙ ap (λ around. before (items_view c.new-found.result.items) (items_in (around_view around) rest)) (sym c.new-around.ensures.items)

pub returns-in_err-piece : goal.returns-in_err-piece
returns-in_err-piece c =
    let l = c.loop-left in
    let left = passage_view l.left in
    let fault = c.in_err-piece.field-0.0 in
    let seen = view_len l.left.tokens.now in
    let filled : 0 < length l.left.tokens.now = grind (arith, nat_tests) in
    let some : 0 < length left.tokens = omega (arith, seen, filled) in
    let len_is = c.piece_len-len.ensures.value ∙ ap (λ b. piece_len b left.tokens) (c.context_of.ensures ∙ ap (λ around. context_of (around_view around)) c.deref.ensures.value) in
    let same = ap (λ around. piece (around_view around) (passage_view c.up_to.result)) (sym c.deref-in-loop-left.ensures.value) in
    let told : fault ≢ OutOfMemory → items (passage_view c.args.passage) ≡ Err fault =
    λ real. l.invariant
    ∙ item_fault (around_view l.around.items) (items_view l.found.items) left c.piece_len-len.result (passage_view c.up_to.result) some c.piece_len-len.ensures.some len_is c.up_to.ensures fault (same ∙ c.in_err-piece.ensures real)
    in
    search (rules, told)

pub loop-left-preserved : goal.loop-left-preserved
loop-left-preserved c =
    let l = c.loop-left in
    let left = passage_view l.left in
    let rest = passage_view c.after-left-in-loop-left.result in
    let seen = view_len l.left.tokens.now in
    let filled : 0 < length l.left.tokens.now = grind (arith, nat_tests) in
    let some : 0 < length left.tokens = omega (arith, seen, filled) in
    let len_is = c.piece_len-len.ensures.value ∙ ap (λ b. piece_len b left.tokens) (c.context_of.ensures ∙ ap (λ around. context_of (around_view around)) c.deref.ensures.value) in
    let same = ap (λ around. piece (around_view around) (passage_view c.up_to.result)) (sym c.deref-in-loop-left.ensures.value) in
    let x = c.in_ok-piece.piece in
    l.invariant
    ∙ item_ok (around_view l.around.items) (items_view l.found.items) left c.piece_len-len.result (passage_view c.up_to.result) some c.piece_len-len.ensures.some len_is c.up_to.ensures rest (piece_view x) c.after-left-in-loop-left.ensures.value (same ∙ c.in_ok-piece.ensures)
    ∙ ap (λ found. before found (items_in (around_after (piece_view x) (around_view l.around.items)) rest)) (sym c.in_ok-follow.ensures.found)
    ∙ ap (λ around. before (items_view c.follow.new.found.items) (items_in around rest)) (sym c.in_ok-follow.ensures.around)

pub returns : goal.returns
returns c =
    let l = c.loop-left in
    let seen = view_len l.left.tokens.now in
    let none : length l.left.tokens.now ≡ 0 = grind (arith, nat_tests) in
    l.invariant ∙ items_read (around_view l.around.items) (items_view l.found.items) (passage_view l.left) (seen ∙ none)
