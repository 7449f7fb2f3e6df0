use Rattle.std.proofs.Common.{◌+◌, ◌-◌, ◌/◌, ◌<◌, ◌≤◌, ◌∙◌, ℕ, arith, refl, sym}
use Rattle.facet_solver_reader.proofs.NodeNames.{between_all, between_back, between_front}
use Rattle.facet_solver_reader.proofs.NodeNames.{found_between}
use Rattle.facet_solver_reader.proofs.nodes.by_name.find_by_halving.Goals as goal

pub loop-end-init : goal.loop-end-init
loop-end-init c = between_all c.args.named.now c.args.name.now _ refl

pub loop-end-preserved-then-lt : goal.loop-end-preserved-then-lt
loop-end-preserved-then-lt c =
    let start = c.loop-end.start in
    let end = c.loop-end.end in
    let middle : ℕ = start + (end - start) / 2 in
    let low : start ≤ middle = omega arith in
    let high : middle < end = omega (arith, c.loop-end-test.true) in
    between_front c.args.named.now c.args.name.now c.requires.sorted start end middle _
    c.loop-end.invariant low high (sym c.lt.ensures ∙ c.if-lt.true)

pub loop-end-preserved : goal.loop-end-preserved
loop-end-preserved c =
    let start = c.loop-end.start in
    let end = c.loop-end.end in
    let middle : ℕ = start + (end - start) / 2 in
    let low : start ≤ middle = omega arith in
    let high : middle < end = omega (arith, c.loop-end-test.true) in
    between_back c.args.named.now c.args.name.now c.requires.sorted start end middle _
    c.loop-end.invariant low high (sym c.lt.ensures ∙ c.if-lt.false)

pub returns : goal.returns
returns c =
    found_between c.args.named.now c.args.name.now c.loop-end.start c.loop-end.end
    c.loop-end.invariant c.find_by_walk.result c.find_by_walk.ensures
