use Rattle.std.proofs.Common.{◌≡◌, ◌≢◌, ◌<◌, ◌^◌, ◌∙◌, sym, arith, length, subst, List, Bool}
use Rattle.facet_solver_reader.specs.Marks.{marked_of}
use Rattle.facet_solver_reader.specs.Ranked.{AreNext}
use Rattle.facet_solver_reader.proofs.JoinsByTable.{same_table}
use Rattle.facet_solver_reader.proofs.RankRounds.{all_ranked, fewer_left, more_marked, not_same, round_ranked, steps_fit}
use Rattle.facet_solver_reader.proofs.tables.ranks.Ranks.new.Goals as goal

pub returns-then-eq : goal.returns-then-eq
returns-then-eq c =
    let types = c.args.types.now in
    let ends = c.args.ends.now.items in
    let marks = c.loop-is_ranked.is_ranked.items in
    let next = c.in_ok-next.next.items in
    let same : next ≡ marks = same_table next marks (sym c.eq.ensures ∙ c.if-eq.true) in
    let round : AreNext types ends marks next = subst (λ (ms : List Bool). AreNext types ends ms next) c.deref.ensures.value c.in_ok-next.ensures in
    all_ranked types ends _ c.requires c.loop-is_ranked.invariant (subst (AreNext types ends marks) same round)

-- the marks after a round, which differ
module _ (c : goal.After-drop-is_ranked-in-loop-is_ranked) where
  round : AreNext c.args.types.now c.args.ends.now.items c.loop-is_ranked.is_ranked.items c.in_ok-next.next.items
  round =
      subst (λ (ms : List Bool). AreNext c.args.types.now c.args.ends.now.items ms c.in_ok-next.next.items) c.deref.ensures.value c.in_ok-next.ensures

  differ : c.in_ok-next.next.items ≢ c.loop-is_ranked.is_ranked.items
  differ = not_same c.in_ok-next.next.items c.loop-is_ranked.is_ranked.items (sym c.eq.ensures ∙ c.if-eq.false)

  more : marked_of c.loop-is_ranked.is_ranked.items < marked_of c.in_ok-next.next.items
  more =
      more_marked c.args.types.now c.args.ends.now.items c.loop-is_ranked.is_ranked.items c.in_ok-next.next.items c.loop-is_ranked.steps c.requires c.loop-is_ranked.invariant round differ

pub overflow_add-steps : goal.overflow_add-steps
overflow_add-steps c =
    let few : length c.args.ends.now.items < 2 ^ 63 = omega (arith, c.args.ends.now.ok.0, c.args.ends.now.ok.1, c.args.ends.now.small) in
    omega (arith, steps_fit c.args.ends.now.items c.loop-is_ranked.is_ranked.items c.in_ok-next.next.items c.loop-is_ranked.steps (more c) (round c).same_length c.loop-is_ranked.invariant.bounded few)

pub loop-is_ranked-smaller : goal.loop-is_ranked-smaller
loop-is_ranked-smaller c =
    fewer_left c.args.ends.now.items c.loop-is_ranked.is_ranked.items c.in_ok-next.next.items (more c) (round c).same_length

pub loop-is_ranked-preserved : goal.loop-is_ranked-preserved
loop-is_ranked-preserved c =
    round_ranked c.args.types.now c.args.ends.now.items c.loop-is_ranked.is_ranked.items c.in_ok-next.next.items c.loop-is_ranked.steps c.requires c.loop-is_ranked.invariant (round c) (differ c)
