use Rattle.std.proofs.Common.{◌≡◌, ◌∙◌, ap, sym, refl, Some, arith, slice_get}
use Rattle.std.proofs.lemmas.Option.{slice_get_read}
use Rattle.facet_solver_reader.specs.Ranked.{is_marked}
use Rattle.facet_solver_reader.proofs.RankRounds.{all_next, next_by_end, next_by_mark, next_by_none, one_next}
use Rattle.facet_solver_reader.proofs.tables.ranks.rank_more.Goals as goal
use Rattle.facet_solver_reader.proofs.tables.ranks.rank_more.Goals.{in-Some+then-is_ranked_at, in-Some+else-is_ranked_at+in_ok-ranked-in-Some, in-None}

pub loop-index-preserved : goal.loop-index-preserved
loop-index-preserved c =
    let types = c.args.types.now in
    let ends = c.args.ends.now.items in
    let marks = c.args.is_ranked.now in
    let i = c.loop-index.index in
    let here : slice_get ends i ≡ Some c.index.result.now = slice_get_read ends _ i c.index.result.now refl (omega (arith, c.args.ends.now.ok.0)) c.index.ensures in
    one_next types ends marks c.loop-index.next.items _ i c.index.result.now c.match-index.ranked c.loop-index.invariant c.in_ok-push.ensures.items here
    (elim c.match-index.branch [
      | in-Some+then-is_ranked_at w ↦
          w.ranked-is ∙ w.if-is_ranked_at.true
          ∙ next_by_mark types marks i c.index.result.now _ w.in-Some.is
          (ap (is_marked marks) (sym w.new.ensures) ∙ sym w.is_ranked_at.ensures ∙ w.if-is_ranked_at.true)
      | in-Some+else-is_ranked_at+in_ok-ranked-in-Some w ↦
          w.ranked-is
          ∙ next_by_end types marks i c.index.result.now _ _ w.in-Some.is
          (ap (is_marked marks) (sym w.new.ensures) ∙ sym w.is_ranked_at.ensures ∙ w.if-is_ranked_at.false)
          w.in_ok-ranked-in-Some.ensures
      | in-None w ↦ w.ranked-is ∙ next_by_none types marks i c.index.result.now w.in-None.is
    ])

pub returns : goal.returns
returns c = all_next c.args.types.now c.args.ends.now.items c.args.is_ranked.now c.loop-index.next.items c.loop-index.index c.loop-index.invariant (omega (arith, c.args.ends.now.ok.0))
