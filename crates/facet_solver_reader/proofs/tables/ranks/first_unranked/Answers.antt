use Rattle.std.proofs.Common.{◌<◌, ◌∙◌, sym, arith, length}
use Rattle.std.proofs.lemmas.Option.{slice_get_within}
use Rattle.facet_solver_reader.proofs.RankRounds.{no_end_here, ranked_here, unranked_here}
use Rattle.facet_solver_reader.proofs.tables.ranks.first_unranked.Goals as goal
use Rattle.facet_solver_reader.proofs.tables.ranks.first_unranked.Goals.{else-is_some-via-then-is_some+else-not-index, else-is_some-via-else-is_some}

pub returns-then-not-index : goal.returns-then-not-index
returns-then-not-index c =
    unranked_here c.args.ends.now.items c.args.is_ranked.now.items c.requires c.loop-index.index c.index.result.now (omega (arith, c.args.ends.now.ok.0)) c.index.ensures
    c.index-then-is_some.result.now c.new.result (sym c.is_some.ensures ∙ c.if-is_some.true) c.index-then-is_some.ensures c.if-not-index.true c.new.ensures

pub loop-index-preserved : goal.loop-index-preserved
loop-index-preserved c =
    let ends = c.args.ends.now.items in
    let marks = c.args.is_ranked.now.items in
    let i = c.loop-index.index in
    let within : i < length ends = omega (arith, c.args.ends.now.ok.0) in
    elim c.else-is_some.branch [
      | else-is_some-via-then-is_some+else-not-index w ↦
          ranked_here ends marks c.requires i c.index.result.now within c.index.ensures w.index-then-is_some.result.now w.index-then-is_some.ensures w.if-not-index.false c.loop-index.invariant
      | else-is_some-via-else-is_some w ↦
          no_end_here ends marks c.requires i c.index.result.now within c.index.ensures (sym c.is_some.ensures ∙ w.if-is_some.false) c.loop-index.invariant
    ]

pub returns : goal.returns
returns c = λ id has. c.loop-index.invariant id (let here = slice_get_within c.args.ends.now.items id _ has.1 in omega (arith, here, c.args.ends.now.ok.0)) has
