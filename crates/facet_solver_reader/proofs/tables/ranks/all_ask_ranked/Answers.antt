use Rattle.std.proofs.Common.{◌≡◌, ◌≤◌, ◌∙◌, map, length, ap, sym, true, arith}
use Rattle.std.proofs.lemmas.List.{length-map}
use Rattle.std.proofs.lemmas.List.Folds.{list_all_at}
use Rattle.std.proofs.lemmas.List.Sums.{list_all-from_AllPass}
use Rattle.facet_solver_reader.specs.Ranked.{is_alternative_marked}
use Rattle.facet_solver_reader.specs.Rules.{Alternative}
use Rattle.facet_solver_reader.specs.Views.{alternative_view}
use Rattle.facet_solver_reader.proofs.Marks.{each_all, each_more}
use Rattle.facet_solver_reader.proofs.RankRounds.{read_mapped}
use Rattle.facet_solver_reader.proofs.tables.ranks.all_ask_ranked.Goals as goal

pub returns-then-not-branch : goal.returns-then-not-branch
returns-then-not-branch c =
    let p = is_alternative_marked c.args.types.now c.args.is_ranked.now in
    let a = c.alternative-item.result in
    let i = c.loop-alternative.alternative-index in
    sym
    (list_all_at p (map alternative_view c.args.alone.now) i (alternative_view a) (omega (arith, length-map c.args.alone.now alternative_view))
    (ap p (read_mapped alternative_view c.args.alone.now i a (alternative_view a) (omega arith) c.alternative-item.is)
    ∙ sym c.in_ok-alternative_asks_ranked.ensures ∙ c.if-not-branch.true))

pub loop-alternative-preserved : goal.loop-alternative-preserved
loop-alternative-preserved c =
    let p = is_alternative_marked c.args.types.now c.args.is_ranked.now in
    each_more (λ (a : Alternative). p a ≡ true) (λ (a : Alternative). p a ≡ true) alternative_view c.args.alone.now c.loop-alternative.alternative-index c.alternative-item.result
    (λ a h. h) c.loop-alternative.invariant (omega arith) c.alternative-item.is (sym c.in_ok-alternative_asks_ranked.ensures ∙ c.if-not-branch.false)

pub returns : goal.returns
returns c =
    let p = is_alternative_marked c.args.types.now c.args.is_ranked.now in
    let xs = map alternative_view c.args.alone.now in
    let past : length (map alternative_view c.args.alone.now) ≤ c.loop-alternative.alternative-index = omega (arith, length-map c.args.alone.now alternative_view) in
    sym (list_all-from_AllPass p xs (each_all (λ (a : Alternative). p a ≡ true) xs c.loop-alternative.alternative-index c.loop-alternative.invariant past))
