use Rattle.std.proofs.Common.{◌+◌, length, map, refl, sym, ◌∙◌, ap, arith}
use Rattle.std.specs.Cmp.{tied_itself, back_total}
use Rattle.std.specs.Cmp.Lexicographic.{nat_list_cmp_total}
use Rattle.std.specs.Ordering.{is_le}
use Rattle.std.proofs.lemmas.Bool.{false≢true}
use Rattle.std.proofs.lemmas.List.{length-map}
use Rattle.std.proofs.lemmas.Option.{slice_get_read}
use Rattle.facet_solver_shape.proofs.RepeatedNames.{apart_past, at_most_itself, at_most_still, past_both, not_back, apart_fewer, not_repeated, name_at, items_apart, items_repeated, stretch_ends}
use Rattle.facet_solver_shape.proofs.shape.check.names.repeats_name.Goals as goal
use Rattle.facet_solver_shape.proofs.shape.check.names.repeats_name.Goals.{then-lt, else-lt+then-lt-2, else-lt+else-lt-2+then-compared-index+else-repeats_in_stretch, else-lt+else-lt-2+else-compared-index}

pub loop-index-init : goal.loop-index-init
loop-index-init g c = record {
  apart = λ i j name less low. absurd (omega (arith, low));
  compared = λ i j name less low. absurd (omega (arith, less, low));
  at_most = λ k name low. absurd (omega (arith, low));
  at_least = λ k name low. absurd (omega (arith, low));
  ordered = ap is_le (tied_itself nat_list_cmp_total c.declared_name-lowest.result.now);
  highest_text = c.declared_name-lowest.utf8;
  lowest_text = c.declared_name-lowest.utf8;
}

pub loop-index-preserved : goal.loop-index-preserved
loop-index-preserved g c =
    let name_of = g.T.Named.name_of in
    let xs = c.args.items.now in
    let names = map name_of xs in
    let index = c.loop-index.index in
    let item = c.index-items-index.result in
    let lowest = c.loop-index.lowest.now in
    let highest = c.loop-index.highest.now in
    let name = c.declared_name-name.result.now in
    let so_far = c.loop-index.invariant in
    let total = nat_list_cmp_total in
    let back = back_total total in
    let at = name_at name_of xs index item name (slice_get_read xs (length xs) index item refl c.loop-index-test.true c.index-items-index.is) c.declared_name-name.ensures in
    elim c.if-lt.branch [
      | then-lt w ↦
          let above = sym c.lt.ensures ∙ w.if-lt.true in
          let rises = past_both total lowest highest name so_far.ordered above in
          rw w.compared-is (rw w.lowest-is (rw w.highest-is (record {
            apart = apart_past total names index highest name at so_far.at_most above so_far.apart;
            compared = so_far.compared;
            at_most = at_most_itself total names index highest name at so_far.at_most above;
            at_least = at_most_still back names index lowest name at so_far.at_least (not_back total lowest name rises);
            ordered = ap is_le rises;
            highest_text = c.declared_name-name.utf8;
            lowest_text = so_far.lowest_text;
          })))
      | else-lt+then-lt-2 w ↦
          let not_above = sym c.lt.ensures ∙ w.if-lt.false in
          let below = sym w.lt-else-lt.ensures ∙ w.if-lt-2.true in
          rw w.compared-is (rw w.lowest-is (rw w.highest-is (record {
            apart = apart_past back names index lowest name at so_far.at_least below so_far.apart;
            compared = so_far.compared;
            at_most = at_most_still total names index highest name at so_far.at_most not_above;
            at_least = at_most_itself back names index lowest name at so_far.at_least below;
            ordered = ap is_le (past_both back highest lowest name so_far.ordered below);
            highest_text = so_far.highest_text;
            lowest_text = c.declared_name-name.utf8;
          })))
      | else-lt+else-lt-2+then-compared-index+else-repeats_in_stretch w ↦
          let not_above = sym c.lt.ensures ∙ w.if-lt.false in
          let not_below = sym w.lt-else-lt.ensures ∙ w.if-lt-2.false in
          let ends = stretch_ends _ w.min.result index (length xs) (omega arith) c.loop-index-test.true w.min.ensures in
          let apart = items_apart name_of xs index (index + w.min.result) (omega (arith, ends.0)) ends.1 so_far.apart (λ one. false≢true (sym w.if-repeats_in_stretch.false ∙ w.repeats_in_stretch.ensures.1 one)) in
          rw w.compared-is (rw w.lowest-is (rw w.highest-is (record {
            apart = apart_fewer names (index + 1) (index + w.min.result) ends.0 apart;
            compared = apart;
            at_most = at_most_still total names index highest name at so_far.at_most not_above;
            at_least = at_most_still back names index lowest name at so_far.at_least not_below;
            ordered = so_far.ordered;
            highest_text = so_far.highest_text;
            lowest_text = so_far.lowest_text;
          })))
      | else-lt+else-lt-2+else-compared-index w ↦
          let not_above = sym c.lt.ensures ∙ w.if-lt.false in
          let not_below = sym w.lt-else-lt.ensures ∙ w.if-lt-2.false in
          rw w.compared-is (rw w.lowest-is (rw w.highest-is (record {
            apart = apart_fewer names (index + 1) c.loop-index.compared (omega (arith, w.if-compared-index.false)) so_far.compared;
            compared = so_far.compared;
            at_most = at_most_still total names index highest name at so_far.at_most not_above;
            at_least = at_most_still back names index lowest name at so_far.at_least not_below;
            ordered = so_far.ordered;
            highest_text = so_far.highest_text;
            lowest_text = so_far.lowest_text;
          })))
    ]

pub returns-then-repeats_in_stretch : goal.returns-then-repeats_in_stretch
returns-then-repeats_in_stretch g c =
    let xs = c.args.items.now in
    let index = c.loop-index.index in
    let ends = stretch_ends _ c.min.result index (length xs) (omega arith) c.loop-index-test.true c.min.ensures in
    (λ _. items_repeated g.T.Named.name_of xs index (index + c.min.result) (omega (arith, ends.0)) ends.1 (c.repeats_in_stretch.ensures.0 c.if-repeats_in_stretch.true), λ _. refl)

pub returns : goal.returns
returns g c =
    let xs = c.args.items.now in
    let all = length-map xs g.T.Named.name_of in
    (λ no. absurd (false≢true no), λ twice. absurd (not_repeated (map g.T.Named.name_of xs) c.loop-index.index (omega (arith, all, c.loop-index-test.false)) c.loop-index.invariant.apart twice))
