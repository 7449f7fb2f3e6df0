-- The first fallback by which the value has a reading is one that reads it; and one is there.
use Rattle.std.proofs.Common.{◌≡◌, ap, Some, arith, false, length, map, refl, slice_get, subst, sym}
use Rattle.std.proofs.Common.{true}
use Rattle.std.proofs.lemmas.List.{length-map}
use Rattle.std.proofs.lemmas.Option.{slice_get_read}
use Rattle.facet_solver_reader.specs.declared.count.Count.TheVariants.{None as NoCount}
use Rattle.facet_solver_reader.specs.Counted.{Counted}
use Rattle.facet_solver_reader.specs.Nodes.{value_of}
use Rattle.facet_solver_reader.specs.Reached.{asked_by_kind}
use Rattle.facet_solver_reader.specs.Reading.{IsRankedAlternative}
use Rattle.facet_solver_reader.specs.Readings.{ReadsValue}
use Rattle.facet_solver_reader.specs.Rules.{Alternative}
use Rattle.facet_solver_reader.specs.Tables.{IsServed, rules_at}
use Rattle.facet_solver_reader.specs.Values.{ReadsByFallback}
use Rattle.facet_solver_reader.specs.Views.{alternative_view, kind_view, target_view}
use Rattle.facet_solver_reader.proofs.InMemory.{at_seen, fallback_seen}
use Rattle.facet_solver_reader.proofs.Seen.{seen_at}
use Rattle.facet_solver_reader.proofs.TableRanks.{ranked_asked}
use Rattle.facet_solver_reader.proofs.UntaggedVariants.{count_fallback_all, count_fallback_more}
use Rattle.facet_solver_reader.proofs.UntaggedVariants.{count_fallback_same}
use Rattle.facet_solver_reader.proofs.VariantIndices.{some_counted}
use Rattle.facet_solver_reader.proofs.read.untagged.fallback_index.Goals as goal
use Rattle.facet_solver_reader.proofs.read.untagged.fallback_index.Goals.{
  in-Fallback+in_ok-count+else-not-is_none,
  in_default,
}

pub count_target-requires-clause-served : goal.count_target-requires-clause-served
count_target-requires-clause-served c =
    at_seen (λ (a : Alternative). IsServed c.args.tables.now a.content) alternative_view
    c.args.alone.now c.loop-k.k c.index-alone-k.result
    (slice_get_read c.args.alone.now (length c.args.alone.now) c.loop-k.k c.index-alone-k.result
    refl c.loop-k-test.true c.index-alone-k.is)
    c.requires.served

pub count_target-requires-clause-ranked : goal.count_target-requires-clause-ranked
count_target-requires-clause-ranked c =
    ranked_asked (rules_at c.args.tables.now) c.args.steps
    (alternative_view c.index-alone-k.result)
    (at_seen (λ (a : Alternative). IsRankedAlternative (rules_at c.args.tables.now) c.args.steps a)
    alternative_view c.args.alone.now c.loop-k.k c.index-alone-k.result
    (slice_get_read c.args.alone.now (length c.args.alone.now) c.loop-k.k c.index-alone-k.result
    refl c.loop-k-test.true c.index-alone-k.is)
    c.requires.ranked)
    (ap (λ k. asked_by_kind (kind_view k) (target_view c.index-alone-k.result.content))
    c.in-Fallback.is)

pub returns-then-not-is_none-clause-chosen : goal.returns-then-not-is_none-clause-chosen
returns-then-not-is_none-clause-chosen c =
    let reads = ReadsValue (rules_at c.args.tables.now) in
    let alone = map alternative_view c.args.alone.now in
    let v = value_of c.args.nodes.now c.args.node in
    let there : slice_get alone c.loop-k.k ≡ Some (alternative_view c.index-alone-k.result) =
    seen_at alternative_view c.args.alone.now c.loop-k.k c.index-alone-k.result
    (slice_get_read c.args.alone.now (length c.args.alone.now) c.loop-k.k c.index-alone-k.result
    refl c.loop-k-test.true c.index-alone-k.is) in
    let found = some_counted (reads (target_view c.index-alone-k.result.content) v)
    c.in_ok-count.count
    (λ e. let none : c.is_none.result ≡ true = c.is_none.ensures.1 e in
    let some : c.is_none.result ≡ false = c.if-not-is_none.true in absurd (cc))
    c.in_ok-count.ensures.count in (
      found.0,
      subst (λ o. ReadsByFallback reads o v found.0) (sym there)
          (ap kind_view c.in-Fallback.is, found.1),
    )

pub loop-k-preserved : goal.loop-k-preserved
loop-k-preserved c =
    let reads = ReadsValue (rules_at c.args.tables.now) in
    let alone = map alternative_view c.args.alone.now in
    let v = value_of c.args.nodes.now c.args.node in
    let there : slice_get alone c.loop-k.k ≡ Some (alternative_view c.index-alone-k.result) =
    seen_at alternative_view c.args.alone.now c.loop-k.k c.index-alone-k.result
    (slice_get_read c.args.alone.now (length c.args.alone.now) c.loop-k.k c.index-alone-k.result
    refl c.loop-k-test.true c.index-alone-k.is) in
    elim c.match-alternative.branch [
      | in-Fallback+in_ok-count+else-not-is_none w ↦
          let none : Counted (reads (target_view c.index-alone-k.result.content) v) NoCount =
          subst (Counted (reads (target_view c.index-alone-k.result.content) v))
          (w.is_none.ensures.0 w.if-not-is_none.false) w.in_ok-count.ensures.count in
          record {
            sound = rw w.memo-is w.in_ok-count.ensures.sound;
            none = count_fallback_more reads alone v c.loop-k.k
                (alternative_view c.index-alone-k.result) NoCount NoCount there
                (ap kind_view w.in-Fallback.is) c.loop-k.invariant.none none;
          }
      | in_default w ↦ record {
        sound = rw w.memo-is c.loop-k.invariant.sound;
        none = count_fallback_same reads alone v c.loop-k.k
            (alternative_view c.index-alone-k.result) NoCount there
            (λ e. w.in_default.not-Fallback (fallback_seen c.index-alone-k.result.kind e))
            c.loop-k.invariant.none;
      }
    ]

pub unreachable-requires : goal.unreachable-requires
unreachable-requires c =
    count_fallback_all (ReadsValue (rules_at c.args.tables.now))
    (map alternative_view c.args.alone.now) (value_of c.args.nodes.now c.args.node) c.loop-k.k
    NoCount (omega (arith, length-map c.args.alone.now alternative_view)) c.loop-k.invariant.none
    c.requires.read.0 c.requires.read.1
