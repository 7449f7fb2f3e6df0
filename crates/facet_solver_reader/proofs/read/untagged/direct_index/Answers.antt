-- The first alternative by which the value has a reading is one that reads it.
use Rattle.std.proofs.Common.{◌≡◌, Some, arith, false, length, map, refl, slice_get, subst, sym}
use Rattle.std.proofs.Common.{true}
use Rattle.std.proofs.lemmas.List.{length-map}
use Rattle.std.proofs.lemmas.Option.{slice_get_read}
use Rattle.facet_solver_reader.specs.declared.count.Count.TheVariants.{None as NoCount}
use Rattle.facet_solver_reader.specs.Counted.{Counted}
use Rattle.facet_solver_reader.specs.Nodes.{value_of}
use Rattle.facet_solver_reader.specs.Reading.{IsRankedAlternative}
use Rattle.facet_solver_reader.specs.Readings.{ReadsValue}
use Rattle.facet_solver_reader.specs.Rules.{Alternative}
use Rattle.facet_solver_reader.specs.Tables.{IsServed, rules_at}
use Rattle.facet_solver_reader.specs.Values.{ReadsByItself, ReadsByOne}
use Rattle.facet_solver_reader.specs.Views.{alternative_view}
use Rattle.facet_solver_reader.proofs.InMemory.{at_seen}
use Rattle.facet_solver_reader.proofs.Seen.{seen_at}
use Rattle.facet_solver_reader.proofs.UntaggedVariants.{count_alone_all, count_alone_same}
use Rattle.facet_solver_reader.proofs.VariantIndices.{some_counted}
use Rattle.facet_solver_reader.proofs.read.untagged.direct_index.Goals as goal

pub count_alternative-requires-clause-served : goal.count_alternative-requires-clause-served
count_alternative-requires-clause-served c =
    at_seen (λ (a : Alternative). IsServed c.args.tables.now a.content) alternative_view
    c.args.alone.now c.loop-k.k c.index-alone-k.result
    (slice_get_read c.args.alone.now (length c.args.alone.now) c.loop-k.k c.index-alone-k.result
    refl c.loop-k-test.true c.index-alone-k.is)
    c.requires.served

pub count_alternative-requires-clause-ranked : goal.count_alternative-requires-clause-ranked
count_alternative-requires-clause-ranked c =
    at_seen (λ (a : Alternative). IsRankedAlternative (rules_at c.args.tables.now) c.args.steps a)
    alternative_view c.args.alone.now c.loop-k.k c.index-alone-k.result
    (slice_get_read c.args.alone.now (length c.args.alone.now) c.loop-k.k c.index-alone-k.result
    refl c.loop-k-test.true c.index-alone-k.is)
    c.requires.ranked

pub returns-then-not-is_none-clause-chosen : goal.returns-then-not-is_none-clause-chosen
returns-then-not-is_none-clause-chosen c =
    let reads = ReadsValue (rules_at c.args.tables.now) in
    let alone = map alternative_view c.args.alone.now in
    let v = value_of c.args.nodes.now c.args.node in
    let there : slice_get alone c.loop-k.k ≡ Some (alternative_view c.index-alone-k.result) =
    seen_at alternative_view c.args.alone.now c.loop-k.k c.index-alone-k.result
    (slice_get_read c.args.alone.now (length c.args.alone.now) c.loop-k.k c.index-alone-k.result
    refl c.loop-k-test.true c.index-alone-k.is) in
    let found = some_counted
    (ReadsByItself reads alone (alternative_view c.index-alone-k.result) v) c.in_ok-count.count
    (λ e. let none : c.is_none.result ≡ true = c.is_none.ensures.1 e in
    let some : c.is_none.result ≡ false = c.if-not-is_none.true in absurd (cc))
    c.in_ok-count.ensures.count in
    (found.0, subst (λ o. ReadsByOne reads alone o v found.0) (sym there) found.1)

pub loop-k-preserved : goal.loop-k-preserved
loop-k-preserved c =
    let reads = ReadsValue (rules_at c.args.tables.now) in
    let alone = map alternative_view c.args.alone.now in
    let v = value_of c.args.nodes.now c.args.node in
    let there : slice_get alone c.loop-k.k ≡ Some (alternative_view c.index-alone-k.result) =
    seen_at alternative_view c.args.alone.now c.loop-k.k c.index-alone-k.result
    (slice_get_read c.args.alone.now (length c.args.alone.now) c.loop-k.k c.index-alone-k.result
    refl c.loop-k-test.true c.index-alone-k.is) in
    let none : Counted (ReadsByItself reads alone (alternative_view c.index-alone-k.result) v)
    NoCount =
    subst (Counted (ReadsByItself reads alone (alternative_view c.index-alone-k.result) v))
    (c.is_none.ensures.0 c.if-not-is_none.false) c.in_ok-count.ensures.count in
    record {
      sound = c.in_ok-count.ensures.sound;
      none = count_alone_same reads alone v c.loop-k.k (alternative_view c.index-alone-k.result)
          NoCount there none c.loop-k.invariant.none;
    }

pub returns-clause-chosen : goal.returns-clause-chosen
returns-clause-chosen c =
    count_alone_all (ReadsValue (rules_at c.args.tables.now))
    (map alternative_view c.args.alone.now) (value_of c.args.nodes.now c.args.node) c.loop-k.k
    NoCount (omega (arith, length-map c.args.alone.now alternative_view)) c.loop-k.invariant.none
