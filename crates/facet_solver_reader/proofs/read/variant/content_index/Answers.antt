-- The first variant of the member's name whose content the value is read as, is one that it is read
-- as; and one is there.
use Rattle.std.proofs.Common.{◌≡◌, ℕ, List, Some, arith, length, map, refl, rules, slice_get, subst}
use Rattle.std.proofs.Common.{false, sym, true}
use Rattle.std.proofs.lemmas.List.{length-map}
use Rattle.std.proofs.lemmas.Option.{slice_get_read}
use Rattle.facet_solver_reader.specs.declared.count.Count.TheVariants.{None as NoCount}
use Rattle.facet_solver_reader.specs.Choices.{a_variant}
use Rattle.facet_solver_reader.specs.Counted.{Counted}
use Rattle.facet_solver_reader.specs.Documents.{Member, Tree}
use Rattle.facet_solver_reader.specs.Nodes.{value_of}
use Rattle.facet_solver_reader.specs.Objects.{Reads}
use Rattle.facet_solver_reader.specs.Readings.{ReadsValue}
use Rattle.facet_solver_reader.specs.Rules.{NamedVariant}
use Rattle.facet_solver_reader.specs.Tables.{IsServed, rules_at}
use Rattle.facet_solver_reader.specs.Values.{ReadsNamed, ReadsNamedVariant}
use Rattle.facet_solver_reader.specs.Views.{named_view, target_view}
use Rattle.facet_solver_reader.proofs.InMemory.{at_seen, only_child}
use Rattle.facet_solver_reader.proofs.NamedVariants.{count_named_all, count_named_more}
use Rattle.facet_solver_reader.proofs.NamedVariants.{count_named_same}
use Rattle.facet_solver_reader.proofs.Seen.{seen_at}
use Rattle.facet_solver_reader.proofs.TableRanks.{ranked_target}
use Rattle.facet_solver_reader.proofs.VariantIndices.{named_by_member, some_counted}
use Rattle.facet_solver_reader.proofs.read.variant.content_index.Goals as goal
use Rattle.facet_solver_reader.proofs.read.variant.content_index.Goals.{
  then-eq+in_ok-count+else-not-is_none,
  else-eq,
}

pub count_target-requires-clause-served : goal.count_target-requires-clause-served
count_target-requires-clause-served c =
    at_seen (λ (a : NamedVariant). IsServed c.args.tables.now a.content) named_view
    c.args.variants.now c.loop-k.k c.index-variants-k.result
    (slice_get_read c.args.variants.now (length c.args.variants.now) c.loop-k.k
    c.index-variants-k.result refl c.loop-k-test.true c.index-variants-k.is)
    c.requires.served

pub count_target-requires-clause-ranked : goal.count_target-requires-clause-ranked
count_target-requires-clause-ranked c =
    ranked_target c.args.tables.now (target_view c.index-variants-k.result.content)
    c.requires.sound.tables
    (at_seen (λ (a : NamedVariant). IsServed c.args.tables.now a.content) named_view
    c.args.variants.now c.loop-k.k c.index-variants-k.result
    (slice_get_read c.args.variants.now (length c.args.variants.now) c.loop-k.k
    c.index-variants-k.result refl c.loop-k-test.true c.index-variants-k.is)
    c.requires.served)

pub returns-then-not-is_none-clause-chosen : goal.returns-then-not-is_none-clause-chosen
returns-then-not-is_none-clause-chosen c =
    let reads : Reads = ReadsValue (rules_at c.args.tables.now) in
    let variants : List NamedVariant = map named_view c.args.variants.now in
    let i : ℕ = c.loop-k.k in
    let v : Tree = value_of c.args.nodes.now c.args.node in
    let w : Tree = value_of c.args.nodes.now c.child-content.result in
    let x : Member = record { name = c.args.name.now; value = w } in
    let there : slice_get variants i ≡ Some (named_view c.index-variants-k.result) =
    seen_at named_view c.args.variants.now i c.index-variants-k.result
    (slice_get_read c.args.variants.now (length c.args.variants.now) i c.index-variants-k.result
    refl c.loop-k-test.true c.index-variants-k.is) in
    let same : c.index-variants-k.result.name.now ≡ c.args.name.now = search rules in
    let found = some_counted (reads (target_view c.index-variants-k.result.content) w)
    c.in_ok-count.count
    (λ e. let none : c.is_none.result ≡ true = c.is_none.ensures.1 e in
    let some : c.is_none.result ≡ false = c.if-not-is_none.true in absurd (cc))
    c.in_ok-count.ensures.count in (
      found.0,
      subst (λ u. ReadsNamedVariant reads variants u (a_variant i found.0))
          (sym c.requires.single.is_object)
          (named_by_member reads variants c.requires.single.members x i found.0
          (only_child v c.args.name.now w c.requires.single c.child-content.ensures.child)
          (subst (λ o. ReadsNamed reads o x found.0) (sym there) (same, found.1))),
    )

pub loop-k-preserved : goal.loop-k-preserved
loop-k-preserved c =
    let reads : Reads = ReadsValue (rules_at c.args.tables.now) in
    let variants : List NamedVariant = map named_view c.args.variants.now in
    let i : ℕ = c.loop-k.k in
    let w : Tree = value_of c.args.nodes.now c.child-content.result in
    let x : Member = record { name = c.args.name.now; value = w } in
    let there : slice_get variants i ≡ Some (named_view c.index-variants-k.result) =
    seen_at named_view c.args.variants.now i c.index-variants-k.result
    (slice_get_read c.args.variants.now (length c.args.variants.now) i c.index-variants-k.result
    refl c.loop-k-test.true c.index-variants-k.is) in
    elim c.if-eq.branch [
      | then-eq+in_ok-count+else-not-is_none w ↦
          let same : c.index-variants-k.result.name.now ≡ c.args.name.now = search rules in
          let none : Counted (reads (target_view c.index-variants-k.result.content) x.value)
          NoCount =
          subst
          (Counted (reads (target_view c.index-variants-k.result.content) x.value))
          (w.is_none.ensures.0 w.if-not-is_none.false) w.in_ok-count.ensures.count in
          record {
            sound = rw w.memo-is w.in_ok-count.ensures.sound;
            none = count_named_more reads variants x i (named_view c.index-variants-k.result)
                NoCount NoCount there same c.loop-k.invariant.none none;
          }
      | else-eq w ↦
          let differ : c.index-variants-k.result.name.now ≡ c.args.name.now → ⊥ =
          λ e. search (rules, e) in
          record {
            sound = rw w.memo-is c.loop-k.invariant.sound;
            none = count_named_same reads variants x i (named_view c.index-variants-k.result)
                NoCount there differ c.loop-k.invariant.none;
          }
    ]

pub unreachable-requires : goal.unreachable-requires
unreachable-requires c =
    let reads : Reads = ReadsValue (rules_at c.args.tables.now) in
    let variants : List NamedVariant = map named_view c.args.variants.now in
    let v : Tree = value_of c.args.nodes.now c.args.node in
    let w : Tree = value_of c.args.nodes.now c.child-content.result in
    let x : Member = record { name = c.args.name.now; value = w } in
    count_named_all reads variants c.requires.single.members x c.loop-k.k NoCount
    (only_child v c.args.name.now w c.requires.single c.child-content.ensures.child)
    (omega (arith, length-map c.args.variants.now named_view)) c.loop-k.invariant.none
    c.requires.read.0
    (subst (λ u. ReadsNamedVariant reads variants u c.requires.read.0)
    c.requires.single.is_object c.requires.read.1)
