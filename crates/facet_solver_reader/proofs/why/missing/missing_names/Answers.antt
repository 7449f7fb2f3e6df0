use Rattle.std.proofs.Common.{◌≡◌, sym, ap, subst, refl, ◌∷◌, [], Some, slice_get, length, get_or}
use Rattle.std.proofs.Common.{arith}
use Rattle.std.proofs.lemmas.List.{length-append}
use Rattle.std.proofs.lemmas.Option.{slice_get_read, slice_get_within}
use Rattle.facet_solver_reader.specs.Blaming.{AreMissing}
use Rattle.facet_solver_reader.proofs.Blaming.{missing_more}
use Rattle.facet_solver_reader.proofs.CountingObjects.{listed_below}
use Rattle.facet_solver_reader.proofs.why.missing.missing_names.Goals as goal

pub index-requires : goal.index-requires
index-requires c =
    let tb = c.args.tables.now in
    let position = c.loop-index.index-index in
    let xs = c.deref-index-items.result.now in
    let b = listed_below tb c.args.nodes.now c.args.object.now c.requires.object c.requires.tables
    position xs c.deref-index-items.ensures.value c.loop-index-test.true in
    let within = slice_get_within tb.lists.items (get_or xs position 0) b.0 b.2 in
    omega (arith, within)

pub missing_name-name-requires-clause-listed : goal.missing_name-name-requires-clause-listed
missing_name-name-requires-clause-listed c =
    let tb = c.args.tables.now in
    let position = c.loop-index.index-index in
    let xs = c.deref-index-items.result.now in
    let b = listed_below tb c.args.nodes.now c.args.object.now c.requires.object c.requires.tables
    position xs c.deref-index-items.ensures.value c.loop-index-test.true in
    let index = get_or xs position 0 in
    record {
      index = index;
      listed =
          slice_get_read tb.lists.items (length tb.lists.items) index c.index.result.now refl
          (slice_get_within tb.lists.items index b.0 b.2) c.index.ensures;
    }

pub loop-index-preserved : goal.loop-index-preserved
loop-index-preserved c =
    let tb = c.args.tables.now in
    let o = c.args.object.now in
    let position = c.loop-index.index-index in
    let xs = c.deref-index-items.result.now in
    let b = listed_below tb c.args.nodes.now o c.requires.object c.requires.tables
    position xs c.deref-index-items.ensures.value c.loop-index-test.true in
    let index = get_or xs position 0 in
    let at = slice_get_read tb.lists.items (length tb.lists.items) index c.index.result.now refl
    (slice_get_within tb.lists.items index b.0 b.2) c.index.ensures in
    let names = c.loop-index.missing.items in
    let done : length names ≡ position = c.loop-index.invariant.so_far in
    let here = subst (λ p. slice_get o.list.now.below.items p ≡ Some index) (sym done) b.1 in
    let items = c.in_ok-push.ensures.items in
    record {
      so_far =
          omega (arith, ap length items, length-append names (c.missing_name-name.result ∷ []));
      missing =
          subst (AreMissing tb c.args.nodes.now o) (sym items)
          (missing_more tb c.args.nodes.now o names c.missing_name-name.result index
          c.index.result.now c.loop-index.invariant.missing here at c.missing_name-name.ensures);
    }
