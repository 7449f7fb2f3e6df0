-- The counts of the lists that an object's choices go through, one after the other.
use Rattle.std.proofs.Common.{◌≡◌, sym, ap, subst, refl, ◌∷◌, [], Some, slice_get, length, get_or}
use Rattle.std.proofs.Common.{arith}
use Rattle.std.proofs.lemmas.List.{length-append}
use Rattle.std.proofs.lemmas.Option.{slice_get_read, slice_get_within}
use Rattle.facet_solver_reader.specs.Reading.{AreListCounts, IsNextList}
use Rattle.facet_solver_reader.proofs.CountingObjects.{counts_more, listed_below}
use Rattle.facet_solver_reader.proofs.why.asked.counts_of.Goals as goal

pub index-list-requires : goal.index-list-requires
index-list-requires c =
    let tb = c.args.tables.now in
    let o = c.args.object.now in
    let position = c.loop-index.index-index in
    let xs = c.deref-index-items.result.now in
    let b = listed_below tb c.args.nodes.now o c.requires.object c.requires.sound.tables position
    xs c.deref-index-items.ensures.value c.loop-index-test.true in
    let index = get_or xs position 0 in
    let within = slice_get_within tb.lists.items index b.0 b.2 in
    omega (arith, within)

pub count_list-requires : goal.count_list-requires
count_list-requires c =
    let tb = c.args.tables.now in
    let o = c.args.object.now in
    let position = c.loop-index.index-index in
    let xs = c.deref-index-items.result.now in
    let b = listed_below tb c.args.nodes.now o c.requires.object c.requires.sound.tables position
    xs c.deref-index-items.ensures.value c.loop-index-test.true in
    let index = get_or xs position 0 in
    let list = c.index-list.result.now in
    let at = slice_get_read tb.lists.items (length tb.lists.items) index list refl
    (slice_get_within tb.lists.items index b.0 b.2) c.index-list.ensures in
    let done : length c.loop-index.counts.items ≡ position = c.loop-index.invariant.so_far in
    let here = subst (λ p. slice_get o.list.now.below.items p ≡ Some index) (sym done) b.1 in
    let same = sym c.deref.ensures.value in
    record {
      sound = c.loop-index.invariant.sound;
      object = c.requires.object;
      counts = subst (AreListCounts tb c.args.nodes.now o) same c.loop-index.invariant.counts;
      next =
          subst (λ ns. IsNextList tb o (length ns) list) same
          (record { index = index; is_next = here; listed = at });
    }

pub loop-index-preserved : goal.loop-index-preserved
loop-index-preserved c =
    let tb = c.args.tables.now in
    let o = c.args.object.now in
    let position = c.loop-index.index-index in
    let xs = c.deref-index-items.result.now in
    let b = listed_below tb c.args.nodes.now o c.requires.object c.requires.sound.tables position
    xs c.deref-index-items.ensures.value c.loop-index-test.true in
    let index = get_or xs position 0 in
    let list = c.index-list.result.now in
    let at = slice_get_read tb.lists.items (length tb.lists.items) index list refl
    (slice_get_within tb.lists.items index b.0 b.2) c.index-list.ensures in
    let done : length c.loop-index.counts.items ≡ position = c.loop-index.invariant.so_far in
    let here = subst (λ p. slice_get o.list.now.below.items p ≡ Some index) (sym done) b.1 in
    let counts = c.loop-index.counts.items in
    let more = counts_more tb c.args.nodes.now o c.requires.object counts c.in_ok-count.count
    index list c.loop-index.invariant.counts here at c.in_ok-count.ensures.count in
    let items = c.in_ok-push.ensures.items in
    record {
      sound = c.count_list.ensures.sound;
      counts = subst (AreListCounts tb c.args.nodes.now o) (sym items) more;
      so_far = omega (arith, ap length items, length-append counts (c.in_ok-count.count ∷ []));
    }
