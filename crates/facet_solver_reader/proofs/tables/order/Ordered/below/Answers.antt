use Rattle.std.proofs.Common.{◌≡◌, ◌++◌, ◌∷◌, [], ◌∙◌, ℕ, arith, sym, ap, subst, length, eqb, Contains, List}
use Rattle.std.specs.List.{All, dedup}
use Rattle.std.specs.List.Sorted.{IsStrictlyIncreasing}
use Rattle.std.proofs.lemmas.List.Filters.{dedup_is}
use Rattle.std.proofs.lemmas.List.Kept.{Contains-dedup_nat, Contains-from_dedup}
use Rattle.std.proofs.lemmas.List.Sorted.{Contains-permutation, IsPermutation-sym}
use Rattle.std.proofs.lemmas.Map.Keys.{IsStrictlyIncreasing-dedup}
use Rattle.facet_solver_reader.specs.declared.part.Part.{Part}
use Rattle.facet_solver_reader.specs.Placing.{AreGathered, AreStillAmong, PartIsAmong}
use Rattle.facet_solver_reader.specs.Views.{part_view, parts_view}
use Rattle.facet_solver_reader.proofs.Gathered.{below_of_gathered, gathered_same, part_kept}
use Rattle.facet_solver_reader.proofs.LeftLists.{all_viewed, each_more}
use Rattle.facet_solver_reader.proofs.tables.order.Ordered.below.Goals as goal

pub loop-part-preserved : goal.loop-part-preserved
loop-part-preserved c =
    let o = c.args.self.now in
    let old = c.loop-part.gathered.items in
    let new = c.gather_part.new.gathered.items in
    let done = c.in_ok-gather_part.ensures in
    record {
      closed = done.closed;
      among = each_more (λ (p : Part). PartIsAmong o new (part_view p)) c.args.parts.now c.loop-part.part-index c.part-item.result
          c.loop-part-test.true c.part-item.is
          (λ k p less at. part_kept o old new done.kept (part_view p) (c.loop-part.invariant.among k p less at))
          done.among;
    }

pub returns : goal.returns
returns c =
    let o = c.args.self.now in
    let ps = parts_view c.args.parts.now in
    let all = c.loop-part.gathered.items in
    let sorted = c.sort_unstable.new.self.items in
    let once = c.dedup.new.self.items in
    let same : once ≡ dedup eqb sorted = dedup_is eqb sorted once c.dedup.ensures.filtered in
    let mixed = c.sort_unstable.ensures.permutation in
    let kept : AreStillAmong all once = λ k m.
    subst (λ (is : List ℕ). Contains is k) (sym same) (Contains-dedup_nat sorted k (Contains-permutation all sorted k mixed m)) in
    let back : AreStillAmong once all = λ k m.
    Contains-permutation sorted all k (IsPermutation-sym all sorted mixed) (Contains-from_dedup eqb sorted k (subst (λ (is : List ℕ). Contains is k) same m)) in
    let closed : AreGathered o once = gathered_same o all once kept back c.loop-part.invariant.closed in
    let rising : IsStrictlyIncreasing once = subst IsStrictlyIncreasing (sym same) (IsStrictlyIncreasing-dedup sorted c.sort_unstable.ensures.sorted) in
    let among : All (PartIsAmong o once) ps =
    all_viewed part_view (PartIsAmong o once) c.args.parts.now c.loop-part.part-index (omega (arith, c.loop-part-test.false))
    (λ k p less at. part_kept o all once kept (part_view p) (c.loop-part.invariant.among k p less at)) in
    let front : c.extend_from_slice.new.self.items ≡ once =
    c.in_ok-extend_from_slice.ensures.items ∙ (ap (λ (is : List ℕ). is ++ c.deref.result.now) c.in_ok-below.ensures.items ∙ c.deref.ensures.value) in
    let last : c.len-2.result ≡ length o.lists.items = omega (arith, c.len-2.ensures, o.lists.ok.0) in
    below_of_gathered c.requires.0 o c.requires.1 once closed rising ps c.push.new.self.items among
    (c.in_ok-push.ensures.items ∙ (ap (λ (is : List ℕ). is ++ c.len-2.result ∷ []) front ∙ ap (λ n. once ++ n ∷ []) last))
