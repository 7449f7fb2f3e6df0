use Rattle.std.proofs.Common.{◌≡◌, List, ℕ, Some, length, refl, slice_get, subst}
use Rattle.std.proofs.lemmas.Option.{slice_get_read}
use Rattle.facet_solver_reader.specs.declared.plan.PlannedList.{PlannedList}
use Rattle.facet_solver_checker.specs.EndWays.{AreEndWays}
use Rattle.facet_solver_checker.specs.Ways.{AreWays}
use Rattle.facet_solver_checker.proofs.end_ways.member_ways.Goals as goal

pub returns : goal.returns
returns c =
    let plan = c.args.plan.now in
    let n = c.args.list in
    let x = c.args.name.now in
    let l = c.in-Some.entry.now in
    let look = c.in-Some.ensures.lookup in
    let found : slice_get plan.lists.items n ≡ Some l =
    subst (λ (ls : List PlannedList). slice_get ls n ≡ Some l) c.deref.ensures.value
    (slice_get_read c.deref.result.now (length c.deref.result.now) n l refl look.3.0 look.1) in
    record {
      entry = l;
      entry_is = found;
      list_ways =
          subst (λ (left : List ℕ). AreWays plan l x left c.in_ok-of_list.of_list)
          c.deref-2.ensures.value c.in_ok-of_list.ensures;
      end_ways = rw c.in-Some-2.is at c.in_ok-of_end.ensures;
    }
