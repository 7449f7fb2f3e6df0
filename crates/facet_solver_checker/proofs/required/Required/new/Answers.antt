use Rattle.std.proofs.Common.{◌≡◌, ◌∙◌, ◌++◌, ◌∷◌, [], sym, subst, rules}
use Rattle.facet_solver_checker.specs.Requires.{AreRequired, NameLists}
use Rattle.facet_solver_checker.proofs.Requires.{one_longer, required_more}
use Rattle.facet_solver_checker.proofs.required.Required.new.Goals as goal

pub loop-list-preserved : goal.loop-list-preserved
loop-list-preserved c =
    let old = c.loop-list.names.items in
    let next = c.in_ok-next.next in
    let pushed : c.push.new.self.items ≡ old ++ next ∷ [] = search rules in
    record {
      count = one_longer old next c.push.new.self.items c.loop-list.list-index pushed
          c.loop-list.invariant.count;
      required = λ m is.
          required_more m c.args.plan.now c.deref-list-items.result.now c.loop-list.list-index
          c.list-item.result old c.push.new.self.items next is c.deref-list-items.ensures.value
          c.loop-list-test.true c.list-item.is c.loop-list.invariant.count pushed
          (c.loop-list.invariant.required m is)
          (λ id x planned in'.
          c.in_ok-next.ensures m id x
          (subst (λ (t : NameLists). AreRequired m t) (sym c.deref.ensures.value)
          (c.loop-list.invariant.required m is))
          planned in');
    }
