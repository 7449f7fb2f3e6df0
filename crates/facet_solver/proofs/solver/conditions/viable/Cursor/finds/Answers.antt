use Rattle.std.proofs.Common.{◌∷◌, ◌++◌, [], ap, refl, sym, ◌∙◌}
use Rattle.facet_solver.specs.solver.SeenNames.{keys_from, left}
use Rattle.facet_solver.proofs.Cursor.{keys_on}
use Rattle.facet_solver.proofs.IndexSet.{rest_more}
use Rattle.facet_solver.proofs.solver.conditions.viable.Cursor.finds.Goals as goal

pub loop-self-init : goal.loop-self-init
loop-self-init c = ([], refl)

pub loop-self-preserved : goal.loop-self-preserved
loop-self-preserved c =
    let before = c.loop-self.invariant in
    let key = c.in-Some.key.now in
    let later = c.loop-self.self.later in (
      before.0 ++ key ∷ [],
      rest_more before.0 (left c.loop-self.self) (keys_from c.next-self.result c.next-self.new.self) (left c.args.self.now) key before.1
          (ap (λ next. keys_from next later) c.in-Some.is ∙ ap (λ keys. key ∷ keys) (sym (keys_on c.next-self.result later c.next-self.new.self c.next-self.ensures.steps))),
    )
