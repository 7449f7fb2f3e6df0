use Rattle.std.proofs.Common.{Some, None, Option, Bor, slice_get, ap}
use Rattle.std.specs.Option.{option_copied, IfSome}
use Rattle.facet_solver_shape.proofs.Catalogues.{found_earlier}
use Rattle.facet_solver_shape.proofs.Lists.{copied_item}
use Rattle.facet_solver_shape.proofs.shape.catalogue.Shapes.get.Goals as goal

-- what is found through a reference
IfSome-copied : {X : Type 0} (P : X → Type 0) (r : Option (Bor X)) → IfSome (option_copied r) P → IfSome r (λ x. P x.now)
IfSome-copied P None h = tt
IfSome-copied P (Some x) h = h

-- the list is checked
pub returns-clause-earlier : goal.returns-clause-earlier
returns-clause-earlier c =
    let found = copied_item c.deref.result.now c.index.result c.get.result c.get.ensures.lookup in
    let index = ap (slice_get c.deref.result.now) c.index.ensures in
    let items = ap (λ xs. slice_get xs c.args.id) c.deref.ensures.value in
    IfSome-copied _ c.get.result (rw (found, index, items) (found_earlier c.self.inside.shapes.items c.self.invariant c.args.id))
