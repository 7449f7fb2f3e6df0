use Rattle.std.proofs.Common.{ap, refl, ◌∙◌}
use Rattle.facet_solver.specs.declared.schema.index.entry.Entry.{Entry}
use Rattle.facet_solver.proofs.schema.index.entry.Entry.add.Goals as goal

pub add-requires-clause-bound : goal.add-requires-clause-bound
add-requires-clause-bound c = (c.requires.bound c.args.self.now refl).0

pub add-requires-clause-below : goal.add-requires-clause-below
add-requires-clause-below c = (c.requires.bound c.args.self.now refl).1

pub insert-requires : goal.insert-requires
insert-requires c =
    let same = ap (λ (e : Entry). e.set.bound) c.in_ok-add_shape.ensures ∙ (c.requires.bound c.args.self.now refl).0 in
    rw same c.requires.index
