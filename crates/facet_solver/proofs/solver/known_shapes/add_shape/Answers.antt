use Rattle.std.proofs.Common.{◌||◌, nat_eq, refl, ap, ◌∙◌}
use Rattle.facet_solver.specs.set.IndexSet.{IndexSet, has_index}
use Rattle.facet_solver.proofs.VariantSets.{has_inserted}
use Rattle.facet_solver.proofs.solver.known_shapes.add_shape.Goals as goal

pub returns-then-index-bound : goal.returns-then-index-bound
returns-then-index-bound c =
    let s : IndexSet = c.args.shapes.now in
    record {
      bound = ap (λ (t : IndexSet). t.bound) c.insert.ensures;
      members = λ other low.
          ap (λ (t : IndexSet). has_index t.members other) c.insert.ensures
          ∙ has_inserted s s.bound c.index-index.result other refl low
          ∙ ap (λ k. nat_eq other k || has_index s.members other) c.index-index.ensures;
    }
