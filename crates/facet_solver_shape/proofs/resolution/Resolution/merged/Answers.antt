use Rattle.std.proofs.Common.{◌++◌, ◌∙◌, map}
use Rattle.facet_solver_shape.specs.Resolved.{selection_view}
use Rattle.facet_solver_shape.proofs.Resolved.{union_of_apart, names_joined}
use Rattle.facet_solver_shape.proofs.resolution.Resolution.merged.Goals as goal

pub invariant_of-result : goal.invariant_of-result
invariant_of-result c =
    let apart = rw (← c.self.view_is, ← c.other.view_is) at c.in_ok-refuse_shared.ensures.ok in
    rw c.in_ok-required.ensures (names_joined c.self.inside.fields c.other.inside.fields _ _ _ (union_of_apart _ _ _ apart c.in_ok-fields.ensures) c.self.invariant c.other.invariant)

pub returns-clause-ok : goal.returns-clause-ok
returns-clause-ok c =
    let apart = rw (← c.self.view_is, ← c.other.view_is) at c.in_ok-refuse_shared.ensures.ok in
    rw (← c.self.view_is, ← c.other.view_is) (record {
      fields = union_of_apart _ _ _ apart c.in_ok-fields.ensures;
      required_names = c.in_ok-required.ensures;
      key_paths = c.in_ok-key_paths.ensures;
      selections = c.in_ok-selections.ensures ∙ (λ i. map selection_view (c.deref.ensures.value i) ++ map selection_view (c.deref-2.ensures.value i));
      catch_alls = c.in_ok-catch_alls.ensures;
    })
