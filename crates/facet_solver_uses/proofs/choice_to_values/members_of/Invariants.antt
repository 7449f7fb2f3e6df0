use Rattle.std.proofs.Common.{◌≡◌, ◌++◌, All, map}
use Rattle.std.specs.FinMap as finite
use Rattle.facet_solver.specs.Fields.{entry_view}
use Rattle.facet_solver_uses.specs.ChoiceToValues.{IsValue, meant_field_at}
use Rattle.facet_solver_uses.proofs.choice_to_values.members_of.Given as goal

-- the fields so far have their values, and the others follow them
abbrev pub invariant-loop-field : goal.invariant-loop-field
invariant-loop-field l = record {
  place : map (λ v. v.field.now) l.fields.items ++ map (λ e. e.1) (map entry_view l.field-iterator)
      ≡ finite.values l.resolution.fields;
  well : All (IsValue (meant_field_at l.meant)) l.fields.items;
}
