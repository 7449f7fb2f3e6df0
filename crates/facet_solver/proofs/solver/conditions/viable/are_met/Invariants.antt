use Rattle.std.proofs.Common.{◌≡◌, map}
use Rattle.std.specs.List.{list_all}
use Rattle.facet_solver_shape.specs.Fields.{FieldView}
use Rattle.facet_solver_shape.specs.Keys.{key_of}
use Rattle.facet_solver_shape.specs.declared.resolution.key.FieldKey.{FieldKey}
use Rattle.facet_solver.specs.solver.Failure.{is_met}
use Rattle.facet_solver.specs.solver.SeenNames.{IsSuffixOf, left}
use Rattle.facet_solver.proofs.solver.conditions.viable.are_met.Given as goal

-- what is left decides, and the cursors go through the seen keys
abbrev pub invariant-loop-key : goal.invariant-loop-key
invariant-loop-key l = record {
  decides : list_all (λ (e : FieldKey × FieldView). is_met (map key_of l.seen.keys) e.1) l.key-iterator
      ≡ list_all (λ (e : FieldKey × FieldView). is_met (map key_of l.seen.keys) e.1) l.fields.entries;
  own : IsSuffixOf (left l.own) l.seen.keys;
  flat : IsSuffixOf (left l.flat) l.seen.keys;
}
