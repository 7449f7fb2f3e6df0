use Rattle.std.proofs.Common.{◌≡◌, ◌≤◌, length, map, take}
use Rattle.facet_solver.specs.Keys.{key_of}
use Rattle.facet_solver_uses.specs.ChoiceToValues.{is_as_content, is_by_catch_all}
use Rattle.facet_solver_uses.specs.Taken.{AreTaken}
use Rattle.facet_solver_uses.proofs.ChoiceToValues.{Members}
use Rattle.facet_solver_uses.proofs.choice_to_values.others_of.Given as goal

-- the members so far that are content, and those that a catch-all takes; all so far are taken
abbrev pub invariant-loop-member : goal.invariant-loop-member
invariant-loop-member l = record {
  within : l.member ≤ length l.keys;
  contents : l.contents.items ≡ Members is_as_content l.resolution l.keys l.member;
  rest : l.rest.items ≡ Members is_by_catch_all l.resolution l.keys l.member;
  taken : AreTaken l.resolution (map key_of (take l.member l.keys));
}
