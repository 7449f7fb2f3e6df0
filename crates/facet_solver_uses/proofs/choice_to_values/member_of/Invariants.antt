use Rattle.facet_solver_uses.specs.ChoiceToValues.{meant_field_at}
use Rattle.facet_solver_uses.proofs.ChoiceToValues.{IsOnlyBelow}
use Rattle.facet_solver_uses.proofs.choice_to_values.member_of.Given as goal

-- the member is the only one so far that means the field
abbrev pub invariant-loop-member : goal.invariant-loop-member
invariant-loop-member l = IsOnlyBelow (meant_field_at l.meant) l.field l.member l.found
