-- A name is added where the list lacks it.
use Rattle.std.proofs.Common.{◌∙◌, ap, sym}
use Rattle.std.proofs.lemmas.List.{map-append}
use Rattle.facet_solver_reader.specs.Reading.{member_view}
use Rattle.facet_solver_reader.specs.Told.{texts}
use Rattle.facet_solver_reader.proofs.UnknownNames.{unknown_more, unknown_same}
use Rattle.facet_solver_reader.proofs.read.members.ignored_names.Goals as goal
use Rattle.facet_solver_reader.proofs.read.members.ignored_names.Goals.{
  then-not-has_name+in_ok-push,
  else-not-has_name,
}

pub loop-member-preserved : goal.loop-member-preserved
loop-member-preserved c =
    elim c.if-not-has_name.branch [
      | then-not-has_name+in_ok-push w ↦
          ap (λ v. texts v.items) w.names-is
          ∙ (ap texts w.in_ok-push.ensures.items
          ∙ (map-append (λ x. x.now) c.loop-member.names.items _
          ∙ unknown_more member_view c.members_of-member-items.result.now c.args.object.now.list.now
          c.loop-member.member-index c.member-item.result c.loop-member-test.true c.member-item.is
          (texts c.loop-member.names.items) (sym w.if-not-has_name.true ∙ c.has_name.ensures)
          c.loop-member.invariant))
      | else-not-has_name w ↦
          ap (λ v. texts v.items) w.names-is
          ∙ unknown_same member_view c.members_of-member-items.result.now
          c.args.object.now.list.now c.loop-member.member-index c.member-item.result
          c.loop-member-test.true c.member-item.is (texts c.loop-member.names.items)
          (sym w.if-not-has_name.false ∙ c.has_name.ensures) c.loop-member.invariant
    ]
