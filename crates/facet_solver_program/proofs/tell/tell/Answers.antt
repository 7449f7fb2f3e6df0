use Rattle.std.proofs.Common.{◌+◌, ◌∷◌, ap, sym, ◌∙◌, drop, map}
use Rattle.std.proofs.lemmas.List.{drop_more}
use Rattle.std.proofs.Math.ListN.{drop_of_length-le}
use Rattle.facet_solver.specs.solver.State.{State}
use Rattle.facet_solver_program.specs.Document.{member_view}
use Rattle.facet_solver_program.specs.Tell.{tell}
use Rattle.facet_solver_program.proofs.tell.tell.Goals as goal

pub loop-member-preserved : goal.loop-member-preserved
loop-member-preserved c =
    let cat = c.args.shapes.now in
    let members = c.deref-member-items.result.now in
    let index = c.loop-member.member-index in
    let rest = drop (index + 1) members in
    ap (λ (s : State). tell cat (map member_view rest) s) c.in_ok-tell_member.ensures
    ∙ ap (λ m. tell cat (map member_view (m ∷ rest)) c.loop-member.solver) c.member-item.is
    ∙ ap (λ ms. tell cat (map member_view ms) c.loop-member.solver) (sym (drop_more members index c.member-item.result c.loop-member-test.true))
    ∙ c.loop-member.invariant

pub returns : goal.returns
returns c =
    let cat = c.args.shapes.now in
    let members = c.deref-member-items.result.now in
    sym (ap (λ ms. tell cat (map member_view ms) c.loop-member.solver) (drop_of_length-le members c.loop-member-test.false))
    ∙ c.loop-member.invariant
    ∙ ap (λ ms. tell cat (map member_view ms) c.args.solver.now) c.deref-member-items.ensures.value
    ∙ ap (λ ms. tell cat ms c.args.solver.now) c.in_ok-members.ensures
