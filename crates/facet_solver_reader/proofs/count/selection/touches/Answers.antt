use Rattle.std.proofs.Common.{◌≡◌, true, false}
use Rattle.facet_solver_reader.specs.Nodes.{members_in, value_of}
use Rattle.facet_solver_reader.specs.Reading.{object_view}
use Rattle.facet_solver_reader.specs.Views.{selection_view}
use Rattle.facet_solver_reader.proofs.CountingObjects.{touches_by_rest}
use Rattle.facet_solver_reader.proofs.KnownNames.{none_known, touched}
use Rattle.facet_solver_reader.proofs.count.selection.touches.Goals as goal

pub returns-then-knows_member : goal.returns-then-knows_member
returns-then-knows_member c = (
  λ p.
      touched c.args.tables.now c.requires.tables c.args.selection.now c.requires.named
      (object_view c.args.nodes.now c.args.object.now)
      (c.knows_member.ensures.0 c.if-knows_member.true),
  λ k. c.if-knows_member.true,
)

pub returns-else-knows_member : goal.returns-else-knows_member
returns-else-knows_member c =
    touches_by_rest c.args.tables.now c.args.nodes.now c.args.object.now c.requires.object
    (selection_view c.args.selection.now) c.touches_rest.result c.touches_rest.ensures
    (none_known c.args.tables.now c.requires.tables c.args.selection.now c.requires.named
    (members_in (value_of c.args.nodes.now c.args.object.now.node))
    (λ k.
    let is : c.knows_member.result ≡ true = c.knows_member.ensures.1 k in
    let isnt : c.knows_member.result ≡ false = c.if-knows_member.false in
    absurd (cc)))
