use Rattle.std.proofs.Common.{◌≡◌, ◌≤◌, ◌+◌, Some, arith, subst, set, true}
use Rattle.facet_solver.specs.build.NestedTable.{IsMarked}
use Rattle.facet_solver.specs.build.Reached.{reach}
use Rattle.facet_solver_shape.specs.Roles.{role_of}
use Rattle.facet_solver.proofs.Marks.{set_same}
use Rattle.facet_solver.proofs.Reached.{field_marked, reached-set}
use Rattle.facet_solver.proofs.Roles.{target_in, target_in_hand, target_in_role-le}
use Rattle.facet_solver.proofs.build.nested.reached.mark_field.Goals as goal

-- the target stands no later than the field's shape
target : (c : goal.After-index) → Some c.in-Block.target ≡ target_in (role_of c.args.shapes.now c.args.field.now)
target c = target_in_hand c.args.shapes.now c.args.field.now c.role_of.result c.in-Block.target c.role_of.ensures c.in-Block.is

early : (c : goal.After-index) → c.index.result ≤ c.args.field.now.shape
early c = omega (arith, target_in_role-le c.args.shapes.now c.requires.checked c.args.field.now c.in-Block.target (target c), c.index.ensures)

pub bounds-walked-index : goal.bounds-walked-index
bounds-walked-index c = omega (arith, early c, c.requires.below)

pub returns-in-Block-clause-more : goal.returns-in-Block-clause-more
returns-in-Block-clause-more c =
    reached-set (c.args.field.now.shape + 1) c.index.result c.args.walked.now c.args.structs.now (omega (arith, early c)) (omega (arith, early c, c.requires.below))

pub returns-in-Block-clause-reached : goal.returns-in-Block-clause-reached
returns-in-Block-clause-reached c =
    let walked = set c.args.walked.now c.index.result true in
    field_marked (reach walked c.args.structs.now) c.args.shapes.now c.args.field.now c.in-Block.target (target c)
    (subst (IsMarked walked) c.index.ensures (set_same c.args.walked.now c.index.result (omega (arith, early c, c.requires.below))))
