use Rattle.std.proofs.Common.{◌<◌, length, arith, Bool, subst, sym}
use Rattle.facet_solver.specs.build.Build.{build_of}
use Rattle.facet_solver.specs.build.Count.{count_fields, count_optional, count_present}
use Rattle.facet_solver.specs.build.Counts.{CountsTo}
use Rattle.facet_solver_shape.specs.Roles.{role_of}
use Rattle.facet_solver.proofs.Roles.{target_in_role-le, target_in_hand, optional_in_hand}
use Rattle.facet_solver.proofs.Count.{present_counted}
use Rattle.facet_solver.proofs.build.count.table.count_field.Goals as goal

-- the target stands no later than the field's shape
within : (c : goal.After-index) → c.index.result < length c.args.counts.now
within c =
    let cat = c.args.build.shapes.now in
    let f = c.args.field.now in
    let target = target_in_hand cat f c.role_of.result c.in-Block.target c.role_of.ensures c.in-Block.is in
    omega (arith, target_in_role-le cat c.requires.checked f c.in-Block.target target, c.requires.below, c.index.ensures)

pub bounds-counts-index : goal.bounds-counts-index
bounds-counts-index c = within c

pub offset_bounds-counts-index : goal.offset_bounds-counts-index
offset_bounds-counts-index c =
    let at = within c in
    omega arith

pub returns-in-Block : goal.returns-in-Block
returns-in-Block c =
    let build = build_of c.args.build in
    let f = c.args.field.now in
    let target = c.in-Block.target in
    let present = present_counted build c.args.counts.now f target _ c.requires.checked c.requires.counted c.requires.below
    (target_in_hand build.catalogue f c.role_of.result target c.role_of.ensures c.in-Block.is) in
    subst (λ (b : Bool). CountsTo c.count_optional.result (count_optional b (count_present (count_fields build) build (role_of build.catalogue f))))
    (sym (optional_in_hand build.catalogue f c.role_of.result target c.role_of.ensures c.in-Block.is))
    (c.count_optional.ensures _ (rw c.index.ensures present))
