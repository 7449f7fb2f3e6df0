use Rattle.std.proofs.Common.{ap, ◌∙◌}
use Rattle.facet_solver_shape.specs.declared.resolution.key.FieldCategory.TheVariants.{Attribute, Element}
use Rattle.facet_solver.specs.build.Build.{build_of}
use Rattle.facet_solver.specs.build.CatchAlls.{emitted_by, last_catch_all, with_last}
use Rattle.facet_solver.specs.build.Place.{Path}
use Rattle.facet_solver.proofs.CatchAlls.{all_set}
use Rattle.facet_solver.proofs.build.catch_alls.set_catch_alls.Goals as goal

pub returns-clause-taken : goal.returns-clause-taken
returns-clause-taken c =
    let build = build_of c.args.walker.now.build in
    let fs = c.args.fields.now in
    let second = c.in_ok-set_last.ensures.place in
    let third = c.in_ok-set_last-2.ensures.place ∙ second in
    all_set build c.requires.ready.checked c.args.walker.now.contribution.by_index.items c.requires.ready.contribution fs c.args.place.now c.requires.below c.requires.alone
    c.args.resolution.now c.set_last.new.resolution c.set_last-2.new.resolution c.set_last-3.new.resolution
    c.in_ok-set_last.ensures.set
    (c.in_ok-set_last-2.ensures.set ∙ ap (λ (p : Path). with_last Attribute (last_catch_all Attribute (emitted_by build fs p)) c.set_last.new.resolution) second)
    (c.in_ok-set_last-3.ensures.set ∙ ap (λ (p : Path). with_last Element (last_catch_all Element (emitted_by build fs p)) c.set_last-2.new.resolution) third)

pub returns-clause-place : goal.returns-clause-place
returns-clause-place c =
    c.in_ok-set_last-3.ensures.place ∙ c.in_ok-set_last-2.ensures.place ∙ c.in_ok-set_last.ensures.place
