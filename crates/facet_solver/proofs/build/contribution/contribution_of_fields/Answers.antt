use Rattle.std.proofs.Common.{ap, sym, ◌∙◌, drop, ◌+◌}
use Rattle.facet_solver.specs.declared.build.contribution.Contribution.{Contribution}
use Rattle.facet_solver.specs.build.Build.{build_of}
use Rattle.facet_solver.specs.build.Contribution.{both, contribution_of_fields}
use Rattle.facet_solver.proofs.Contribution.{both_end, both_more}
use Rattle.facet_solver.proofs.build.contribution.contribution_of_fields.Goals as goal

pub loop-field-preserved : goal.loop-field-preserved
loop-field-preserved c =
    let table = c.args.earlier.now in
    let build = build_of c.args.build in
    let fs = c.args.fields.now in
    let i = c.loop-field.field-index in
    ap (λ (b : Contribution). both b (contribution_of_fields table build (drop (i + 1) fs))) (c.both-contribution.ensures ∙ ap (λ (b : Contribution). both c.loop-field.contribution b) c.contribution_of_field.ensures)
    ∙ both_more table build fs i c.loop-field.contribution c.field-item.result c.loop-field-test.true c.field-item.is
    ∙ c.loop-field.invariant

pub returns : goal.returns
returns c =
    sym (both_end c.args.earlier.now (build_of c.args.build) c.args.fields.now c.loop-field.field-index c.loop-field.contribution c.loop-field-test.false)
    ∙ c.loop-field.invariant
