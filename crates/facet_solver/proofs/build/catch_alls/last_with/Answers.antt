use Rattle.std.proofs.Common.{ap, sym, ◌∙◌, ◌≡◌, Bool, Some, drop, ◌+◌}
use Rattle.std.specs.Prelude.{if◌then◌else◌}
use Rattle.std.specs.Option.{option_copied, option_or}
use Rattle.facet_solver.specs.build.Contribution.{contribution_of_field, has_last}
use Rattle.facet_solver.specs.build.Build.{build_of}
use Rattle.facet_solver.specs.build.CatchAlls.{last_with}
use Rattle.facet_solver_shape.proofs.Resolved.{or_none}
use Rattle.facet_solver.proofs.CatchAlls.{with-end, with-more}
use Rattle.facet_solver.proofs.build.catch_alls.last_with.Goals as goal
use Rattle.facet_solver.proofs.build.catch_alls.last_with.Goals.{then-has_last, else-has_last}

pub loop-field-init : goal.loop-field-init
loop-field-init c = or_none (last_with c.args.walker.now.contribution.by_index.items (build_of c.args.walker.now.build) c.args.category c.args.fields.now)

pub loop-field-preserved : goal.loop-field-preserved
loop-field-preserved c =
    let table = c.args.walker.now.contribution.by_index.items in
    let build = build_of c.args.walker.now.build in
    let category = c.args.category in
    let fs = c.args.fields.now in
    let i = c.loop-field.field-index in
    let f = c.field-item.result in
    let last = option_copied c.loop-field.last in
    let has : c.has_last.result ≡ has_last category (contribution_of_field table build f) = c.has_last.ensures ∙ ap (has_last category) c.of_field.ensures in
    let is : option_copied c.if-has_last.last ≡ (if has_last category (contribution_of_field table build f) then Some f else last) = elim c.if-has_last.branch [
      | then-has_last w ↦ ap option_copied w.last-is ∙ ap (λ (b : Bool). if b then Some f else last) (sym w.if-has_last.true ∙ has)
      | else-has_last w ↦ ap option_copied w.last-is ∙ ap (λ (b : Bool). if b then Some f else last) (sym w.if-has_last.false ∙ has)
    ] in
    ap (option_or (last_with table build category (drop (i + 1) fs))) is
    ∙ with-more table build category fs i f last c.loop-field-test.true c.field-item.is
    ∙ c.loop-field.invariant

pub returns : goal.returns
returns c =
    with-end c.args.walker.now.contribution.by_index.items (build_of c.args.walker.now.build) c.args.category c.args.fields.now c.loop-field.field-index (option_copied c.loop-field.last) c.loop-field-test.false
    ∙ c.loop-field.invariant
