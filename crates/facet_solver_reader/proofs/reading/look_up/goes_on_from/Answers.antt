use Rattle.std.proofs.Common.{◌∙◌, ap, sym, ◌+◌, ◌-◌, length}
use Rattle.std.specs.Prelude.{◌||◌}
use Rattle.facet_solver_reader.proofs.LookUps.{all_beginnings, begins, next_beginning}
use Rattle.facet_solver_reader.proofs.reading.look_up.goes_on_from.Goals as goal

pub loop-count-init : goal.loop-count-init
loop-count-init c = all_beginnings c.args.path.now c.args.text.now

pub returns-then-is_text_of : goal.returns-then-is_text_of
returns-then-is_text_of c =
    let path = c.args.path.now in
    let text = c.args.text.now in
    let k = c.loop-count.count in
    sym (c.loop-count.invariant ∙ next_beginning path text k c.loop-count-test.true
    ∙ ap (λ b. b || begins path text (k + 1) (length path - (k + 1)))
    (sym c.is_text_of.ensures ∙ c.if-is_text_of.true))

pub loop-count-preserved : goal.loop-count-preserved
loop-count-preserved c =
    let path = c.args.path.now in
    let text = c.args.text.now in
    let k = c.loop-count.count in
    c.loop-count.invariant ∙ next_beginning path text k c.loop-count-test.true
    ∙ ap (λ b. b || begins path text (k + 1) (length path - (k + 1)))
    (sym c.is_text_of.ensures ∙ c.if-is_text_of.false)
