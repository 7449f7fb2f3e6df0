use Rattle.std.proofs.Common.{◌≡◌, sym, ap, ◌∙◌}
use Rattle.std.specs.Option.{is_some}
use Rattle.facet_solver_reader.specs.Ends.{next_at, last_of}
use Rattle.facet_solver_reader.proofs.Ways.{circles_lead_on, ends_at_last}
use Rattle.facet_solver_reader.proofs.ends.leads_in_circles.Goals as goal

-- whether the last shape leads on
told : (c : goal.After-is_some) → c.is_some.result ≡ is_some (next_at c.args.shapes.now (last_of c.args.shapes.now c.args.id))
told c =
    c.is_some.ensures ∙ ap is_some (c.next_at.ensures ∙ ap (next_at c.args.shapes.now) c.last_of.ensures)

pub returns-clause-value : goal.returns-clause-value
returns-clause-value c =
    let tells = circles_lead_on c.args.shapes.now c.args.id in
    (λ leads. tells.0 (sym (told c) ∙ leads), λ circles. told c ∙ tells.1 circles)

pub returns-clause-ends : goal.returns-clause-ends
returns-clause-ends c = λ over. ends_at_last c.args.shapes.now c.args.id (sym (told c) ∙ over)
