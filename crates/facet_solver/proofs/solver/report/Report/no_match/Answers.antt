use Rattle.std.proofs.Common.{map, ap, ◌∙◌}
use Rattle.facet_solver_shape.specs.Keys.{key_of}
use Rattle.facet_solver.specs.error.ErrorView.{MissingView, missing_view, no_match}
use Rattle.facet_solver.specs.solver.Report.{closest, state_of_report}
use Rattle.facet_solver.proofs.Missing.{told_names}
use Rattle.facet_solver.proofs.SeenNames.{names_of_all}
use Rattle.facet_solver.proofs.solver.report.Report.no_match.Goals as goal

pub returns : goal.returns
returns c =
    let state = state_of_report c.args.self.now in
    let names = c.in_ok-missing_names.ensures
    ∙ ap (λ fields. map (λ (m : MissingView). m.name) (map missing_view fields)) c.deref.ensures.value
    ∙ ap (map (λ (m : MissingView). m.name)) c.in_ok-missing.ensures
    ∙ told_names state.schema.build.catalogue state.seen (closest state) in
    let input = c.in_ok-names_where.ensures ∙ names_of_all (map key_of c.args.self.now.seen.now.keys) in
    λ i. no_match (record {
      input_fields = input i;
      missing_required = names i;
      missing_required_detailed = c.in_ok-missing.ensures i;
      unknown_fields = c.in_ok-names_where-2.ensures i;
      closest_resolution = c.in_ok-closest_description.ensures i;
      candidate_failures = c.in_ok-failures.ensures i;
    })
