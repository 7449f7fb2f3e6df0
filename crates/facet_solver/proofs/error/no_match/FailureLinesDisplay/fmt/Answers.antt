use Rattle.std.proofs.Common.{◌≡◌, true, map, Ok, refl, sym, ◌∙◌, ap}
use Rattle.std.proofs.Output.{has_written_append, has_written_of_eq}
use Rattle.std.proofs.lemmas.List.{take_all}
use Rattle.std.proofs.lemmas.List.Folds.{flat_map-map}
use Rattle.std.specs.List.{flat_map}
use Rattle.facet_solver.specs.error.ErrorTexts.{failure_text, failure_names}
use Rattle.facet_solver.specs.error.QuotedNames.{all_ascii}
use Rattle.facet_solver.specs.error.ErrorView.{failure_view}
use Rattle.facet_solver.proofs.ErrorTexts.{owed_when, ascii_at, text_of, written, flat_map_next}
use Rattle.facet_solver.proofs.error.no_match.FailureLinesDisplay.fmt.Goals as goal

pub loop-failure-preserved : goal.loop-failure-preserved
loop-failure-preserved g c ascii plain =
    let failures = c.args.self.now.0.now in
    let i = c.loop-failure.failure-index in
    let failure = c.failure-item.result in
    let so_far = c.loop-failure.invariant ascii plain in
    let each : all_ascii (flat_map (λ x. failure_names (failure_view x)) failures) ≡ true = ap all_ascii (sym (flat_map-map failure_names failure_view failures)) ∙ ascii in
    let here : all_ascii (failure_names (failure_view failure)) ≡ true =
    ap (λ x. all_ascii (failure_names (failure_view x))) c.failure-item.is
    ∙ ascii_at (λ x. failure_names (failure_view x)) failures i failure c.loop-failure-test.true each in
    has_written_of_eq _ _ _ _ _
    (flat_map_next (λ x. failure_text (failure_view x)) failures i failure c.loop-failure-test.true c.failure-item.is)
    (has_written_append _ _ _ _ _ _ so_far
    (written _ _ _ (Ok tt) _ (failure_text (failure_view failure)) (text_of (failure_names (failure_view failure)) _ here) c.in_ok-write.ensures.writes so_far.plain refl))

-- all lines
pub returns-clause-writes : goal.returns-clause-writes
returns-clause-writes g c =
    let failures = c.args.self.now.0.now in
    owed_when _ _ _ (Ok tt) (flat_map failure_names (map failure_view failures)) (flat_map failure_text (map failure_view failures)) (λ ascii plain ok.
    has_written_of_eq _ _ _ _ _
    (ap (flat_map (λ x. failure_text (failure_view x))) (take_all c.loop-failure.failure-index failures c.loop-failure-test.false)
    ∙ sym (flat_map-map failure_text failure_view failures))
    (c.loop-failure.invariant ascii plain))
