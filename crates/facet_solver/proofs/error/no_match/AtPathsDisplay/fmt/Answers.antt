use Rattle.std.proofs.Common.{Ok, refl, sym, ◌∙◌, ap}
use Rattle.std.proofs.Output.{has_written_append, has_written_of_eq}
use Rattle.std.proofs.lemmas.List.{take_all}
use Rattle.std.proofs.lemmas.List.Folds.{flat_map-map}
use Rattle.std.specs.List.{flat_map}
use Rattle.facet_solver.specs.error.ErrorTexts.{field_at_path}
use Rattle.facet_solver.specs.error.ErrorView.{missing_view}
use Rattle.facet_solver.proofs.ErrorTexts.{written, flat_map_next}
use Rattle.facet_solver.proofs.error.no_match.AtPathsDisplay.fmt.Goals as goal

pub loop-field-preserved : goal.loop-field-preserved
loop-field-preserved g c plain =
    let field = c.field-item.result in
    let so_far = c.loop-field.invariant plain in
    has_written_of_eq _ _ _ _ _
    (flat_map_next (λ m. field_at_path (missing_view m)) c.args.self.now.0.now c.loop-field.field-index field c.loop-field-test.true c.field-item.is)
    (has_written_append _ _ _ _ _ _ so_far
    (written _ _ _ (Ok tt) _ (field_at_path (missing_view field)) refl c.in_ok-write.ensures.writes so_far.plain refl))

-- all fields
pub returns-clause-writes : goal.returns-clause-writes
returns-clause-writes g c plain ok =
    let fields = c.args.self.now.0.now in
    has_written_of_eq _ _ _ _ _
    (ap (flat_map (λ m. field_at_path (missing_view m))) (take_all c.loop-field.field-index fields c.loop-field-test.false)
    ∙ sym (flat_map-map field_at_path missing_view fields))
    (c.loop-field.invariant plain)
