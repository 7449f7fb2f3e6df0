use Rattle.std.proofs.Common.{◌≡◌, true, codes, Some, ◌++◌, map, Ok, refl, ◌∙◌, ap}
use Rattle.std.proofs.Output.{has_written_append, has_written_of_eq}
use Rattle.std.proofs.lemmas.List.{take_all}
use Rattle.std.specs.Char.{is_ascii}
use Rattle.std.specs.Fmt.{◌++?◌}
use Rattle.std.specs.List.{list_all, flat_map}
use Rattle.facet_solver.specs.error.ErrorTexts.{missing_names}
use Rattle.facet_solver.specs.error.QuotedNames.{quoted, later_text}
use Rattle.facet_solver.specs.error.ErrorView.{missing_view}
use Rattle.facet_solver.proofs.ErrorTexts.{owed_when, all_at, text_of_name, written, flat_map_next, ascii_each, later_each}
use Rattle.facet_solver.proofs.error.failure.LaterNamesDisplay.fmt.Goals as goal

pub loop-field-preserved : goal.loop-field-preserved
loop-field-preserved g c ascii plain =
    let fields = c.args.self.now.0.now in
    let i = c.loop-field.field-index in
    let field = c.field-item.result in
    let so_far = c.loop-field.invariant ascii plain in
    let here : list_all is_ascii (missing_view field).name ≡ true =
    ap (λ m. list_all is_ascii (missing_view m).name) c.field-item.is
    ∙ all_at (λ m. list_all is_ascii (missing_view m).name) fields i field c.loop-field-test.true (ascii_each fields ∙ ascii) in
    has_written_of_eq _ _ _ _ _
    (flat_map_next (λ m. codes ", " ++ quoted (missing_view m).name) fields i field c.loop-field-test.true c.field-item.is)
    (has_written_append _ _ _ _ _ _ so_far
    (written _ _ _ (Ok tt) _ (codes ", " ++ quoted (missing_view field).name) (ap (λ o. Some (codes ", ") ++? o) (text_of_name (missing_view field).name here)) c.in_ok-write.ensures.writes so_far.plain refl))

-- all names
pub returns-clause-writes : goal.returns-clause-writes
returns-clause-writes g c =
    let fields = c.args.self.now.0.now in
    let names = missing_names (map missing_view fields) in
    owed_when _ _ _ (Ok tt) names (later_text names) (λ ascii plain ok.
    has_written_of_eq _ _ _ _ _
    (ap (flat_map (λ m. codes ", " ++ quoted (missing_view m).name)) (take_all c.loop-field.field-index fields c.loop-field-test.false)
    ∙ later_each fields)
    (c.loop-field.invariant ascii plain))
