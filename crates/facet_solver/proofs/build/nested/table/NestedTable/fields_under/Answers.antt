use Rattle.std.proofs.Common.{◌≡◌, ◌+◌, ◌≤◌, Some, ℕ, ap, drop, slice_get, subst, sym, ◌∙◌}
use Rattle.std.specs.Prelude.{◌&&◌, nat_lt}
use Rattle.std.specs.FinSet.{union}
use Rattle.std.proofs.lemmas.Option.{slice_get-get_or}
use Rattle.facet_solver.specs.build.Nested.{KeyPaths, paths_of_each}
use Rattle.facet_solver.specs.build.NestedNames.{Names, NamesLead, paths_of_names}
use Rattle.facet_solver.specs.build.NestedTable.{is_filled}
use Rattle.facet_solver.proofs.NestedFields.{each_at, leads_below}
use Rattle.facet_solver.proofs.NestedSets.{none-union}
use Rattle.facet_solver.proofs.NestedTable.{if_ok, no_more, one_more}
use Rattle.facet_solver.proofs.build.nested.table.NestedTable.fields_under.Goals as goal

pub loop-shape-init : goal.loop-shape-init
loop-shape-init c = (
  λ under stand.
      let all = paths_of_each under c.args.shapes.now in
      ap (λ (names : Names). union (paths_of_names under names) all) c.new-gathered.ensures.items ∙ none-union all,
  λ limit below. subst (NamesLead _) (sym c.new-gathered.ensures.items) tt,
)

pub loop-shape-preserved : goal.loop-shape-preserved
loop-shape-preserved c =
    let shapes = c.args.shapes.now in
    let i = c.loop-shape.shape-index in
    let id = c.shape-item.result in
    let fields = c.under.result.now in
    let filled = is_filled c.args.self.now.by_index.items in
    let here : slice_get shapes i ≡ Some id = slice_get-get_or shapes i id c.loop-shape-test.true ∙ ap Some (sym c.shape-item.is) in (
      λ under stand.
          let old = paths_of_names under c.loop-shape.gathered.items in
          ap (λ (ps : KeyPaths). union ps (paths_of_each under (drop (i + 1) shapes)))
          (c.in_ok-add_copies.ensures.paths under ∙ ap (λ (ps : KeyPaths). union old ps) (stand id fields c.under.ensures))
          ∙ one_more under shapes i old id here
          ∙ c.loop-shape.invariant.0 under stand,
      λ limit below.
          c.in_ok-add_copies.ensures.lead (λ t. nat_lt t limit && filled t) (c.loop-shape.invariant.1 limit below)
          (leads_below filled id limit (each_at (λ (k : ℕ). k ≤ limit) shapes i id below here) fields (c.requires.earlier.under id fields c.under.ensures)),
    )

pub returns-clause-paths : goal.returns-clause-paths
returns-clause-paths c = if_ok _ _ c.new.result
    (λ fields all under stand.
    all under
    ∙ sym (no_more under c.args.shapes.now c.loop-shape.shape-index (paths_of_names under c.loop-shape.gathered.items) c.loop-shape-test.false)
    ∙ c.loop-shape.invariant.0 under stand)
    c.new.ensures.paths

pub returns-clause-lead : goal.returns-clause-lead
returns-clause-lead c = if_ok _ _ c.new.result (λ fields all limit below. all _ (c.loop-shape.invariant.1 limit below)) c.new.ensures.lead
