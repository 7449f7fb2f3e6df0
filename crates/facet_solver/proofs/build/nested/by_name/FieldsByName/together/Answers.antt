use Rattle.std.proofs.Common.{◌≡◌, ◌+◌, ◌∙◌, Some, ap, drop, slice_get, subst, sym}
use Rattle.std.specs.FinSet.{union}
use Rattle.std.proofs.lemmas.Option.{slice_get-get_or}
use Rattle.facet_solver.specs.build.Nested.{KeyPaths, Under, paths_of_each}
use Rattle.facet_solver.specs.build.NestedNames.{Names, NamesLead, paths_of_names}
use Rattle.facet_solver.specs.declared.build.nested.by_name.FieldsByName.{FieldsByName}
use Rattle.facet_solver.proofs.NestedFields.{each_at}
use Rattle.facet_solver.proofs.NestedSets.{none-union}
use Rattle.facet_solver.proofs.NestedTable.{if_ok, no_more, one_more}
use Rattle.facet_solver.proofs.build.nested.by_name.FieldsByName.together.Goals as goal

abbrev paths : Under → FieldsByName → KeyPaths
paths under some = paths_of_names under some.by_name.items

pub loop-fields-init : goal.loop-fields-init
loop-fields-init c = (
  λ under.
      let all = paths_of_each (paths under) c.args.each.now in
      ap (λ (names : Names). union (paths_of_names under names) all) c.new-gathered.ensures.items ∙ none-union all,
  λ passes lead. subst (NamesLead passes) (sym c.new-gathered.ensures.items) tt,
)

pub loop-fields-preserved : goal.loop-fields-preserved
loop-fields-preserved c =
    let each = c.args.each.now in
    let i = c.loop-fields.fields-index in
    let some = c.fields-item.result in
    let here : slice_get each i ≡ Some some = slice_get-get_or each i some c.loop-fields-test.true ∙ ap Some (sym c.fields-item.is) in (
      λ under.
          let old = paths_of_names under c.loop-fields.gathered.items in
          ap (λ (ps : KeyPaths). union ps (paths_of_each (paths under) (drop (i + 1) each))) (c.in_ok-add_copies.ensures.paths under)
          ∙ one_more (paths under) each i old some here
          ∙ c.loop-fields.invariant.0 under,
      λ passes lead.
          c.in_ok-add_copies.ensures.lead passes (c.loop-fields.invariant.1 passes lead)
          (each_at (λ (some : FieldsByName). NamesLead passes some.by_name.items) each i some lead here),
    )

pub returns-clause-paths : goal.returns-clause-paths
returns-clause-paths c = if_ok _ _ c.new.result
    (λ fields all under.
    all under
    ∙ sym (no_more (paths under) c.args.each.now c.loop-fields.fields-index (paths_of_names under c.loop-fields.gathered.items) c.loop-fields-test.false)
    ∙ c.loop-fields.invariant.0 under)
    c.new.ensures.paths

pub returns-clause-lead : goal.returns-clause-lead
returns-clause-lead c = if_ok _ _ c.new.result (λ fields all passes lead. all passes (c.loop-fields.invariant.1 passes lead)) c.new.ensures.lead
