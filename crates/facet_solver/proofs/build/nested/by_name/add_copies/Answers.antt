use Rattle.std.proofs.Common.{◌≡◌, ◌+◌, List, ℕ, Bor, Some, true, ap, sym, ◌∙◌, subst, drop, refl, slice_get}
use Rattle.std.specs.FinSet.{union}
use Rattle.std.specs.List.{AllByRecursion}
use Rattle.std.proofs.lemmas.Option.{slice_get-get_or}
use Rattle.facet_solver_shape.specs.Names.{Name}
use Rattle.facet_solver.specs.build.Nested.{KeyPaths, named, paths_of_each}
use Rattle.facet_solver.specs.build.NestedNames.{Names, NamesLead, paths_of_names, shapes_behind}
use Rattle.facet_solver.specs.declared.build.nested.shapes_behind.ShapesBehind.{ShapesBehind}
use Rattle.facet_solver.proofs.NestedFields.{each_at, each_push, of_each-push}
use Rattle.facet_solver.proofs.NestedTable.{no_more, one_more}
use Rattle.facet_solver.proofs.build.nested.by_name.add_copies.Goals as goal

pub loop-name-init : goal.loop-name-init
loop-name-init c = (λ under. refl, λ passes before lead. before)

pub loop-name-preserved : goal.loop-name-preserved
loop-name-preserved c =
    let names = c.deref-name-items.result.now in
    let i = c.loop-name.name-index in
    let e = c.loop-name-item.result in
    let old = c.loop-name.gathered.items in
    let copy : Bor Name × ShapesBehind = (e.0, c.in_ok-copied.field-0) in
    let same : shapes_behind copy.1 ≡ shapes_behind e.1 = c.in_ok-copied.ensures in
    let here : slice_get names i ≡ Some e = slice_get-get_or names i e c.loop-name-test.true ∙ ap Some (sym c.loop-name-item.is) in (
      λ under.
          ap (λ (ps : KeyPaths). union ps (paths_of_names under (drop (i + 1) names)))
          (ap (paths_of_names under) c.in_ok-push.ensures.items
          ∙ of_each-push _ old copy
          ∙ ap (λ (ids : List ℕ). union (paths_of_names under old) (named e.0.now (paths_of_each under ids))) same)
          ∙ one_more (λ (e : Bor Name × ShapesBehind). named e.0.now (paths_of_each under (shapes_behind e.1))) names i (paths_of_names under old) e here
          ∙ c.loop-name.invariant.0 under,
      λ passes before lead.
          subst (NamesLead passes) (sym c.in_ok-push.ensures.items)
          (each_push _ old copy (c.loop-name.invariant.1 passes before lead)
          (subst (AllByRecursion (λ (id : ℕ). passes id ≡ true)) (sym same) (each_at _ names i e lead here))),
    )

pub returns-clause-paths : goal.returns-clause-paths
returns-clause-paths c = λ under.
    sym (no_more (λ (e : Bor Name × ShapesBehind). named e.0.now (paths_of_each under (shapes_behind e.1))) c.deref-name-items.result.now c.loop-name.name-index (paths_of_names under c.loop-name.gathered.items) c.loop-name-test.false)
    ∙ c.loop-name.invariant.0 under
    ∙ ap (λ (names : Names). union (paths_of_names under c.args.gathered.now.items) (paths_of_names under names)) c.deref-name-items.ensures.value

pub returns-clause-lead : goal.returns-clause-lead
returns-clause-lead c = λ passes before lead. c.loop-name.invariant.1 passes before (subst (NamesLead passes) (sym c.deref-name-items.ensures.value) lead)
