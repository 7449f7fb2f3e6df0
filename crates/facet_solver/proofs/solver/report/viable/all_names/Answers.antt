use Rattle.std.proofs.Common.{◌≡◌, ◌+◌, ℕ, List, [], ◌++◌, Some, None, drop, ap, ◌∙◌, subst}
use Rattle.std.specs.List.{flat_map}
use Rattle.std.proofs.lemmas.List.{drop_more}
use Rattle.std.proofs.Math.ListN.{drop_of_length-le}
use Rattle.facet_solver_shape.specs.Names.{Name}
use Rattle.facet_solver_shape.specs.Resolved.{Resolved}
use Rattle.facet_solver.specs.solver.Report.{resolution_field_names, resolutions_at}
use Rattle.facet_solver.proofs.AtIndices.{got, none_at, one_at}
use Rattle.facet_solver.proofs.NameSets.{Fills, fills_start, fills_union, filled_list, in_list}
use Rattle.facet_solver.proofs.solver.report.viable.all_names.Goals as goal
use Rattle.facet_solver.proofs.solver.report.viable.all_names.Goals.{in-Some+in_ok-add_names, in_default}

abbrev names : List Resolved → List ℕ → List Name
names resolutions indices = flat_map resolution_field_names (resolutions_at resolutions indices)

pub loop-index-init : goal.loop-index-init
loop-index-init c = fills_start c.new-names.result.keys (names c.args.schema.now.resolutions c.args.indices.now) c.new-names.ensures.empty

pub loop-index-preserved : goal.loop-index-preserved
loop-index-preserved c =
    let rs = c.args.schema.now.resolutions in
    let same : c.resolutions-resolutions.result.now ≡ rs = c.resolutions-resolutions.ensures.resolutions in
    let i = c.loop-index.index-index in
    let wanted = in_list (names rs c.args.indices.now) in
    let rest = drop (i + 1) c.args.indices.now in
    let step = drop_more c.args.indices.now i 0 c.loop-index-test.true in
    elim c.match-get.branch [
      | in-Some+in_ok-add_names w ↦
          let found = got rs c.resolutions-resolutions.result.now same _ (Some w.in-Some.resolution) w.in-Some.ensures.lookup in
          let left : names rs (drop i c.args.indices.now) ≡ resolution_field_names w.in-Some.resolution.now ++ names rs rest =
          ap (names rs) step ∙ ap (flat_map resolution_field_names) (one_at rs _ rest w.in-Some.resolution.now found) in
          rw w.names-is (fills_union c.loop-index.names.keys w.add_names.new.names.keys (resolution_field_names w.in-Some.resolution.now) (names rs rest) wanted
          (subst (λ (ns : List Name). Fills c.loop-index.names.keys ns wanted) left c.loop-index.invariant) w.in_ok-add_names.ensures)
      | in_default w ↦
          let missed = got rs c.resolutions-resolutions.result.now same _ None w.in_default.ensures.lookup in
          let left : names rs (drop i c.args.indices.now) ≡ names rs rest = ap (names rs) step ∙ ap (flat_map resolution_field_names) (none_at rs _ rest missed) in
          rw w.names-is (subst (λ (ns : List Name). Fills c.loop-index.names.keys ns wanted) left c.loop-index.invariant)
    ]

pub returns : goal.returns
returns c =
    let rs = c.args.schema.now.resolutions in
    let done : drop c.loop-index.index-index c.args.indices.now ≡ [] = drop_of_length-le c.args.indices.now c.loop-index-test.false in
    filled_list c.loop-index.names.keys (names rs c.args.indices.now)
    (subst (λ (is : List ℕ). Fills c.loop-index.names.keys (names rs is) (in_list (names rs c.args.indices.now))) done c.loop-index.invariant)
