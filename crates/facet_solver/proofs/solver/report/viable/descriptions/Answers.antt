use Rattle.std.proofs.Common.{◌≡◌, ◌+◌, ℕ, List, map, drop, Some, None, ap, refl, string_bytes}
use Rattle.std.proofs.lemmas.List.{drop_more}
use Rattle.std.proofs.Math.ListN.{drop_of_length-le}
use Rattle.facet_solver_shape.specs.Names.{Name}
use Rattle.facet_solver_shape.specs.Resolved.{Resolved, description}
use Rattle.facet_solver.specs.solver.Report.{descriptions, resolutions_at}
use Rattle.facet_solver.proofs.AtIndices.{got, none_at, one_at}
use Rattle.facet_solver.proofs.Left.{left_end, left_none, left_one, left_start, map_pushed}
use Rattle.facet_solver.proofs.solver.report.viable.descriptions.Goals as goal
use Rattle.facet_solver.proofs.solver.report.viable.descriptions.Goals.{in-Some+in_ok-describe+in_ok-push, in_default}

abbrev texts : List Resolved → List ℕ → List Name
texts resolutions indices = descriptions (resolutions_at resolutions indices)

pub loop-index-init : goal.loop-index-init
loop-index-init c =
    left_start (texts c.args.schema.now.resolutions) (map string_bytes c.new-texts.result.items) c.args.indices.now c.args.indices.now (ap (map string_bytes) c.new-texts.ensures.items) refl

pub loop-index-preserved : goal.loop-index-preserved
loop-index-preserved c =
    let rs = c.args.schema.now.resolutions in
    let same : c.resolutions-resolutions.result.now ≡ rs = c.resolutions-resolutions.ensures.resolutions in
    let i = c.loop-index.index-index in
    let step = drop_more c.args.indices.now i 0 c.loop-index-test.true in
    let rest = drop (i + 1) c.args.indices.now in
    elim c.match-get.branch [
      | in-Some+in_ok-describe+in_ok-push w ↦
          let r = w.in-Some.resolution.now in
          let found = got rs c.resolutions-resolutions.result.now same _ (Some w.in-Some.resolution) w.in-Some.ensures.lookup in
          rw w.texts-is (left_one (texts rs) (map string_bytes c.loop-index.texts.items) (drop i c.args.indices.now) rest _ _ c.loop-index.invariant step
          (map string_bytes w.push.new.self.items) (description r.selections)
          (map_pushed string_bytes c.loop-index.texts.items w.push.new.self.items w.in_ok-describe.field-0 (description r.selections) w.in_ok-push.ensures.items w.in_ok-describe.ensures)
          (ap descriptions (one_at rs _ rest r found)))
      | in_default w ↦
          let missed = got rs c.resolutions-resolutions.result.now same _ None w.in_default.ensures.lookup in
          rw w.texts-is (left_none (texts rs) (map string_bytes c.loop-index.texts.items) (drop i c.args.indices.now) rest _ _ c.loop-index.invariant step
          (ap descriptions (none_at rs _ rest missed)))
    ]

pub returns : goal.returns
returns c =
    left_end (texts c.args.schema.now.resolutions) (map string_bytes c.loop-index.texts.items) (drop c.loop-index.index-index c.args.indices.now) _
    c.loop-index.invariant (drop_of_length-le c.args.indices.now c.loop-index-test.false) refl
