use Rattle.std.proofs.Common.{ap, sym, ◌∙◌, subst}
use Rattle.std.proofs.lemmas.Bool.{eqb-true}
use Rattle.std.proofs.lemmas.List.{nil_from_length}
use Rattle.facet_solver.specs.build.Build.{build_of}
use Rattle.facet_solver.specs.build.Outcome.{effect}
use Rattle.facet_solver.specs.build.Place.{chosen_of}
use Rattle.facet_solver.proofs.Walk.{content-at, stops-chosen, then-alone, then-inside, then-nothing}
use Rattle.facet_solver.proofs.WalkFrames.{chosen-reached, leads-exit, leads-nothing}
use Rattle.facet_solver.specs.build.WalkFrames.{IsReached}
use Rattle.facet_solver.specs.build.Work.{work_of_fields, work_of_variant}
use Rattle.facet_solver.proofs.build.walk.walk_variant.Goals as goal
use Rattle.facet_solver.proofs.build.walk.walk_variant.Goals.{then-is_empty-via-then-is_empty, then-is_empty-via-else-is_empty+then-not-walks_content}

pub returns-in_err-emit_variant-clause-leads : goal.returns-in_err-emit_variant-clause-leads
returns-in_err-emit_variant-clause-leads c =
    leads-exit (build_of c.args.walker.now.build) c.from_residual.result c.args.place.now c.emit_variant.new.resolution _ _ c.from_residual.ensures.1
    (stops-chosen (build_of c.args.walker.now.build) (chosen_of c.args.chosen.now) c.args.place.now c.args.indices.now
    c.args.resolution.now _ c.requires.walked c.in_err-emit_variant.ensures)

pub returns-then-is_empty-clause-leads : goal.returns-then-is_empty-clause-leads
returns-then-is_empty-clause-leads c =
    let build = build_of c.args.walker.now.build in
    let fields = c.args.chosen.now.variant.now.fields in
    leads-nothing c.emit_variant.new.resolution _ c.args.indices.now
    (elim c.then-is_empty.branch [
      | then-is_empty-via-then-is_empty w ↦
          then-nothing build (chosen_of c.args.chosen.now) c.args.place.now c.args.indices.now
          c.args.resolution.now c.emit_variant.new.resolution c.in_ok-emit_variant.ensures c.requires.ready.checked
          (nil_from_length fields.items (sym fields.ok.0 ∙ eqb-true fields.len 0 (sym c.is_empty.ensures ∙ w.if-is_empty.true)))
      | then-is_empty-via-else-is_empty+then-not-walks_content w ↦
          then-alone build (chosen_of c.args.chosen.now) c.args.place.now c.args.indices.now
          c.args.resolution.now c.emit_variant.new.resolution c.in_ok-emit_variant.ensures (sym w.walks_content.ensures ∙ w.if-not-walks_content.true)
    ])

pub returns-clause-leads : goal.returns-clause-leads
returns-clause-leads c =
    let build = build_of c.args.walker.now.build in
    let chosen = chosen_of c.args.chosen.now in
    let walked = sym c.walks_content.ensures ∙ c.if-not-walks_content.false in
    then-inside build chosen c.args.place.now c.args.indices.now
    c.args.resolution.now c.emit_variant.new.resolution c.in_ok-emit_variant.ensures c.enter_variant.new.self c.in_ok-enter_variant.ensures walked
    ∙ ap (effect c.emit_variant.new.resolution)
    (content-at build chosen.variant c.enter_variant.new.self c.args.indices.now c.in_ok-fields.fields.now c.enter_content.new.place c.in_ok-fields.ensures.fields c.in_ok-fields.ensures.place)

pub returns-clause-inside : goal.returns-clause-inside
returns-clause-inside c =
    let build = build_of c.args.walker.now.build in
    let walked = sym c.walks_content.ensures ∙ c.if-not-walks_content.false in
    let reached = chosen-reached build c.requires.ready.checked c.args.walker.now.tables c.args.chosen.now c.requires.chosen c.requires.serves walked in
    subst (IsReached build c.args.walker.now.tables c.args.chosen.now.target.shape (work_of_variant (work_of_fields build) build.catalogue c.args.chosen.now.variant.now)) (sym c.in_ok-fields.ensures.fields) reached
