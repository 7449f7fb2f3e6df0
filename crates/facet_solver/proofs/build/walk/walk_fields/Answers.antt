use Rattle.std.proofs.Common.{◌≡◌, ◌∷◌, ◌<◌, ℕ, List, [], Option, ap, length, reverse, sym, take, ◌∙◌, subst, IsSome}
use Rattle.std.specs.Borrow.{Bor}
use Rattle.std.specs.Option.{option_copied}
use Rattle.std.specs.Prelude.{IfSome}
use Rattle.std.proofs.lemmas.List.{nil_from_length}
use Rattle.facet_solver_shape.specs.declared.shape.Field.{Field}
use Rattle.facet_solver.specs.declared.build.walk.Frame.{Frame}
use Rattle.facet_solver.specs.build.Build.{build_of}
use Rattle.facet_solver.specs.build.Outcome.{StopsBy, effect}
use Rattle.facet_solver.specs.build.Place.{Path}
use Rattle.facet_solver.specs.build.Walk.{walk_field, walk_fields}
use Rattle.facet_solver.specs.build.WalkFrames.{AreFrames, IsInside, IsReached, walk_frames, walk_inside}
use Rattle.facet_solver.specs.build.Work.{work_of_field}
use Rattle.facet_solver.proofs.Walk.{walks-exit}
use Rattle.facet_solver.proofs.WalkFrames.{frames-start, none-are, none-left, over-are, over-left, some-are, some-left, stack-popped, stack-pushed, turn-served, turn-stops, turn-walked, walk-done, walk-start, work-none, work-over, work-some, work_of_frames}
use Rattle.facet_solver.proofs.build.walk.walk_fields.Goals as goal

pub loop-field-init : goal.loop-field-init
loop-field-init c =
    let build = build_of c.args.walker.now.build in
    let tables = c.args.walker.now.tables in
    let fs = c.args.fields in
    let place = c.args.place.now in
    let frame : Frame = record { fields = fs; depth = c.depth.result } in
    let stack : frame ∷ reverse c.clear.new.self.items ≡ record { fields = fs; depth = length place } ∷ [] =
    ap (λ (frames : List Frame). frame ∷ reverse frames) c.clear.ensures.items
    ∙ ap (λ (d : ℕ). record { fields = fs; depth = d } ∷ []) c.depth.ensures in (
      subst (AreFrames build tables (length place)) (sym stack) (frames-start build tables fs place c.requires.below c.requires.serves),
      ap (λ (frames : List Frame). effect c.args.resolution.now (walk_frames build place frames c.args.indices.now)) stack
          ∙ ap (effect c.args.resolution.now) (walk-start build tables fs place c.args.indices.now),
    )

-- a level is over, and no other is left
pub returns-in_default-pop : goal.returns-in_default-pop
returns-in_default-pop c =
    let build = build_of c.args.walker.now.build in
    let tables = c.args.walker.now.tables in
    let place = c.loop-field.place in
    let frame = c.loop-field.frame in
    let frames = c.loop-field.frames in
    let outer = reverse frames.items in
    let ns = c.loop-field.rest.now in
    let r = c.loop-field.resolution in
    let r0 = c.args.resolution.now in
    let whole = walk_fields build c.args.fields.now c.args.place.now c.args.indices.now in
    let over = over-left build c.requires.ready.checked tables place frame outer ns r r0 whole c.requires.walked c.loop-field.invariant.0 c.loop-field.invariant.1 (nil_from_length frame.fields.now c.in_default.ensures.cases) in
    let empty = nil_from_length frames.items (sym frames.ok.0 ∙ c.in_default-pop.ensures.cases.0) in
    let here = take frame.depth place in
    walk-done build tables r r0 here ns whole
    (ap (λ (frames : List Frame). effect r (walk_frames build here (reverse frames) ns)) (sym empty) ∙ over)

-- a level is over, and the one around it goes on
pub loop-field-smaller-in_default : goal.loop-field-smaller-in_default
loop-field-smaller-in_default c =
    let build = build_of c.args.walker.now.build in
    let frame = c.loop-field.frame in
    let outer = reverse c.loop-field.frames.items in
    let popped : outer ≡ c.in-Some-pop.outer ∷ reverse c.pop.new.self.items = stack-popped c.loop-field.frames.items c.pop.new.self.items c.pop.result c.in-Some-pop.outer c.pop.ensures.items c.in-Some-pop.is in
    subst (λ (frames : List Frame). work_of_frames build frames < work_of_frames build (frame ∷ outer)) popped (work-over build frame outer)

pub loop-field-preserved-in_default : goal.loop-field-preserved-in_default
loop-field-preserved-in_default c =
    let build = build_of c.args.walker.now.build in
    let tables = c.args.walker.now.tables in
    let place = c.loop-field.place in
    let frame = c.loop-field.frame in
    let outer = reverse c.loop-field.frames.items in
    let ns = c.loop-field.rest.now in
    let r = c.loop-field.resolution in
    let r0 = c.args.resolution.now in
    let whole = walk_fields build c.args.fields.now c.args.place.now c.args.indices.now in
    let are = c.loop-field.invariant.0 in
    let left = c.loop-field.invariant.1 in
    let empty = nil_from_length frame.fields.now c.in_default.ensures.cases in
    let popped : outer ≡ c.in-Some-pop.outer ∷ reverse c.pop.new.self.items = stack-popped c.loop-field.frames.items c.pop.new.self.items c.pop.result c.in-Some-pop.outer c.pop.ensures.items c.in-Some-pop.is in (
      subst (AreFrames build tables (length c.cut.new.self)) popped
          (subst (λ (p : Path). AreFrames build tables (length p) outer) (sym c.cut.ensures) (over-are build c.requires.ready.checked tables place frame outer ns r r0 whole c.requires.walked are left empty)),
      ap (λ (frames : List Frame). effect r (walk_frames build c.cut.new.self frames ns)) (sym popped)
          ∙ ap (λ (p : Path). effect r (walk_frames build p outer ns)) c.cut.ensures
          ∙ over-left build c.requires.ready.checked tables place frame outer ns r r0 whole c.requires.walked are left empty,
    )

pub walk_field-requires-clause-serves : goal.walk_field-requires-clause-serves
walk_field-requires-clause-serves c =
    let build = build_of c.args.walker.now.build in
    let frame = c.loop-field.frame in
    let outer = reverse c.loop-field.frames.items in
    let whole = walk_fields build c.args.fields.now c.args.place.now c.args.indices.now in
    turn-served build c.requires.ready.checked c.args.walker.now.tables c.loop-field.place frame outer c.loop-field.rest.now c.loop-field.resolution c.args.resolution.now whole c.requires.walked
    c.loop-field.invariant.0 c.loop-field.invariant.1 c.in-Some.field.now c.in-Some.behind c.in-Some.ensures.cases.0

pub walk_field-requires-clause-walked : goal.walk_field-requires-clause-walked
walk_field-requires-clause-walked c =
    let build = build_of c.args.walker.now.build in
    let frame = c.loop-field.frame in
    let outer = reverse c.loop-field.frames.items in
    let ns = c.loop-field.rest.now in
    let f = c.in-Some.field.now in
    let whole = walk_fields build c.args.fields.now c.args.place.now c.args.indices.now in
    subst (λ (p : Path). IsSome (walk_field build f p ns)) (sym c.cut.ensures)
    (turn-walked build c.requires.ready.checked c.args.walker.now.tables c.loop-field.place frame outer ns c.loop-field.resolution c.args.resolution.now whole c.requires.walked
    c.loop-field.invariant.0 c.loop-field.invariant.1 f c.in-Some.behind c.in-Some.ensures.cases.0)

pub returns-in_err-further : goal.returns-in_err-further
returns-in_err-further c =
    let build = build_of c.args.walker.now.build in
    let frame = c.loop-field.frame in
    let outer = reverse c.loop-field.frames.items in
    let ns = c.loop-field.rest.now in
    let r = c.loop-field.resolution in
    let f = c.in-Some.field.now in
    let whole = walk_fields build c.args.fields.now c.args.place.now c.args.indices.now in
    walks-exit c.from_residual.result c.walk_field.new.resolution _ _ c.from_residual.ensures.1
    (turn-stops build c.requires.ready.checked c.args.walker.now.tables c.loop-field.place frame outer ns r c.args.resolution.now whole c.requires.walked
    c.loop-field.invariant.0 c.loop-field.invariant.1 f c.in-Some.behind c.in-Some.ensures.cases.0
    c.in_err-further.field-0.0 (subst (λ (p : Path). StopsBy (effect r (walk_field build f p ns)) c.in_err-further.field-0.0) c.cut.ensures c.in_err-further.ensures.leads))

-- nothing is inside a field
pub loop-field-smaller-in_default-inside : goal.loop-field-smaller-in_default-inside
loop-field-smaller-in_default-inside c =
    let build = build_of c.args.walker.now.build in
    let frame = c.loop-field.frame in
    work-none build frame (reverse c.loop-field.frames.items) c.in-Some.field.now c.in-Some.behind c.in-Some.ensures.cases.0 c.requires.ready.checked c.loop-field.invariant.0.1.0

pub loop-field-preserved-in_default-inside : goal.loop-field-preserved-in_default-inside
loop-field-preserved-in_default-inside c =
    let build = build_of c.args.walker.now.build in
    let tables = c.args.walker.now.tables in
    let place = c.loop-field.place in
    let frame = c.loop-field.frame in
    let outer = reverse c.loop-field.frames.items in
    let ns = c.loop-field.rest.now in
    let r = c.loop-field.resolution in
    let r0 = c.args.resolution.now in
    let whole = walk_fields build c.args.fields.now c.args.place.now c.args.indices.now in
    let are = c.loop-field.invariant.0 in
    let left = c.loop-field.invariant.1 in
    let f = c.in-Some.field.now in
    let behind = c.in-Some.behind in
    let is = c.in-Some.ensures.cases.0 in
    let s = c.walk_field.new.resolution in
    let next = c.walk_field.new.place in
    let further = c.in_ok-further.further in
    let inside = subst (λ (p : Path). IsInside p next) c.cut.ensures c.in_ok-further.ensures.place in
    let leads = subst (λ (p : Path). effect r (walk_field build f p ns) ≡ effect s (walk_inside build (option_copied further.inside) next further.indices.now)) c.cut.ensures c.in_ok-further.ensures.leads in (
      none-are build c.requires.ready.checked tables place frame outer ns r r0 whole c.requires.walked are left f behind is s next inside further.inside further.indices.now leads,
      none-left build c.requires.ready.checked tables place frame outer ns r r0 whole c.requires.walked are left f behind is s next inside further.inside further.indices.now leads c.in_default-inside.is,
    )

-- the fields inside a field come next
pub loop-field-smaller : goal.loop-field-smaller
loop-field-smaller c =
    let build = build_of c.args.walker.now.build in
    let tables = c.args.walker.now.tables in
    let frame = c.loop-field.frame in
    let outer = reverse c.loop-field.frames.items in
    let f = c.in-Some.field.now in
    let behind = c.in-Some.behind in
    let is = c.in-Some.ensures.cases.0 in
    let rest_frame : Frame = record { fields = behind; depth = frame.depth } in
    let pushed : reverse c.push.new.self.items ≡ rest_frame ∷ outer = stack-pushed c.push.new.self.items c.loop-field.frames.items rest_frame c.in_ok-push.ensures.items in
    let inner : Frame = record { fields = c.in-Some-inside.inside; depth = c.depth-in-loop-field.result } in
    let reached : IsReached build tables f.shape (work_of_field build f) c.in-Some-inside.inside.now = subst (λ (o : Option (Bor (List Field))). IfSome (option_copied o) (IsReached build tables f.shape (work_of_field build f))) c.in-Some-inside.is c.in_ok-further.ensures.inside in
    subst (λ (frames : List Frame). work_of_frames build (inner ∷ frames) < work_of_frames build (frame ∷ outer)) (sym pushed)
    (work-some build frame outer f behind is c.requires.ready.checked c.loop-field.invariant.0.1.0 tables inner reached)

pub loop-field-preserved : goal.loop-field-preserved
loop-field-preserved c =
    let build = build_of c.args.walker.now.build in
    let tables = c.args.walker.now.tables in
    let place = c.loop-field.place in
    let frame = c.loop-field.frame in
    let outer = reverse c.loop-field.frames.items in
    let ns = c.loop-field.rest.now in
    let r = c.loop-field.resolution in
    let r0 = c.args.resolution.now in
    let whole = walk_fields build c.args.fields.now c.args.place.now c.args.indices.now in
    let are = c.loop-field.invariant.0 in
    let left = c.loop-field.invariant.1 in
    let f = c.in-Some.field.now in
    let behind = c.in-Some.behind in
    let is = c.in-Some.ensures.cases.0 in
    let rest_frame : Frame = record { fields = behind; depth = frame.depth } in
    let pushed : reverse c.push.new.self.items ≡ rest_frame ∷ outer = stack-pushed c.push.new.self.items c.loop-field.frames.items rest_frame c.in_ok-push.ensures.items in
    let fs = c.in-Some-inside.inside in
    let next = c.walk_field.new.place in
    let inner : Frame = record { fields = fs; depth = length next } in
    let reached : IsReached build tables f.shape (work_of_field build f) fs.now = subst (λ (o : Option (Bor (List Field))). IfSome (option_copied o) (IsReached build tables f.shape (work_of_field build f))) c.in-Some-inside.is c.in_ok-further.ensures.inside in
    let stack : record { fields = fs; depth = c.depth-in-loop-field.result } ∷ reverse c.push.new.self.items ≡ inner ∷ rest_frame ∷ outer =
    ap (λ (d : ℕ). record { fields = fs; depth = d } ∷ reverse c.push.new.self.items) c.depth-in-loop-field.ensures
    ∙ ap (λ (frames : List Frame). inner ∷ frames) pushed in
    let s = c.walk_field.new.resolution in
    let further = c.in_ok-further.further in
    let inside = subst (λ (p : Path). IsInside p next) c.cut.ensures c.in_ok-further.ensures.place in
    let leads = subst (λ (p : Path). effect r (walk_field build f p ns) ≡ effect s (walk_inside build (option_copied further.inside) next further.indices.now)) c.cut.ensures c.in_ok-further.ensures.leads in
    let are_now = some-are build c.requires.ready.checked tables place frame outer ns r r0 whole c.requires.walked are left f behind is s next inside further.inside further.indices.now leads fs c.in-Some-inside.is reached in
    let left_now = some-left build c.requires.ready.checked tables place frame outer ns r r0 whole c.requires.walked are left f behind is s next inside further.inside further.indices.now leads fs c.in-Some-inside.is in (
      subst (AreFrames build tables (length next)) (sym stack) are_now,
      ap (λ (frames : List Frame). effect s (walk_frames build next frames further.indices.now)) stack ∙ left_now,
    )
