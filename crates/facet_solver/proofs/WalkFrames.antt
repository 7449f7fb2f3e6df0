-- The loop of the walk: what lies on its stack has the effect of the whole walk.
use Rattle.std.proofs.Common.{◌≡◌, ℕ, suc, ◌+◌, ◌<◌, ◌≤◌, List, [], ◌∷◌, ◌++◌, Option, Some, None, sym, refl, ap, ◌∙◌, subst, length, take, reverse, append_assoc, append-nil, arith, true, IsSome, take-take, take_all, length-take}
use Rattle.std.specs.Prelude.{IfSome, IsErrAnd, OnOk, Result, Ok, Err}
use Rattle.std.proofs.Math.Seq.{take-append_seam}
use Rattle.std.proofs.lemmas.List.{reverse-append, take-append-le}
use Rattle.std.proofs.lemmas.Result.{err_from_is_err_and}
use Rattle.std.specs.Borrow.{Bor}
use Rattle.std.specs.Option.{option_copied, option_to_list}
use Rattle.facet_solver_shape.specs.Catalogues.{FieldsBelow, KindBelow, NamesEarlier}
use Rattle.facet_solver_shape.specs.Resolved.{Resolved}
use Rattle.facet_solver_shape.specs.declared.resolution.error.SchemaError.{SchemaError}
use Rattle.facet_solver_shape.specs.declared.shape.Field.{Field}
use Rattle.facet_solver.specs.declared.build.nested.tables.NestedTables.{NestedTables}
use Rattle.facet_solver.specs.declared.build.place.Chosen as code
use Rattle.facet_solver_shape.specs.declared.role.Target.{Target}
use Rattle.facet_solver.specs.declared.build.walk.Frame.{Frame}
use Rattle.facet_solver.specs.declared.build.walk.Further.{Further}
use Rattle.facet_solver.specs.build.Build.{Build, repr_for}
use Rattle.facet_solver.specs.build.Content.{content_of}
use Rattle.facet_solver.specs.build.Emissions.{Emission}
use Rattle.facet_solver.specs.build.Outcome.{Outcome, StopsBy, effect, resolved}
use Rattle.facet_solver.specs.build.Place.{Path}
use Rattle.facet_solver.specs.build.Reached.{IsChosen, ServesEnum, ServesField, ServesFields}
use Rattle.facet_solver_shape.specs.Representation.{is_walked}
use Rattle.facet_solver_shape.specs.Roles.{block, role_of}
use Rattle.facet_solver.specs.build.Walk.{Walked, and_then, put_before, walk_field, walk_fields, walk_fields_step}
use Rattle.facet_solver.specs.build.Work.{work_of_field, work_of_fields, work_of_role, work_of_variant}
use Rattle.facet_solver.specs.build.WalkFrames.{AreFrames, IsInside, IsReached, Leads, LeadsBelow, walk_frames, walk_inside}
use Rattle.facet_solver.proofs.Outcome.{effect-then, take_all-nil}
use Rattle.facet_solver.proofs.Listing.{block-below}
use Rattle.facet_solver.proofs.Roles.{FieldsBelow-mono, content_of-below}
use Rattle.facet_solver.proofs.Serving.{block_served, content_served, field_served, variant_served}
use Rattle.facet_solver.proofs.Walk.{VariantsBelow-get, effect-some, first-some, some-effect, stops-and_then}
use Rattle.facet_solver.proofs.WalkSteps.{walk-is_step}
use Rattle.facet_solver.proofs.Work.{work_of_fields-first}

-- ---- one part after another
put_before-nil : (w : Walked) → put_before [] w ≡ w
put_before-nil None = refl
put_before-nil (Some w) = refl

pub and_then-nothing : (ns : List ℕ) (go : List ℕ → Walked) → and_then (Some ([], ns)) go ≡ go ns
and_then-nothing ns go = put_before-nil (go ns)

put_before-append : (es fs : List Emission) (w : Walked) → put_before (es ++ fs) w ≡ put_before es (put_before fs w)
put_before-append es fs None = refl
put_before-append es fs (Some w) = ap (λ (gs : List Emission). Some (gs, w.1)) (append_assoc es fs w.0)

and_then-before : (es : List Emission) (w : Walked) (go : List ℕ → Walked) → and_then (put_before es w) go ≡ put_before es (and_then w go)
and_then-before es None go = refl
and_then-before es (Some w) go = put_before-append es w.0 (go w.1)

and_then-all : (w : Walked) → and_then w (λ rest. Some ([], rest)) ≡ w
and_then-all None = refl
and_then-all (Some w) = ap (λ (es : List Emission). Some (es, w.1)) (append-nil w.0)

and_then-assoc : (w : Walked) (go next : List ℕ → Walked) → and_then (and_then w go) next ≡ and_then w (λ rest. and_then (go rest) next)
and_then-assoc None go next = refl
and_then-assoc (Some w) go next = and_then-before w.0 (go w.1) next

-- fields, one and then the others
walk-cons : (build : Build) → NamesEarlier build.catalogue → (f : Field) (fs : List Field) (place : Path) (ns : List ℕ) → walk_fields build (f ∷ fs) place ns ≡ and_then (walk_field build f place ns) (λ rest. walk_fields build fs place rest)
unfolding walk_fields_step walk_field
walk-cons build checked f fs place ns =
    walk-is_step build checked (f ∷ fs) place ns
    ∙ ap (and_then (walk_field build f place ns)) (λ i rest. sym (walk-is_step build checked fs place rest) i)

walk-nil : (build : Build) → NamesEarlier build.catalogue → (place : Path) (ns : List ℕ) → walk_fields build [] place ns ≡ Some ([], ns)
unfolding walk_fields_step
walk-nil build checked place ns = walk-is_step build checked [] place ns

-- ---- a place on the way to another is no longer
length-inside : (outer place : Path) → IsInside outer place → length outer ≤ length place
length-inside outer place h =
    let cut : length (take (length outer) place) ≡ length outer = ap length h in
    let most = length-take (length outer) place in
    omega (arith, cut, most)

-- ---- frames stand on the way to a place, so what lies behind it doesn't matter
module _ (build : Build) (tables : NestedTables) where
  frames-cut : (place : Path) (depth limit : ℕ) (frames : List Frame) (ns : List ℕ) → limit ≤ depth → AreFrames build tables limit frames → walk_frames build (take depth place) frames ns ≡ walk_frames build place frames ns
  unfolding walk_frames
  frames-cut place depth limit [] ns le are = refl
  frames-cut place depth limit (frame ∷ frames) ns le are =
      ap (λ (p : Path). and_then (walk_fields build frame.fields.now p ns) (λ rest. walk_frames build (take depth place) frames rest)) (take-take frame.depth depth place (omega (arith, are.0)))
      ∙ ap (and_then (walk_fields build frame.fields.now (take frame.depth place) ns)) (λ i rest. frames-cut place depth frame.depth frames rest (omega (arith, are.0)) are.1.1.1 i)

  frames-same : (outer place : Path) (depth : ℕ) (frames : List Frame) (ns : List ℕ) → take depth place ≡ outer → AreFrames build tables depth frames → walk_frames build place frames ns ≡ walk_frames build outer frames ns
  frames-same outer place depth frames ns inside are =
      sym (frames-cut place depth depth frames ns (omega arith) are)
      ∙ ap (λ (p : Path). walk_frames build p frames ns) inside

  -- ---- frames that can be walked
  fields_behind : (f : Field) (fs : List Field) → ServesFields build tables (f ∷ fs) → ServesFields build tables fs
  fields_behind f fs h = record { marks = h.marks; follows = h.follows; reached = λ k d lt. h.reached (suc k) d (omega (arith, lt)) }

  -- the stack with only one list of fields
  pub frames-start : (fs : Bor (List Field)) (place : Path) → FieldsBelow (length build.catalogue) fs.now → ServesFields build tables fs.now → AreFrames build tables (length place) (record { fields = fs; depth = length place } ∷ [])
  frames-start fs place b served = (omega arith, (b, (served, tt)))

  pub walk-start : (fs : Bor (List Field)) (place : Path) (ns : List ℕ) → walk_frames build place (record { fields = fs; depth = length place } ∷ []) ns ≡ walk_fields build fs.now place ns
  unfolding walk_frames
  walk-start fs place ns =
      ap (λ (p : Path). and_then (walk_fields build fs.now p ns) (λ rest. Some ([], rest))) (take_all (length place) place (omega arith))
      ∙ and_then-all (walk_fields build fs.now place ns)

  pub walk-done : (r r0 : Resolved) (place : Path) (ns : List ℕ) (whole : Walked) → effect r (walk_frames build place [] ns) ≡ effect r0 whole → effect r0 whole ≡ Some (resolved r, ns)
  unfolding walk_frames
  walk-done r r0 place ns whole h = sym h ∙ ap (λ (o : Outcome). Some (o, ns)) (take_all-nil r)

-- ---- one turn of the loop: what is left has the effect of the whole
module _ (build : Build) (checked : NamesEarlier build.catalogue) (tables : NestedTables) (place : Path) (frame : Frame) (outer : List Frame) (ns : List ℕ) (r r0 : Resolved) (whole : Walked) (walked : IsSome whole)
    (are : AreFrames build tables (length place) (frame ∷ outer))
    (left : effect r (walk_frames build place (frame ∷ outer) ns) ≡ effect r0 whole) where
  abbrev here : Path
  here = take frame.depth place

  depth-here : length here ≡ frame.depth
  depth-here = let cut = length-take frame.depth place in omega (arith, cut, are.0)

  outer-here : (next : Path) → IsInside here next → AreFrames build tables frame.depth outer → (rest : List ℕ) → walk_frames build next outer rest ≡ walk_frames build here outer rest
  outer-here next inside outer_are rest =
      frames-same build tables here next frame.depth outer rest (subst (λ (n : ℕ). take n next ≡ here) depth-here inside) outer_are

  outer-place : (rest : List ℕ) → walk_frames build place outer rest ≡ walk_frames build here outer rest
  outer-place rest = frames-same build tables here place frame.depth outer rest refl are.1.1.1

  -- no field of the frame on top is left
  module _ (empty : frame.fields.now ≡ []) where
    pub over-left : effect r (walk_frames build here outer ns) ≡ effect r0 whole
    unfolding walk_frames
    over-left =
        ap (effect r) (
        sym (outer-place ns)
        ∙ sym (and_then-nothing ns (λ rest. walk_frames build place outer rest))
        ∙ ap (λ (w : Walked). and_then w (λ rest. walk_frames build place outer rest)) (sym (ap (λ (fs : List Field). walk_fields build fs here ns) empty ∙ walk-nil build checked here ns))
        )
        ∙ left

    pub over-are : AreFrames build tables (length here) outer
    over-are = subst (λ (n : ℕ). AreFrames build tables n outer) (sym depth-here) are.1.1.1

  -- its first field, and those behind
  module _ (f : Field) (behind : Bor (List Field)) (is : frame.fields.now ≡ f ∷ behind.now) where
    abbrev rest_frame : Frame
    rest_frame = record { fields = behind; depth = frame.depth }

    abbrev then_rest : List ℕ → Walked
    then_rest rest = and_then (walk_fields build behind.now here rest) (λ last. walk_frames build here outer last)

    parts : walk_frames build place (frame ∷ outer) ns ≡ and_then (walk_field build f here ns) then_rest
    unfolding walk_frames
    parts =
        ap (λ (fs : List Field). and_then (walk_fields build fs here ns) (λ rest. walk_frames build place outer rest)) is
        ∙ ap (λ (w : Walked). and_then w (λ rest. walk_frames build place outer rest)) (walk-cons build checked f behind.now here ns)
        ∙ and_then-assoc (walk_field build f here ns) (λ rest. walk_fields build behind.now here rest) (λ rest. walk_frames build place outer rest)
        ∙ ap (and_then (walk_field build f here ns)) (λ i rest. and_then (walk_fields build behind.now here rest) (λ last. outer-place last i))

    both-some : IsSome (and_then (walk_field build f here ns) then_rest)
    both-some = some-effect r _ (subst (λ (e : Option (Outcome × List ℕ)). IsSome e) (sym left ∙ ap (effect r) parts) (effect-some r0 whole walked))

    pub turn-walked : IsSome (walk_field build f here ns)
    turn-walked = first-some (walk_field build f here ns) then_rest both-some

    pub turn-stops : (err : SchemaError) → StopsBy (effect r (walk_field build f here ns)) err → StopsBy (effect r0 whole) err
    turn-stops err h =
        subst (λ (e : Option (Outcome × List ℕ)). StopsBy e err) (ap (effect r) (sym parts) ∙ left)
        (stops-and_then r (walk_field build f here ns) then_rest err both-some h)

    pub turn-below : f.shape < length build.catalogue
    turn-below = (subst (FieldsBelow (length build.catalogue)) is are.1.0).0

    pub turn-served : ServesField build tables f
    turn-served =
        field_served build tables (f ∷ behind.now) 0 f (omega arith) refl
        (subst (ServesFields build tables) is are.1.1.0)

    -- what the field left to walk, at the place that is then come to
    module _ (s : Resolved) (next : Path) (inside : IsInside here next) where
      rest-are : AreFrames build tables (length next) (rest_frame ∷ outer)
      rest-are = (
        (let le = length-inside here next inside in omega (arith, depth-here, le)),
        (
          (subst (FieldsBelow (length build.catalogue)) is are.1.0).1,
          (fields_behind build tables f behind.now (subst (ServesFields build tables) is are.1.1.0), are.1.1.1),
        ),
      )

      rest-left : (rest : List ℕ) → walk_frames build next (rest_frame ∷ outer) rest ≡ then_rest rest
      unfolding walk_frames
      rest-left rest =
          ap (λ (p : Path). and_then (walk_fields build behind.now p rest) (λ last. walk_frames build next outer last))
          (subst (λ (n : ℕ). take n next ≡ here) depth-here inside)
          ∙ ap (and_then (walk_fields build behind.now here rest)) (λ i last. outer-here next inside are.1.1.1 last i)

      left-of : (o : Option (List Field)) (rest : List ℕ) → effect r (walk_field build f here ns) ≡ effect s (walk_inside build o next rest)
          → effect s (and_then (walk_inside build o next rest) (λ last. walk_frames build next (rest_frame ∷ outer) last)) ≡ effect r0 whole
      left-of o rest leads =
          ap (λ (go : List ℕ → Walked). effect s (and_then (walk_inside build o next rest) go)) (λ i last. rest-left last i)
          ∙ sym (effect-then r s (walk_field build f here ns) (walk_inside build o next rest) then_rest leads)
          ∙ ap (effect r) (sym parts)
          ∙ left

      module _ (o : Option (Bor (List Field))) (rest : List ℕ) (leads : effect r (walk_field build f here ns) ≡ effect s (walk_inside build (option_copied o) next rest)) where
        -- nothing but the fields behind it
        pub none-left : o ≡ None → effect s (walk_frames build next (rest_frame ∷ outer) rest) ≡ effect r0 whole
        none-left e =
            ap (effect s) (sym (and_then-nothing rest (λ last. walk_frames build next (rest_frame ∷ outer) last)))
            ∙ left-of None rest (subst (λ (o : Option (Bor (List Field))). effect r (walk_field build f here ns) ≡ effect s (walk_inside build (option_copied o) next rest)) e leads)

        pub none-are : AreFrames build tables (length next) (rest_frame ∷ outer)
        none-are = rest-are

        -- fields inside it
        module _ (fs : Bor (List Field)) (e : o ≡ Some fs) where
          abbrev inner : Frame
          inner = record { fields = fs; depth = length next }

          pub some-left : effect s (walk_frames build next (inner ∷ rest_frame ∷ outer) rest) ≡ effect r0 whole
          unfolding walk_frames
          some-left =
              ap (λ (p : Path). effect s (and_then (walk_fields build fs.now p rest) (λ last. walk_frames build next (rest_frame ∷ outer) last))) (take_all (length next) next (omega arith))
              ∙ left-of (Some fs.now) rest (subst (λ (o : Option (Bor (List Field))). effect r (walk_field build f here ns) ≡ effect s (walk_inside build (option_copied o) next rest)) e leads)

          pub some-are : IsReached build tables f.shape (work_of_field build f) fs.now → AreFrames build tables (length next) (inner ∷ rest_frame ∷ outer)
          some-are reached = (
            omega arith,
            (
              FieldsBelow-mono f.shape (length build.catalogue) fs.now (omega (arith, turn-below)) reached.below,
              (reached.served, rest-are),
            ),
          )

-- ---- how much there is to do for frames, by which the loop ends
unfoldable pub work_of_frames : Build → List Frame → ℕ
work_of_frames build [] = 0
work_of_frames build (frame ∷ frames) =
    (work_of_fields build frame.fields.now + 1) + work_of_frames build frames

module _ (build : Build) (frame : Frame) (outer : List Frame) where
  pub work-over : work_of_frames build outer < work_of_frames build (frame ∷ outer)
  unfolding work_of_frames
  work-over = omega arith

  module _ (f : Field) (behind : Bor (List Field)) (is : frame.fields.now ≡ f ∷ behind.now) (checked : NamesEarlier build.catalogue) (below : FieldsBelow (length build.catalogue) frame.fields.now) where
    whole-work : work_of_fields build frame.fields.now ≡ 1 + work_of_field build f + work_of_fields build behind.now
    whole-work = ap (work_of_fields build) is ∙ work_of_fields-first build checked f behind.now (subst (FieldsBelow (length build.catalogue)) is below)

    pub work-none : work_of_frames build (record { fields = behind; depth = frame.depth } ∷ outer) < work_of_frames build (frame ∷ outer)
    unfolding work_of_frames
    work-none = omega (arith, whole-work)

    pub work-some : (tables : NestedTables) (inner : Frame) → IsReached build tables f.shape (work_of_field build f) inner.fields.now → work_of_frames build (inner ∷ record { fields = behind; depth = frame.depth } ∷ outer) < work_of_frames build (frame ∷ outer)
    unfolding work_of_frames
    work-some tables inner reached = omega (arith, whole-work, reached.less)

-- ---- what is left to walk may name more, and be more work
pub leads_below-mono : (build : Build) (tables : NestedTables) (m n v w : ℕ) (result : Result Further SchemaError) → m ≤ n → v ≤ w → LeadsBelow build tables m v result → LeadsBelow build tables n w result
leads_below-mono build tables m n v w (Err err) le more h = tt
leads_below-mono build tables m n v w (Ok further) le more h = go (option_copied further.inside) h
  where
    go : (o : Option (List Field)) → IfSome o (IsReached build tables m v) → IfSome o (IsReached build tables n w)
    go None h = tt
    go (Some fs) h = record { below = FieldsBelow-mono m n fs le h.below; served = h.served; less = omega (arith, more, h.less) }

-- a place lies in itself, and in each on the way to it
pub inside-same : (place : Path) → IsInside place place
inside-same place = take_all (length place) place (omega arith)

pub inside-append : (outer more place : Path) → place ≡ outer ++ more → IsInside outer place
inside-append outer more place e = ap (λ (p : Path). take (length outer) p) e ∙ take-append_seam outer more

pub inside-then : (outer middle more place : Path) → IsInside outer middle → place ≡ middle ++ more → IsInside outer place
inside-then outer middle more place inside e =
    ap (λ (p : Path). take (length outer) p) e
    ∙ take-append-le (length outer) middle more (length-inside outer middle inside)
    ∙ inside

-- ---- what a field leads to is less work
module _ (build : Build) (checked : NamesEarlier build.catalogue) (tables : NestedTables) where
  -- the fields of a flattened struct
  pub block-reached : (f : Field) (target : Target) (fs : List Field) → block target fs ≡ role_of build.catalogue f → ServesField build tables f → IsReached build tables f.shape (work_of_field build f) fs
  block-reached f target fs e serves = record {
    below = block-below build.catalogue checked f target fs e;
    served = block_served build tables f serves target fs e;
    less = let whole : 2 + work_of_fields build fs ≡ work_of_field build f = ap (work_of_role (work_of_fields build) build) e in omega (arith, whole);
  }

  -- the content of a chosen variant, where it is walked
  pub chosen-reached : (chosen : code.Chosen) → IsChosen build.catalogue chosen → ServesEnum build tables chosen.target.shape → is_walked (repr_for build chosen.shape.now) ≡ true
      → IsReached build tables chosen.target.shape (work_of_variant (work_of_fields build) build.catalogue chosen.variant.now) (content_of build.catalogue chosen.variant.now).fields
  chosen-reached chosen is serves walked =
      let id = chosen.target.shape in
      let v = chosen.variant.now in
      let earlier = subst (KindBelow id) is.kind (checked id chosen.shape.now is.shape).kind in
      record {
        below = content_of-below build.catalogue checked id v (VariantsBelow-get id is.variants.items chosen.index v is.variant earlier);
        served = content_served build tables v (variant_served build tables chosen is serves walked);
        less = omega arith;
      }

-- ---- the exits of one step
-- of a `?`
pub leads-exit : (build : Build) (result : Result Further SchemaError) (place : Path) (new : Resolved) (e : Option (Outcome × List ℕ)) (err : SchemaError) → IsErrAnd result (λ x. x ≡ err) → StopsBy e err → Leads build e result place new
leads-exit build result place new e err h k =
    let p = err_from_is_err_and result h in
    rw (p.1, p.2) k

-- nothing is left to walk
pub leads-nothing : (r : Resolved) (e : Option (Outcome × List ℕ)) (ns : List ℕ) → e ≡ Some (resolved r, ns) → e ≡ effect r (Some ([], ns))
leads-nothing r e ns h = h ∙ ap (λ (o : Outcome). Some (o, ns)) (sym (take_all-nil r))

pub ok-exit : {X E : Type 0} (result : Result X E) (err : E) (P : Type 0) → IsErrAnd result (λ x. x ≡ err) → OnOk result P
ok-exit (Ok x) err P h = absurd h
ok-exit (Err e) err P h = tt

pub leads_below-exit : (build : Build) (tables : NestedTables) (limit work : ℕ) (result : Result Further SchemaError) (err : SchemaError) → IsErrAnd result (λ x. x ≡ err) → LeadsBelow build tables limit work result
leads_below-exit build tables limit work (Ok further) err h = absurd h
leads_below-exit build tables limit work (Err e) err h = tt

-- ---- the stack as it lies: the top last
pub stack-pushed : (items old : List Frame) (frame : Frame) → items ≡ old ++ frame ∷ [] → reverse items ≡ frame ∷ reverse old
stack-pushed items old frame e = ap reverse e ∙ reverse-append old (frame ∷ [])

pub stack-popped : (items rest : List Frame) (o : Option Frame) (frame : Frame) → items ≡ rest ++ option_to_list o → o ≡ Some frame → reverse items ≡ frame ∷ reverse rest
stack-popped items rest o frame e is =
    stack-pushed items rest frame (e ∙ ap (λ (o : Option Frame). rest ++ option_to_list o) is)
