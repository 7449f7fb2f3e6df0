use Rattle.std.proofs.Common.{◌≡◌, List, [], ap, arith, get_or, inr, length, slice_get, sym, ◌∙◌, subst, IsSome}
use Rattle.facet_solver_shape.specs.declared.shape.Variant.{Variant}
use Rattle.facet_solver.specs.build.Build.{build_of}
use Rattle.facet_solver.specs.build.CatchAlls.{emitted_by}
use Rattle.facet_solver.specs.build.Outcome.{effect}
use Rattle.facet_solver.specs.build.Place.{Path}
use Rattle.facet_solver_shape.specs.Roles.{alternatives, block, may_be_absent, role_of, role_view}
use Rattle.facet_solver.specs.build.Walk.{Walked, walk_fields}
use Rattle.facet_solver.specs.build.Work.{work_of_field}
use Rattle.facet_solver.proofs.CatchAlls.{fields_walked, struct-alone}
use Rattle.facet_solver.proofs.Listing.{block-below}
use Rattle.facet_solver.proofs.Outcome.{take_all-nil}
use Rattle.facet_solver.proofs.Roles.{FieldsBelow-mono, plain_role, target_in_hand, target_in_role-le}
use Rattle.facet_solver.proofs.Serving.{enum_served, role_of-target}
use Rattle.facet_solver.proofs.Walk.{at-alternatives, at-block, at-plain, by_presence, choose-is, emit-done, has_choice, has_presence, stops-emit, when-absent, when-present}
use Rattle.facet_solver.proofs.WalkFrames.{block-reached, inside-append, inside-same, leads-exit, leads-nothing, leads_below-exit, leads_below-mono, ok-exit}
use Rattle.facet_solver.proofs.Work.{work_of_variant-le}
use Rattle.facet_solver.proofs.build.walk.walk_field.Goals as goal

pub presence-is_present-requires : goal.presence-is_present-requires
presence-is_present-requires c =
    let build = build_of c.args.walker.now.build in
    let absent = c.may_be_absent.ensures ∙ ap may_be_absent c.role_of-role.ensures in
    has_presence c.may_be_absent.result _ c.args.indices.now
    (subst (λ (w : Walked). IsSome w) (by_presence build c.args.field.now c.args.place.now c.args.indices.now c.may_be_absent.result absent) c.requires.walked)

pub returns-then-not-is_present-clause-leads : goal.returns-then-not-is_present-clause-leads
returns-then-not-is_present-clause-leads c =
    let build = build_of c.args.walker.now.build in
    let f = c.args.field.now in
    let place = c.args.place.now in
    let r = c.args.resolution.now in
    let ns = c.presence-is_present.result.1.now in
    let here = when-absent build f place c.args.indices.now c.may_be_absent.result (c.may_be_absent.ensures ∙ ap may_be_absent c.role_of-role.ensures)
    c.presence-is_present.result.0 ns c.presence-is_present.ensures c.if-not-is_present.true in
    leads-nothing r _ ns (emit-done r r _ [] ns here (take_all-nil r))

pub set_catch_alls-requires-clause-below : goal.set_catch_alls-requires-clause-below
set_catch_alls-requires-clause-below c =
    let build = build_of c.args.walker.now.build in
    let f = c.args.field.now in
    let fs = c.in-Block.fields.now in
    let is : block c.in-Block.target fs ≡ role_of build.catalogue f = sym (ap role_view c.in-Block.is) ∙ c.role_of-role.ensures in
    FieldsBelow-mono f.shape (length build.catalogue) fs (omega (arith, c.requires.below)) (block-below build.catalogue c.requires.ready.checked f c.in-Block.target fs is)

pub set_catch_alls-requires-clause-alone : goal.set_catch_alls-requires-clause-alone
set_catch_alls-requires-clause-alone c =
    let build = build_of c.args.walker.now.build in
    let f = c.args.field.now in
    let fs = c.in-Block.fields.now in
    let is : block c.in-Block.target fs ≡ role_of build.catalogue f = sym (ap role_view c.in-Block.is) ∙ c.role_of-role.ensures in
    struct-alone build c.requires.ready.checked c.args.walker.now.contribution.by_index.items c.requires.ready.contribution f c.in-Block.target fs c.in-CatchAlls.field-0 is (sym c.of.ensures ∙ c.in-CatchAlls.is)

pub returns-in-CatchAlls-clause-leads : goal.returns-in-CatchAlls-clause-leads
returns-in-CatchAlls-clause-leads c =
    let build = build_of c.args.walker.now.build in
    let f = c.args.field.now in
    let place = c.args.place.now in
    let r = c.args.resolution.now in
    let ns = c.presence-is_present.result.1.now in
    let fs = c.in-Block.fields.now in
    let is : block c.in-Block.target fs ≡ role_of build.catalogue f = sym (ap role_view c.in-Block.is) ∙ c.role_of-role.ensures in
    let here = when-present build f place c.args.indices.now c.may_be_absent.result (c.may_be_absent.ensures ∙ ap may_be_absent c.role_of-role.ensures)
    c.presence-is_present.result.0 ns c.presence-is_present.ensures c.if-not-is_present.false in
    let inside = c.enter_field.new.self in
    let table = c.args.walker.now.contribution.by_index.items in
    let below = FieldsBelow-mono f.shape (length build.catalogue) fs (omega (arith, c.requires.below)) (block-below build.catalogue c.requires.ready.checked f c.in-Block.target fs is) in
    let alone = struct-alone build c.requires.ready.checked table c.requires.ready.contribution f c.in-Block.target fs c.in-CatchAlls.field-0 is (sym c.of.ensures ∙ c.in-CatchAlls.is) in
    let e = here ∙ at-block build f place ns c.in-Block.target fs is
    ∙ ap (λ (p : Path). walk_fields build fs p ns) (sym c.in_ok-enter_field-in-Block.ensures)
    ∙ fields_walked build c.requires.ready.checked table c.requires.ready.contribution (length build.catalogue) fs inside ns below alone in
    leads-nothing c.set_catch_alls.new.resolution _ ns
    (emit-done r c.set_catch_alls.new.resolution _ (emitted_by build fs inside) ns e c.in_ok-set_catch_alls-in-Block.ensures.taken)

pub next_variant-requires : goal.next_variant-requires
next_variant-requires c =
    let build = build_of c.args.walker.now.build in
    let f = c.args.field.now in
    let place = c.args.place.now in
    let r = c.args.resolution.now in
    let ns = c.presence-is_present.result.1.now in
    let target = c.in-Alternatives.target in
    let s = c.in-Alternatives.shape.now in
    let vs = c.in-Alternatives.variants.now in
    let is : alternatives target s vs ≡ role_of build.catalogue f = sym (ap role_view c.in-Alternatives.is) ∙ c.role_of-role.ensures in
    let here = when-present build f place c.args.indices.now c.may_be_absent.result (c.may_be_absent.ensures ∙ ap may_be_absent c.role_of-role.ensures)
    c.presence-is_present.result.0 ns c.presence-is_present.ensures c.if-not-is_present.false in
    let e = here ∙ at-alternatives build f place ns target s vs is in
    has_choice vs ns _ (subst (λ (w : Walked). IsSome w) e c.requires.walked)

pub walk_variant-requires-clause-chosen : goal.walk_variant-requires-clause-chosen
walk_variant-requires-clause-chosen c =
    let build = build_of c.args.walker.now.build in
    let f = c.args.field.now in
    let place = c.args.place.now in
    let r = c.args.resolution.now in
    let ns = c.presence-is_present.result.1.now in
    let target = c.in-Alternatives.target in
    let s = c.in-Alternatives.shape.now in
    let vs = c.in-Alternatives.variants.now in
    let is : alternatives target s vs ≡ role_of build.catalogue f = sym (ap role_view c.in-Alternatives.is) ∙ c.role_of-role.ensures in
    let role = role_of-target build.catalogue f (alternatives target s vs) is in
    record { variants = role.1.0; shape = role.0; kind = role.1.1.0; variant = ap (λ (ws : List Variant). slice_get ws (get_or ns 0 0)) role.1.1.1 ∙ c.next_variant.ensures.variant }

pub walk_variant-requires-clause-serves : goal.walk_variant-requires-clause-serves
walk_variant-requires-clause-serves c =
    let build = build_of c.args.walker.now.build in
    let f = c.args.field.now in
    let place = c.args.place.now in
    let r = c.args.resolution.now in
    let ns = c.presence-is_present.result.1.now in
    let target = c.in-Alternatives.target in
    let s = c.in-Alternatives.shape.now in
    let vs = c.in-Alternatives.variants.now in
    let is : alternatives target s vs ≡ role_of build.catalogue f = sym (ap role_view c.in-Alternatives.is) ∙ c.role_of-role.ensures in
    enum_served build c.args.walker.now.tables f c.requires.serves target s vs is

pub walk_variant-requires-clause-walked : goal.walk_variant-requires-clause-walked
walk_variant-requires-clause-walked c =
    let build = build_of c.args.walker.now.build in
    let f = c.args.field.now in
    let place = c.args.place.now in
    let r = c.args.resolution.now in
    let ns = c.presence-is_present.result.1.now in
    let target = c.in-Alternatives.target in
    let s = c.in-Alternatives.shape.now in
    let vs = c.in-Alternatives.variants.now in
    let is : alternatives target s vs ≡ role_of build.catalogue f = sym (ap role_view c.in-Alternatives.is) ∙ c.role_of-role.ensures in
    let here = when-present build f place c.args.indices.now c.may_be_absent.result (c.may_be_absent.ensures ∙ ap may_be_absent c.role_of-role.ensures)
    c.presence-is_present.result.0 ns c.presence-is_present.ensures c.if-not-is_present.false in
    let v = c.next_variant.result.0.now in
    let e = here ∙ at-alternatives build f place ns target s vs is ∙ choose-is vs ns _ v c.next_variant.result.1.now c.next_variant.ensures.variant c.next_variant.ensures.rest in
    subst (λ (w : Walked). IsSome w) e c.requires.walked

pub returns-in-Alternatives-clause-leads : goal.returns-in-Alternatives-clause-leads
returns-in-Alternatives-clause-leads c =
    let build = build_of c.args.walker.now.build in
    let f = c.args.field.now in
    let place = c.args.place.now in
    let r = c.args.resolution.now in
    let ns = c.presence-is_present.result.1.now in
    let target = c.in-Alternatives.target in
    let s = c.in-Alternatives.shape.now in
    let vs = c.in-Alternatives.variants.now in
    let is : alternatives target s vs ≡ role_of build.catalogue f = sym (ap role_view c.in-Alternatives.is) ∙ c.role_of-role.ensures in
    let here = when-present build f place c.args.indices.now c.may_be_absent.result (c.may_be_absent.ensures ∙ ap may_be_absent c.role_of-role.ensures)
    c.presence-is_present.result.0 ns c.presence-is_present.ensures c.if-not-is_present.false in
    let v = c.next_variant.result.0.now in
    let e = here ∙ at-alternatives build f place ns target s vs is ∙ choose-is vs ns _ v c.next_variant.result.1.now c.next_variant.ensures.variant c.next_variant.ensures.rest in
    rw e c.walk_variant.ensures.leads

pub returns-in-Alternatives-clause-inside : goal.returns-in-Alternatives-clause-inside
returns-in-Alternatives-clause-inside c =
    let build = build_of c.args.walker.now.build in
    let f = c.args.field.now in
    let place = c.args.place.now in
    let r = c.args.resolution.now in
    let ns = c.presence-is_present.result.1.now in
    let target = c.in-Alternatives.target in
    let s = c.in-Alternatives.shape.now in
    let vs = c.in-Alternatives.variants.now in
    let is : alternatives target s vs ≡ role_of build.catalogue f = sym (ap role_view c.in-Alternatives.is) ∙ c.role_of-role.ensures in
    let hand = target_in_hand build.catalogue f c.role_of-role.result target c.role_of-role.ensures (inr (c.in-Alternatives.shape, c.in-Alternatives.variants, c.in-Alternatives.is)) in
    leads_below-mono build c.args.walker.now.tables target.shape f.shape _ (work_of_field build f) c.walk_variant.result
    (target_in_role-le build.catalogue c.requires.ready.checked f target hand)
    (work_of_variant-le build f target s vs _ c.next_variant.result.0.now is c.next_variant.ensures.variant)
    c.walk_variant.ensures.inside

pub returns-in_default-clause-leads : goal.returns-in_default-clause-leads
returns-in_default-clause-leads c =
    let build = build_of c.args.walker.now.build in
    let f = c.args.field.now in
    let place = c.args.place.now in
    let r = c.args.resolution.now in
    let ns = c.presence-is_present.result.1.now in
    let fs = c.in-Block.fields.now in
    let is : block c.in-Block.target fs ≡ role_of build.catalogue f = sym (ap role_view c.in-Block.is) ∙ c.role_of-role.ensures in
    let here = when-present build f place c.args.indices.now c.may_be_absent.result (c.may_be_absent.ensures ∙ ap may_be_absent c.role_of-role.ensures)
    c.presence-is_present.result.0 ns c.presence-is_present.ensures c.if-not-is_present.false in
    ap (effect r) (here ∙ at-block build f place ns c.in-Block.target fs is ∙ ap (λ (p : Path). walk_fields build fs p ns) (sym c.in_ok-enter_field-in-Block.ensures))

pub returns-in_default-clause-place : goal.returns-in_default-clause-place
returns-in_default-clause-place c =
    inside-append c.args.place.now _ c.enter_field.new.self c.in_ok-enter_field-in-Block.ensures

pub returns-in_default-clause-inside : goal.returns-in_default-clause-inside
returns-in_default-clause-inside c =
    let build = build_of c.args.walker.now.build in
    let f = c.args.field.now in
    let fs = c.in-Block.fields.now in
    let is : block c.in-Block.target fs ≡ role_of build.catalogue f = sym (ap role_view c.in-Block.is) ∙ c.role_of-role.ensures in
    block-reached build c.requires.ready.checked c.args.walker.now.tables f c.in-Block.target fs is c.requires.serves

pub returns-in_err-emit_plain-in-Regular-clause-leads : goal.returns-in_err-emit_plain-in-Regular-clause-leads
returns-in_err-emit_plain-in-Regular-clause-leads c =
    let build = build_of c.args.walker.now.build in
    let f = c.args.field.now in
    let place = c.args.place.now in
    let r = c.args.resolution.now in
    let ns = c.presence-is_present.result.1.now in
    let here = when-present build f place c.args.indices.now c.may_be_absent.result (c.may_be_absent.ensures ∙ ap may_be_absent c.role_of-role.ensures)
    c.presence-is_present.result.0 ns c.presence-is_present.ensures c.if-not-is_present.false in
    let e = here ∙ at-plain build f place ns (role_view c.role_of-role.result) c.role_of-role.ensures (plain_role c.role_of-role.result c.in-Regular.is) in
    rw e
    (leads-exit build c.from_residual-in_err-emit_plain-in-Regular.result place c.emit_plain.new.resolution _ _ c.from_residual-in_err-emit_plain-in-Regular.ensures.1
    (stops-emit r _ ns _ c.in_err-emit_plain-in-Regular.ensures))

pub returns-in_err-emit_plain-in-Regular-clause-place : goal.returns-in_err-emit_plain-in-Regular-clause-place
returns-in_err-emit_plain-in-Regular-clause-place c =
    ok-exit c.from_residual-in_err-emit_plain-in-Regular.result _ _ c.from_residual-in_err-emit_plain-in-Regular.ensures.1

pub returns-in_err-emit_plain-in-Regular-clause-inside : goal.returns-in_err-emit_plain-in-Regular-clause-inside
returns-in_err-emit_plain-in-Regular-clause-inside c =
    leads_below-exit (build_of c.args.walker.now.build) c.args.walker.now.tables c.args.field.now.shape _ c.from_residual-in_err-emit_plain-in-Regular.result _ c.from_residual-in_err-emit_plain-in-Regular.ensures.1

pub returns-in_ok-emit_plain-in-Regular-clause-leads : goal.returns-in_ok-emit_plain-in-Regular-clause-leads
returns-in_ok-emit_plain-in-Regular-clause-leads c =
    let build = build_of c.args.walker.now.build in
    let f = c.args.field.now in
    let place = c.args.place.now in
    let r = c.args.resolution.now in
    let ns = c.presence-is_present.result.1.now in
    let here = when-present build f place c.args.indices.now c.may_be_absent.result (c.may_be_absent.ensures ∙ ap may_be_absent c.role_of-role.ensures)
    c.presence-is_present.result.0 ns c.presence-is_present.ensures c.if-not-is_present.false in
    let e = here ∙ at-plain build f place ns (role_view c.role_of-role.result) c.role_of-role.ensures (plain_role c.role_of-role.result c.in-Regular.is) in
    leads-nothing c.emit_plain.new.resolution _ ns
    (emit-done r c.emit_plain.new.resolution _ _ ns e c.in_ok-emit_plain-in-Regular.ensures)

pub returns-in_ok-emit_plain-in-Regular-clause-place : goal.returns-in_ok-emit_plain-in-Regular-clause-place
returns-in_ok-emit_plain-in-Regular-clause-place c =
    inside-same c.args.place.now

pub returns-in_ok-emit_plain-in-Regular-clause-inside : goal.returns-in_ok-emit_plain-in-Regular-clause-inside
returns-in_ok-emit_plain-in-Regular-clause-inside c =
    tt
