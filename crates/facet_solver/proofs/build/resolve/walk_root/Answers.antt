use Rattle.std.proofs.Common.{ap, ◌∙◌, sym, subst, List, length, Some, IsSome}
use Rattle.facet_solver_shape.specs.declared.shape.Field.{Field}
use Rattle.facet_solver_shape.specs.declared.shape.Variant.{Variant}
use Rattle.facet_solver.specs.build.Place.{Path, at_root}
use Rattle.facet_solver.specs.build.Walk.{Walked, walk_fields, choose, walk_root_variant}
use Rattle.facet_solver.specs.build.Outcome.{Outcome, effect}
use Rattle.facet_solver.specs.build.Build.{build_of}
use Rattle.facet_solver.proofs.Outcome.{take_all-nil}
use Rattle.facet_solver.proofs.Walk.{walks-same, has_choice, choose-is, VariantsBelow-get, root-fields, root-variants, root-nothing}
use Rattle.facet_solver.proofs.Roles.{struct-below, enum-below}
use Rattle.facet_solver.proofs.build.resolve.walk_root.Goals as goal

pub walk_fields-requires-clause-below : goal.walk_fields-requires-clause-below
walk_fields-requires-clause-below c =
    rw c.deref.ensures.value (struct-below c.args.walker.now.build.shapes.now c.shape-shape.ensures.checked c.args.root c.shape-shape.result.now c.shape-shape.ensures.found c.in-Struct.kind c.in-Struct.fields c.in-Struct.is)

pub walk_fields-requires-clause-walked : goal.walk_fields-requires-clause-walked
walk_fields-requires-clause-walked c =
    let e = root-fields (build_of c.args.walker.now.build) c.args.root c.args.indices.now c.shape-shape.result.now c.shape-shape.ensures.found c.in-Struct.kind c.in-Struct.fields c.in-Struct.is in
    rw (c.deref.ensures.value, c.cut.ensures) (subst (λ (w : Walked). IsSome w) e c.requires.walked)

pub returns-in-Struct : goal.returns-in-Struct
returns-in-Struct c =
    let e = root-fields (build_of c.args.walker.now.build) c.args.root c.args.indices.now c.shape-shape.result.now c.shape-shape.ensures.found c.in-Struct.kind c.in-Struct.fields c.in-Struct.is
    ∙ ap (λ (fs : List Field). walk_fields (build_of c.args.walker.now.build) fs at_root c.args.indices.now) (sym c.deref.ensures.value)
    ∙ ap (λ (place : Path). walk_fields (build_of c.args.walker.now.build) c.deref.result.now place c.args.indices.now) (sym c.cut.ensures) in
    walks-same c.walk_fields.result c.walk_fields.new.resolution _ _ (ap (effect c.args.resolution.now) e) c.walk_fields.ensures

pub next_variant-requires : goal.next_variant-requires
next_variant-requires c =
    let e = root-variants (build_of c.args.walker.now.build) c.args.root c.args.indices.now c.shape-shape.result.now c.shape-shape.ensures.found c.in-Enum.variants c.in-Enum.is in
    rw c.deref-in-Enum.ensures.value (has_choice c.in-Enum.variants.items c.args.indices.now _ (subst (λ (w : Walked). IsSome w) e c.requires.walked))

pub walk_root_variant-requires-clause-below : goal.walk_root_variant-requires-clause-below
walk_root_variant-requires-clause-below c =
    let b = enum-below c.args.walker.now.build.shapes.now c.shape-shape.ensures.checked c.args.root c.shape-shape.result.now c.shape-shape.ensures.found c.in-Enum.variants c.in-Enum.is in
    VariantsBelow-get (length c.args.walker.now.build.shapes.now) c.deref-in-Enum.result.now _ c.next_variant.result.0.now c.next_variant.ensures.variant (rw c.deref-in-Enum.ensures.value b)

pub walk_root_variant-requires-clause-walked : goal.walk_root_variant-requires-clause-walked
walk_root_variant-requires-clause-walked c =
    let build = build_of c.args.walker.now.build in
    let go = walk_root_variant build c.shape-shape.result.now in
    let e = root-variants (build_of c.args.walker.now.build) c.args.root c.args.indices.now c.shape-shape.result.now c.shape-shape.ensures.found c.in-Enum.variants c.in-Enum.is
    ∙ ap (λ (vs : List Variant). choose vs c.args.indices.now go) (sym c.deref-in-Enum.ensures.value)
    ∙ choose-is c.deref-in-Enum.result.now c.args.indices.now go c.next_variant.result.0.now c.next_variant.result.1.now c.next_variant.ensures.variant c.next_variant.ensures.rest in
    subst (λ (w : Walked). IsSome w) e c.requires.walked

pub returns-in-Enum : goal.returns-in-Enum
returns-in-Enum c =
    let build = build_of c.args.walker.now.build in
    let go = walk_root_variant build c.shape-shape.result.now in
    let e = root-variants (build_of c.args.walker.now.build) c.args.root c.args.indices.now c.shape-shape.result.now c.shape-shape.ensures.found c.in-Enum.variants c.in-Enum.is
    ∙ ap (λ (vs : List Variant). choose vs c.args.indices.now go) (sym c.deref-in-Enum.ensures.value)
    ∙ choose-is c.deref-in-Enum.result.now c.args.indices.now go c.next_variant.result.0.now c.next_variant.result.1.now c.next_variant.ensures.variant c.next_variant.ensures.rest in
    walks-same c.walk_root_variant.result c.walk_root_variant.new.resolution _ _ (ap (effect c.args.resolution.now) e) c.walk_root_variant.ensures

pub returns-in_default : goal.returns-in_default
returns-in_default c =
    let e = root-nothing (build_of c.args.walker.now.build) c.args.root c.args.indices.now c.shape-shape.result.now c.shape-shape.ensures.found
    c.in_default.not-Struct
    c.in_default.not-Enum in
    ap (effect c.args.resolution.now) e ∙ ap (λ (o : Outcome). Some (o, c.args.indices.now)) (take_all-nil c.args.resolution.now)
