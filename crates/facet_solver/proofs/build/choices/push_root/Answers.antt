use Rattle.std.proofs.Common.{◌≡◌, ◌∷◌, ◌++◌, ◌∙◌, [], List, ap, length, subst, sym, true}
use Rattle.std.proofs.lemmas.Result.{on_ok_weaker}
use Rattle.facet_solver_shape.specs.Catalogues.{FieldsBelow}
use Rattle.facet_solver.specs.build.Build.{build_of}
use Rattle.facet_solver.specs.build.ChoiceParts.{IsRank, StandFor, choice_at}
use Rattle.facet_solver.specs.build.Count.{count_fields, count_kind}
use Rattle.facet_solver.specs.build.Listing.{Choices, choices_of_fields, choices_of_root, choices_of_variants}
use Rattle.facet_solver.specs.declared.build.choices.Part.{Part}
use Rattle.facet_solver.specs.declared.build.choices.Part.TheVariants.{Fields}
use Rattle.facet_solver.proofs.Count.{root-count}
use Rattle.facet_solver.proofs.Roles.{enum-below, struct-below}
use Rattle.facet_solver.proofs.Listing.{root-enum, root-other, root-struct}
use Rattle.facet_solver.proofs.ChoiceParts.{root_alone, stand-none, stand-one, stand_all}
use Rattle.facet_solver.proofs.Starts.{enum_starts}
use Rattle.facet_solver.proofs.build.choices.push_root.Goals as goal

pub push_variant-requires-clause-below : goal.push_variant-requires-clause-below
push_variant-requires-clause-below c =
    rw c.deref-in-Enum.ensures.value (enum-below c.args.walker.now.build.shapes.now c.shape-shape.ensures.checked c.args.root c.shape-shape.result.now c.shape-shape.ensures.found c.in-Enum.variants c.in-Enum.is)

pub push_variant-requires-clause-rank : goal.push_variant-requires-clause-rank
push_variant-requires-clause-rank c =
    let build = build_of c.args.walker.now.build in
    let count = root-count build c.args.root c.shape-shape.result.now c.shape-shape.ensures.found ∙ ap (count_kind build true) c.in-Enum.is in
    rw c.deref-in-Enum.ensures.value (subst (IsRank c.args.rank) count c.requires.rank)

pub push_variant-requires-clause-starts : goal.push_variant-requires-clause-starts
push_variant-requires-clause-starts c = λ walked.
    rw (c.deref-in-Enum.ensures.value, c.of-starts.ensures)
    (enum_starts (build_of c.args.walker.now.build) c.args.walker.now.starts.by_index.items c.args.root c.shape-shape.result.now c.in-Enum.variants c.requires.starts c.shape-shape.ensures.found c.in-Enum.is)

pub returns-in_ok-push-in-Struct : goal.returns-in_ok-push-in-Struct
returns-in_ok-push-in-Struct c =
    let build = build_of c.args.walker.now.build in
    let root = c.args.root in
    let s = c.shape-shape.result.now in
    let here = c.shape-shape.ensures.found in
    let same : c.deref.result.now ≡ c.in-Struct.fields.items = c.deref.ensures.value in
    let count = root-count build root s here ∙ ap (count_kind build true) c.in-Struct.is ∙ ap (count_fields build) (sym same) in
    let below = struct-below build.catalogue c.shape-shape.ensures.checked root s here c.in-Struct.kind c.in-Struct.fields c.in-Struct.is in
    let choices = ap (choices_of_fields build) same ∙ root-struct build root s here c.in-Struct.kind c.in-Struct.fields c.in-Struct.is in
    let all = c.in_ok-push-in-Struct.ensures.items ∙ ap (λ (ps : List Part). ps ++ Fields c.deref.result c.args.rank ∷ []) c.requires.nothing in
    subst (λ (ps : List Part). StandFor build ps (choice_at (choices_of_root build root) c.args.rank)) (sym all)
    (stand-one build (Fields c.deref.result c.args.rank) _ (subst (FieldsBelow (length build.catalogue)) (sym same) below, subst (IsRank c.args.rank) count c.requires.rank) (ap (λ (cs : Choices). choice_at cs c.args.rank) choices))

pub returns-in-Enum : goal.returns-in-Enum
returns-in-Enum c =
    let build = build_of c.args.walker.now.build in
    let root = c.args.root in
    let choices = ap (choices_of_variants build true) c.deref-in-Enum.ensures.value ∙ root-enum build root c.shape-shape.result.now c.shape-shape.ensures.found c.in-Enum.variants c.in-Enum.is in
    on_ok_weaker c.push_variant.result
    (λ h.
    subst (λ (cs : Choices). StandFor build c.push_variant.new.parts.items (choice_at cs c.args.rank)) choices
    (stand_all build _ _ _ _ c.requires.nothing h))
    c.push_variant.ensures

pub returns-in_default : goal.returns-in_default
returns-in_default c =
    let build = build_of c.args.walker.now.build in
    let root = c.args.root in
    let alone = root-other build root c.shape-shape.result.now c.shape-shape.ensures.found c.in_default.not-Struct c.in_default.not-Enum in
    subst (λ (ps : List Part). StandFor build ps (choice_at (choices_of_root build root) c.args.rank)) (sym c.requires.nothing)
    (stand-none build _ (root_alone build root c.args.rank c.requires.rank alone))
