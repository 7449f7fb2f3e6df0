use Rattle.std.proofs.Common.{◌≡◌, ◌+◌, ◌∙◌, Bool, Bor, List, ap, arith, length, refl, subst, sym}
use Rattle.std.proofs.lemmas.Result.{on_ok_weaker}
use Rattle.facet_solver_shape.specs.declared.shape.Shape.{Shape}
use Rattle.facet_solver_shape.specs.declared.shape.Field.{Field}
use Rattle.facet_solver_shape.specs.declared.shape.Variant.{Variant}
use Rattle.facet_solver_shape.specs.declared.role.Role as code
use Rattle.facet_solver_shape.specs.declared.role.Role.TheVariants.{Alternatives}
use Rattle.facet_solver_shape.specs.declared.role.Target.{Target}
use Rattle.facet_solver.specs.build.Build.{Catalogue, build_of}
use Rattle.facet_solver.specs.build.ChoiceParts.{IsRank}
use Rattle.facet_solver.specs.build.Count.{count_variants}
use Rattle.facet_solver.specs.build.Starts.{AreStarts}
use Rattle.facet_solver_shape.specs.Roles.{alternatives, block, may_be_absent, role_of, role_view}
use Rattle.facet_solver.specs.build.Work.{work_of_fields, work_of_variants}
use Rattle.facet_solver.specs.declared.build.choices.Part.TheVariants.{Fields}
use Rattle.facet_solver.proofs.Listing.{alternatives-below, block-below}
use Rattle.facet_solver.proofs.Roles.{FieldsBelow-mono, VariantsBelow-mono, plain_role}
use Rattle.facet_solver.proofs.ChoiceParts.{adds-absent, adds-none, adds-one, adds-present, plain_choice, plain_work, present_is_ranked, variants_choice}
use Rattle.facet_solver.proofs.Starts.{field_starts}
use Rattle.facet_solver.proofs.build.choices.push_field.Goals as goal

pub returns-in_default : goal.returns-in_default
returns-in_default c =
    let build = build_of c.args.walker.now.build in
    adds-absent build c.args.field.now (role_view c.role_of-role.result) c.role_of-role.ensures c.may_be_absent.result c.may_be_absent.ensures c.args.rank c.requires.rank
    c.args.parts.now.items c.push_presence.new.parts.items (sym c.in_default.is ∙ c.in_ok-rank.ensures.0) c.in_ok-rank.ensures.1

-- a role with variants that is in hand is that of the field
in_hand : (cat : Catalogue) (f : Field) (r : code.Role) (t : Target) (s : Bor Shape) (vs : Bor (List Variant)) → r ≡ Alternatives t s vs → role_view r ≡ role_of cat f → alternatives t s.now vs.now ≡ role_of cat f
in_hand cat f r t s vs is e = sym (ap role_view is) ∙ e

-- and says whether the field may be absent
in_hand_absent : (b : Bool) (r : code.Role) (t : Target) (s : Bor Shape) (vs : Bor (List Variant)) → r ≡ Alternatives t s vs → b ≡ may_be_absent (role_view r) → b ≡ may_be_absent (alternatives t s.now vs.now)
in_hand_absent b r t s vs is e = e ∙ ap (λ (r : code.Role). may_be_absent (role_view r)) is

pub push_variant-requires-clause-below : goal.push_variant-requires-clause-below
push_variant-requires-clause-below c =
    let cat = c.args.walker.now.build.shapes.now in
    let f = c.args.field.now in
    let vs = c.in-Alternatives.variants in
    let is = in_hand cat f _ c.in-Alternatives.target c.in-Alternatives.shape vs c.in-Alternatives.is c.role_of-role.ensures in
    VariantsBelow-mono f.shape (length cat) vs.now (omega (arith, c.requires.below))
    (alternatives-below cat c.requires.ready.checked f c.in-Alternatives.target c.in-Alternatives.shape.now vs.now is)

pub push_variant-requires-clause-rank : goal.push_variant-requires-clause-rank
push_variant-requires-clause-rank c =
    let build = build_of c.args.walker.now.build in
    let f = c.args.field.now in
    let t = c.in-Alternatives.target in
    let s = c.in-Alternatives.shape in
    let vs = c.in-Alternatives.variants in
    let is = in_hand build.catalogue f _ t s vs c.in-Alternatives.is c.role_of-role.ensures in
    let absent = in_hand_absent _ _ t s vs c.in-Alternatives.is c.may_be_absent.ensures in
    let present = sym c.in-Some.is ∙ c.in_ok-rank.ensures.0 in
    subst (λ (walked : Bool). IsRank c.in-Some.rank (count_variants build walked vs.now)) (sym c.walks_content-walked.ensures)
    (present_is_ranked build f (alternatives t s.now vs.now) is c.may_be_absent.result absent c.args.rank c.requires.rank c.in-Some.rank present)

pub push_variant-requires-clause-starts : goal.push_variant-requires-clause-starts
push_variant-requires-clause-starts c = λ walked.
    let build = build_of c.args.walker.now.build in
    let f = c.args.field.now in
    let t = c.in-Alternatives.target in
    let s = c.in-Alternatives.shape in
    let vs = c.in-Alternatives.variants in
    let is = in_hand build.catalogue f _ t s vs c.in-Alternatives.is c.role_of-role.ensures in
    subst (AreStarts build vs.now) (sym c.of-starts.ensures)
    (field_starts build c.args.walker.now.starts.by_index.items f t s.now vs.now c.requires.ready.starts is (sym c.walks_content-walked.ensures ∙ walked))

pub returns-in_ok-push-in-Block : goal.returns-in_ok-push-in-Block
returns-in_ok-push-in-Block c =
    let build = build_of c.args.walker.now.build in
    let cat = build.catalogue in
    let f = c.args.field.now in
    let fs = c.in-Block.fields.now in
    let role = block c.in-Block.field-0 fs in
    let is : role ≡ role_of cat f = sym (ap role_view c.in-Block.is) ∙ c.role_of-role.ensures in
    let optional : c.may_be_absent.result ≡ may_be_absent role = c.may_be_absent.ensures ∙ ap (λ r. may_be_absent (role_view r)) c.in-Block.is in
    let present = sym c.in-Some.is ∙ c.in_ok-rank.ensures.0 in
    let ranked = present_is_ranked build f role is c.may_be_absent.result optional c.args.rank c.requires.rank c.in-Some.rank present in
    let below = FieldsBelow-mono f.shape (length cat) fs (omega (arith, c.requires.below)) (block-below cat c.requires.ready.checked f c.in-Block.field-0 fs is) in
    adds-present build f role is c.may_be_absent.result optional c.args.rank c.requires.rank
    c.args.parts.now.items c.push_presence.new.parts.items c.push.new.self.items c.in-Some.rank (1 + work_of_fields build fs) present c.in_ok-rank.ensures.1 (omega arith)
    (adds-one build _ _ (Fields c.in-Block.fields c.in-Some.rank) _ _ c.in_ok-push-in-Block.ensures.items (below, ranked) refl (omega arith))

pub returns-in-Alternatives : goal.returns-in-Alternatives
returns-in-Alternatives c =
    let build = build_of c.args.walker.now.build in
    let f = c.args.field.now in
    let t = c.in-Alternatives.target in
    let s = c.in-Alternatives.shape in
    let vs = c.in-Alternatives.variants in
    let is = in_hand build.catalogue f _ t s vs c.in-Alternatives.is c.role_of-role.ensures in
    let absent = in_hand_absent _ _ t s vs c.in-Alternatives.is c.may_be_absent.ensures in
    let present = sym c.in-Some.is ∙ c.in_ok-rank.ensures.0 in
    on_ok_weaker c.push_variant.result
    (λ h.
    adds-present build f (alternatives t s.now vs.now) is c.may_be_absent.result absent c.args.rank c.requires.rank
    c.args.parts.now.items c.push_presence.new.parts.items c.push_variant.new.parts.items c.in-Some.rank (work_of_variants build vs.now) present c.in_ok-rank.ensures.1 (omega arith)
    (variants_choice build t s.now vs.now c.walks_content-walked.result c.walks_content-walked.ensures _ _ c.in-Some.rank _ h))
    c.push_variant.ensures

pub returns-in-Regular : goal.returns-in-Regular
returns-in-Regular c =
    let build = build_of c.args.walker.now.build in
    let f = c.args.field.now in
    let role = role_view c.role_of-role.result in
    let plain = plain_role c.role_of-role.result c.in-Regular.is in
    let present = sym c.in-Some.is ∙ c.in_ok-rank.ensures.0 in
    let ranked = present_is_ranked build f role c.role_of-role.ensures c.may_be_absent.result c.may_be_absent.ensures c.args.rank c.requires.rank c.in-Some.rank present in
    adds-present build f role c.role_of-role.ensures c.may_be_absent.result c.may_be_absent.ensures c.args.rank c.requires.rank
    c.args.parts.now.items c.push_presence.new.parts.items c.push_presence.new.parts.items c.in-Some.rank 0 present c.in_ok-rank.ensures.1 (plain_work build role plain)
    (adds-none build _ _ _ 0 refl (plain_choice build role c.in-Some.rank plain ranked))
