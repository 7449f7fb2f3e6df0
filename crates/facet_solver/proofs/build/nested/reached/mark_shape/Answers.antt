use Rattle.std.proofs.Common.{◌≡◌, ℕ, List, Some, arith, length, set, slice_get, subst, sym, true}
use Rattle.facet_solver_shape.specs.Catalogues.{FieldsBelow, KindBelow, VariantsBelow}
use Rattle.facet_solver_shape.specs.declared.shape.Field.{Field}
use Rattle.facet_solver_shape.specs.declared.shape.Variant.{Variant}
use Rattle.facet_solver.specs.build.Build.{build_of, repr_for}
use Rattle.facet_solver.specs.build.NestedTable.{IsMarked}
use Rattle.facet_solver.specs.build.Reached.{reach}
use Rattle.facet_solver_shape.specs.Representation.{is_walked}
use Rattle.facet_solver.proofs.Marks.{more-set, set_same}
use Rattle.facet_solver.proofs.Reached.{apart_marked, shape_marked}
use Rattle.facet_solver.proofs.Roles.{FieldsBelow-mono, VariantsBelow-mono}
use Rattle.facet_solver.proofs.build.nested.reached.mark_shape.Goals as goal

-- what fields name is below the index of their shape
fields_below : (index new : ℕ) (fs gs : List Field) → new ≡ index → gs ≡ fs → FieldsBelow new fs → FieldsBelow index gs
fields_below index new fs gs same is h = subst (λ (fs : List Field). FieldsBelow index fs) (sym is) (subst (λ (n : ℕ). FieldsBelow n fs) same h)

variants_below : (index new : ℕ) (vs ws : List Variant) → new ≡ index → ws ≡ vs → VariantsBelow new vs → VariantsBelow index ws
variants_below index new vs ws same is h = subst (λ (vs : List Variant). VariantsBelow index vs) (sym is) (subst (λ (n : ℕ). VariantsBelow n vs) same h)

pub mark_fields-requires-clause-below : goal.mark_fields-requires-clause-below
mark_fields-requires-clause-below c =
    FieldsBelow-mono c.args.index (length c.args.walked.now) c.deref.result.now (omega (arith, c.requires.within))
    (fields_below c.args.index c.new.result _ c.deref.result.now c.new.ensures c.deref.ensures.value (subst (KindBelow c.new.result) c.in-Struct.is c.in-Some.ensures.earlier.kind))

pub mark_variants-requires-clause-below : goal.mark_variants-requires-clause-below
mark_variants-requires-clause-below c =
    VariantsBelow-mono c.args.index (length c.args.walked.now) c.deref-then-walks_content.result.now (omega (arith, c.requires.within))
    (variants_below c.args.index c.new.result _ c.deref-then-walks_content.result.now c.new.ensures c.deref-then-walks_content.ensures.value (subst (KindBelow c.new.result) c.in-Enum.is c.in-Some.ensures.earlier.kind))

pub returns-in-Struct-clause-more : goal.returns-in-Struct-clause-more
returns-in-Struct-clause-more c =
    c.mark_fields.ensures.more c.args.index
    (fields_below c.args.index c.new.result _ c.deref.result.now c.new.ensures c.deref.ensures.value (subst (KindBelow c.new.result) c.in-Struct.is c.in-Some.ensures.earlier.kind))

pub returns-then-walks_content-clause-more : goal.returns-then-walks_content-clause-more
returns-then-walks_content-clause-more c =
    c.mark_variants.ensures.more c.args.index
    (variants_below c.args.index c.new.result _ c.deref-then-walks_content.result.now c.new.ensures c.deref-then-walks_content.ensures.value (subst (KindBelow c.new.result) c.in-Enum.is c.in-Some.ensures.earlier.kind))

pub returns-else-walks_content-clause-apart : goal.returns-else-walks_content-clause-apart
returns-else-walks_content-clause-apart c = more-set c.args.apart.now c.args.index (omega (arith, c.requires.within, c.requires.apart))

pub returns-else-walks_content-clause-reached : goal.returns-else-walks_content-clause-reached
returns-else-walks_content-clause-reached c =
    let build = build_of c.args.build in
    let m = reach c.args.walked.now c.args.structs.now in
    let apart = set c.args.apart.now c.args.index true in
    let s = c.in-Some.shape.now in
    shape_marked m (IsMarked apart c.args.index) build _ s (sym (subst (λ (i : ℕ). Some s ≡ slice_get build.catalogue i) c.new.ensures c.in-Some.ensures.entry))
    (apart_marked m build.catalogue (IsMarked apart c.args.index) s.kind c.in-Enum.variants (is_walked (repr_for build s)) c.in-Enum.is (sym c.if-walks_content.ensures)
    (set_same c.args.apart.now c.args.index (omega (arith, c.requires.within, c.requires.apart))))
