use Rattle.std.proofs.Common.{◌≡◌, ℕ, List, length, subst, sym}
use Rattle.facet_solver_shape.specs.Catalogues.{FieldsBelow, KindBelow, VariantsBelow}
use Rattle.facet_solver_shape.specs.declared.shape.Field.{Field}
use Rattle.facet_solver_shape.specs.declared.shape.Variant.{Variant}
use Rattle.facet_solver.proofs.Roles.{FieldsBelow-mono, VariantsBelow-mono}
use Rattle.facet_solver.proofs.build.nested.marks.mark_asked.Goals as goal

-- what fields name is below the index of their shape
fields_below : (index new : ℕ) (fs gs : List Field) → new ≡ index → gs ≡ fs → FieldsBelow new fs → FieldsBelow index gs
fields_below index new fs gs same is h = subst (λ (fs : List Field). FieldsBelow index fs) (sym is) (subst (λ (n : ℕ). FieldsBelow n fs) same h)

variants_below : (index new : ℕ) (vs ws : List Variant) → new ≡ index → ws ≡ vs → VariantsBelow new vs → VariantsBelow index ws
variants_below index new vs ws same is h = subst (λ (vs : List Variant). VariantsBelow index vs) (sym is) (subst (λ (n : ℕ). VariantsBelow n vs) same h)

pub mark_fields-requires : goal.mark_fields-requires
mark_fields-requires c =
    FieldsBelow-mono c.args.index (length c.args.marks.now) c.deref.result.now c.requires
    (fields_below c.args.index c.new.result _ c.deref.result.now c.new.ensures c.deref.ensures.value (subst (KindBelow c.new.result) c.in-Struct.is c.in-Some.ensures.earlier.kind))

pub mark_variants-requires : goal.mark_variants-requires
mark_variants-requires c =
    VariantsBelow-mono c.args.index (length c.args.marks.now) c.deref-in-Enum.result.now c.requires
    (variants_below c.args.index c.new.result _ c.deref-in-Enum.result.now c.new.ensures c.deref-in-Enum.ensures.value (subst (KindBelow c.new.result) c.in-Enum.is c.in-Some.ensures.earlier.kind))

pub returns-in-Struct-clause-more : goal.returns-in-Struct-clause-more
returns-in-Struct-clause-more c =
    c.mark_fields.ensures.more c.args.index
    (fields_below c.args.index c.new.result _ c.deref.result.now c.new.ensures c.deref.ensures.value (subst (KindBelow c.new.result) c.in-Struct.is c.in-Some.ensures.earlier.kind))

pub returns-in-Enum-clause-more : goal.returns-in-Enum-clause-more
returns-in-Enum-clause-more c =
    c.mark_variants.ensures.more c.args.index
    (variants_below c.args.index c.new.result _ c.deref-in-Enum.result.now c.new.ensures c.deref-in-Enum.ensures.value (subst (KindBelow c.new.result) c.in-Enum.is c.in-Some.ensures.earlier.kind))
