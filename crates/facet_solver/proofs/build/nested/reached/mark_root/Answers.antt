use Rattle.std.proofs.Common.{◌≡◌, ℕ, List, length, subst, sym}
use Rattle.facet_solver_shape.specs.Catalogues.{FieldsBelow, KindBelow, VariantsBelow}
use Rattle.facet_solver_shape.specs.declared.shape.Field.{Field}
use Rattle.facet_solver_shape.specs.declared.shape.Variant.{Variant}
use Rattle.facet_solver.proofs.build.nested.reached.mark_root.Goals as goal

fields_below : (m n : ℕ) (fs gs : List Field) → m ≡ n → gs ≡ fs → FieldsBelow n fs → FieldsBelow m gs
fields_below m n fs gs same is h = subst (λ (fs : List Field). FieldsBelow m fs) (sym is) (subst (λ (n : ℕ). FieldsBelow n fs) (sym same) h)

variants_below : (m n : ℕ) (vs ws : List Variant) → m ≡ n → ws ≡ vs → VariantsBelow n vs → VariantsBelow m ws
variants_below m n vs ws same is h = subst (λ (vs : List Variant). VariantsBelow m vs) (sym is) (subst (λ (n : ℕ). VariantsBelow n vs) (sym same) h)

pub mark_fields-requires-clause-below : goal.mark_fields-requires-clause-below
mark_fields-requires-clause-below c =
    fields_below _ _ _ _ c.requires.walked c.deref.ensures.value
    (subst (KindBelow c.args.root) c.in-Struct.is (c.shape.ensures.checked c.args.root c.shape.result.now c.shape.ensures.found).kind)

pub mark_variants-requires-clause-below : goal.mark_variants-requires-clause-below
mark_variants-requires-clause-below c =
    variants_below _ _ _ _ c.requires.walked c.deref-in-Enum.ensures.value
    (subst (KindBelow c.args.root) c.in-Enum.is (c.shape.ensures.checked c.args.root c.shape.result.now c.shape.ensures.found).kind)

pub returns-in-Struct-clause-more : goal.returns-in-Struct-clause-more
returns-in-Struct-clause-more c = c.mark_fields.ensures.more (length c.args.walked.now) (
    fields_below _ _ _ _ c.requires.walked c.deref.ensures.value
    (subst (KindBelow c.args.root) c.in-Struct.is (c.shape.ensures.checked c.args.root c.shape.result.now c.shape.ensures.found).kind))

pub returns-in-Enum-clause-more : goal.returns-in-Enum-clause-more
returns-in-Enum-clause-more c = c.mark_variants.ensures.more (length c.args.walked.now) (
    variants_below _ _ _ _ c.requires.walked c.deref-in-Enum.ensures.value
    (subst (KindBelow c.args.root) c.in-Enum.is (c.shape.ensures.checked c.args.root c.shape.result.now c.shape.ensures.found).kind))
