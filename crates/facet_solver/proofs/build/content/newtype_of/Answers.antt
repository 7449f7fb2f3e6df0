use Rattle.std.proofs.Common.{◌∷◌, [], ap, refl, sym}
use Rattle.std.specs.Prelude.{is_some}
use Rattle.facet_solver.specs.build.Content.{struct_fields}
use Rattle.facet_solver.proofs.Content.{newtype_of, zero_named}
use Rattle.facet_solver.proofs.build.content.newtype_of.Goals as goal

pub returns-in-Struct : goal.returns-in-Struct
returns-in-Struct c =
    let f = c.args.field.now in
    newtype_of c.args.shapes.now c.requires (f ∷ []) f c.effective-id.result c.in_ok-get.field-0.now refl
    (zero_named _ _ c.if-ne.ensures c.as_str.ensures.value)
    c.effective-id.ensures
    (sym c.in_ok-get.ensures.entry)
    (ap (λ k. is_some (struct_fields k)) c.in-Struct.is)
