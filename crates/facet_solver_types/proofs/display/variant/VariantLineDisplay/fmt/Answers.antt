use Rattle.std.proofs.Common.{List, ◌++◌, codes, ap, ◌∙◌}
use Rattle.std.proofs.Output.{has_written_of_eq}
use Rattle.std.specs.String.{string_bytes}
use Rattle.facet_solver_shape.specs.Names.{Name, variant_names}
use Rattle.facet_solver_shape.specs.declared.shape.Field.{Field}
use Rattle.facet_solver_types.specs.PrintedFields.{body}
use Rattle.facet_solver_types.specs.PrintedNames.{variant_name}
use Rattle.facet_solver_types.specs.PrintedVariants.{before_variant}
use Rattle.facet_solver_types.proofs.display.variant.VariantLineDisplay.fmt.Goals as goal

-- the name and the fields are the variant's
pub returns-clause-writes : goal.returns-clause-writes
returns-clause-writes g c plain ok =
    let line = c.args.self.now in
    let text = λ (name : Name) (fields : List Field).
    codes "    " ++ (before_variant name ++ (variant_name (variant_names line.variants.now) line.number name
    ++ (body line.shapes.now (codes "    ") line.variant.now.kind fields ++ codes ",\n"))) in
    has_written_of_eq _ _ _ _ _
    (ap (λ name. text name c.deref.result.now) c.as_str-name.ensures.value
    ∙ ap (text (string_bytes line.variant.now.name)) c.deref.ensures.value)
    (c.write.ensures.writes plain ok)
