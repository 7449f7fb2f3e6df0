use Rattle.facet_solver_shape.specs.declared.resolution.key.FieldCategory.TheVariants.{Flat, Attribute, Element, Text, Tag, Elements}
use Rattle.facet_solver.proofs.schema.index.Index.add.Goals as goal

pub add-requires-clause-bounds : goal.add-requires-clause-bounds
add-requires-clause-bounds c = λ name. c.requires.bounds (record { category = Flat; name = name })

pub add-requires-in-Attribute-clause-bounds : goal.add-requires-in-Attribute-clause-bounds
add-requires-in-Attribute-clause-bounds c = λ name. c.requires.bounds (record { category = Attribute; name = name })

pub add-requires-in-Element-clause-bounds : goal.add-requires-in-Element-clause-bounds
add-requires-in-Element-clause-bounds c = λ name. c.requires.bounds (record { category = Element; name = name })

pub add-requires-in-Text-clause-bounds : goal.add-requires-in-Text-clause-bounds
add-requires-in-Text-clause-bounds c = λ name. c.requires.bounds (record { category = Text; name = name })

pub add-requires-in-Tag-clause-bounds : goal.add-requires-in-Tag-clause-bounds
add-requires-in-Tag-clause-bounds c = λ name. c.requires.bounds (record { category = Tag; name = name })

pub add-requires-in-Elements-clause-bounds : goal.add-requires-in-Elements-clause-bounds
add-requires-in-Elements-clause-bounds c = λ name. c.requires.bounds (record { category = Elements; name = name })
