-- The category of what a build adds to a resolution, by the format.
use Rattle.facet_solver.specs.declared.build.format.Format.{Format}
use Rattle.facet_solver_shape.specs.declared.shape.DomMark.{DomMark}
use Rattle.facet_solver_shape.specs.declared.shape.DomMark.TheVariants.{None as NoMark, Attribute as AttributeMark, Element as ElementMark, Text as TextMark, Tag as TagMark, Elements as ElementsMark}
use Rattle.facet_solver_shape.specs.declared.resolution.key.FieldCategory.{FieldCategory}
use Rattle.facet_solver_shape.specs.declared.resolution.key.FieldCategory.TheVariants.{Flat as FlatCategory, Attribute, Element, Text, Tag, Elements}
use Rattle.facet_solver.specs.declared.build.format.Format.TheVariants.{Flat, Dom}

-- the category of a mark: without one a field is an element
abbrev pub category_of_mark : DomMark → FieldCategory
category_of_mark NoMark = Element
category_of_mark AttributeMark = Attribute
category_of_mark ElementMark = Element
category_of_mark TextMark = Text
category_of_mark TagMark = Tag
category_of_mark ElementsMark = Elements

-- the category of a field
abbrev pub field_category : Format → DomMark → FieldCategory
field_category Flat mark = FlatCategory
field_category Dom mark = category_of_mark mark

-- the category of a selector
abbrev pub selector_category : Format → FieldCategory
selector_category Flat = FlatCategory
selector_category Dom = Element

-- a catch-all takes attributes or else elements
abbrev pub catch_all_category_of_mark : DomMark → FieldCategory
catch_all_category_of_mark AttributeMark = Attribute
catch_all_category_of_mark _ = Element

-- the category of a catch-all
abbrev pub catch_all_category : Format → DomMark → FieldCategory
catch_all_category Flat mark = FlatCategory
catch_all_category Dom mark = catch_all_category_of_mark mark
