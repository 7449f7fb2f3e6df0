-- How many fields a catalogue holds, by which the visits of fields are bounded.
use Rattle.std.specs.Prelude.{ℕ, length, sum_by}
use Rattle.facet_solver_shape.specs.declared.shape.ShapeKind.{ShapeKind}
use Rattle.facet_solver_shape.specs.declared.shape.ShapeKind.TheVariants.{Enum, Struct}
use Rattle.facet_solver.specs.build.Build.{Catalogue}

-- how many fields a kind of shape has, in all its variants
abbrev pub fields_of_kind : ShapeKind → ℕ
fields_of_kind (Struct kind fields) = length fields.items
fields_of_kind (Enum variants) = sum_by (λ v. length v.fields.items) variants.items
fields_of_kind _ = 0

-- how many fields a catalogue holds, each variant's among them
abbrev pub field_count : Catalogue → ℕ
field_count cat = sum_by (λ s. fields_of_kind s.kind) cat
