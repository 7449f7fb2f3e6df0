-- Names, as lists of bytes.
use Rattle.std.specs.Prelude.{ℕ, List, map, Option, Some, None, Bool, nat_eq}
use Rattle.std.specs.declared.string.String.{String}
use Rattle.std.specs.declared.alloc.Global.{Global}
use Rattle.std.specs.String.{string_bytes}
use Rattle.facet_solver_shape.specs.declared.shape.Field.{Field}
use Rattle.facet_solver_shape.specs.declared.shape.Variant.{Variant}
use lib.Pointwise.{pointwise}
use denote.Bor.{Bor}
use Rattle.std.specs.declared.cmp.Ordering.{Ordering}
use Rattle.std.specs.Ordering.{nat_cmp}
use Rattle.std.specs.Cmp.Lexicographic.{slice_cmp}

-- a name, by its bytes
abbrev pub Name : Type 0
Name = List ℕ

-- whether two names have the same bytes
abbrev pub name_eq : Name → Name → Bool
name_eq = pointwise nat_eq

-- a name that may be absent
abbrev pub optional_name : Option (String Global) → Option Name
optional_name None = None
optional_name (Some s) = Some (string_bytes s)

-- a new name, or else the one declared
abbrev pub name_or : Option (String Global) → String Global → Name
name_or None declared = string_bytes declared
name_or (Some name) declared = string_bytes name

-- the name that a field goes by in a document
abbrev pub effective_name : Field → Name
effective_name f = name_or f.rename f.name

-- the declared names of fields
abbrev pub field_names : List Field → List Name
field_names fields = map (λ f. string_bytes f.name) fields

-- the names of variants
abbrev pub variant_names : List Variant → List Name
variant_names variants = map (λ v. string_bytes v.name) variants

-- what names behind references say
abbrev pub names_of : List (Bor Name) → List Name
names_of ns = map (λ n. n.now) ns

-- the order of names behind references
abbrev pub name_ref_cmp : Bor Name → Bor Name → Ordering
name_ref_cmp x y = slice_cmp nat_cmp x.now y.now
