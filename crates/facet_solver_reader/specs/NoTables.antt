-- Why a type has no tables.
use Rattle.std.specs.Prelude.{◌⊎◌, ◌≤◌, ℕ, Bool, length}
use Rattle.facet_solver_shape.specs.Catalogues.{Catalogue}
use Rattle.facet_solver_reader.specs.declared.tables.fault.Fault.{Fault}
use Rattle.facet_solver_reader.specs.declared.tables.fault.Fault.TheVariants.{NoShape, ReadsItself}
use Rattle.facet_solver_reader.specs.Ends.{LeadsInCircles}
use Rattle.facet_solver_reader.specs.Met.{ListIsMet, ShapeIsMet}
use Rattle.facet_solver_reader.specs.OrderedLists.{IsAbout, IsWhyUnordered}
use Rattle.facet_solver_reader.specs.Ranked.{AsksWithoutEnd}
use Rattle.std.specs.Prelude.{◌≡◌}

-- to read a value as the shape asks to read it on without end: by where the shape leads, or by
-- what its end asks
abbrev pub IsReadWithoutEnd : Catalogue → ℕ → Type 0
IsReadWithoutEnd shapes id = LeadsInCircles shapes id ⊎ AsksWithoutEnd shapes id

-- why a type has no tables: the catalogue lacks the root, or a document that is read as the root
-- can come to a value that is read on without end, or to lists of parts that cannot be ordered
abbrev pub IsWhyNoTables : Catalogue → ℕ → Fault → Type 0
IsWhyNoTables shapes root (NoShape id) = (id ≡ root) × (length shapes ≤ root)
IsWhyNoTables shapes root (ReadsItself id) =
    IsReadWithoutEnd shapes id × ((strict : Bool) → ShapeIsMet shapes strict root id)
IsWhyNoTables shapes root fault =
    IsWhyUnordered shapes fault
    × IsAbout (λ q. (strict : Bool) → ListIsMet shapes strict root q) fault
