-- Faults of fields and variants without types.
use Rattle.std.proofs.Common.{◌≡◌, List, [], ◌∷◌, refl}
use Rattle.facet_solver_types.specs.TypeTables.{TypeTable}
use Rattle.facet_solver_types.specs.ShapeFaults.{fields_faults, variants_faults}
use Rattle.facet_solver_types.specs.Understood.{DeclaredField, DeclaredVariant}

-- of fields there are none
pub fields_over : (table : TypeTable) (fields : List DeclaredField) → fields_faults table fields [] ≡ []
fields_over table [] = refl
fields_over table (field ∷ fields) = refl

-- of variants there are none
pub variants_over : (table : TypeTable) (variants : List DeclaredVariant)
    → variants_faults table variants [] ≡ []
variants_over table [] = refl
variants_over table (variant ∷ variants) = refl
