-- Errors that tell more than that memory was refused.
use Rattle.std.proofs.Common.{◌≢◌, ℕ, List, Option, refl}
use Rattle.facet_solver_shape.specs.Names.{Name}
use Rattle.facet_solver_types.specs.declared.error.TypesError.{TypesError}
use Rattle.facet_solver_types.specs.declared.error.TypesError.TheVariants.{Invalid, Root, Roots, Catalogue, OutOfMemory}
use Rattle.facet_solver_types.specs.ParsedTexts.{Explains, IsExplained}

-- an error that explains a text and a root tells why it has no types
pub explained : (text : List ℕ) (root : Option Name) (error : TypesError)
    → error ≢ OutOfMemory → Explains text root error → IsExplained text root error
explained text root (Invalid found) more explains = explains
explained text root (Root problem met) more explains = explains
explained text root (Roots names) more explains = explains
explained text root (Catalogue fault) more explains = explains
explained text root OutOfMemory more explains = absurd (more refl)
