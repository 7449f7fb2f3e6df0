-- What a report on a type promises.
use Rattle.std.specs.Prelude.{◌≡◌, List, Any}
use Rattle.facet_solver_reader.specs.Documents.{Tree}
use Rattle.facet_solver_reader.specs.Parts.{Target}
use Rattle.facet_solver_reader.specs.Choices.{Reading}
use Rattle.facet_solver_reader.specs.Readings.{ReadsValue}
use Rattle.facet_solver_reader.specs.Rules.{Rules}
use Rattle.facet_solver_checker.specs.Differing.{Differ, Difference}

-- no document has two readings as the target
abbrev pub IsUnambiguous : Rules → Target → Type 0
IsUnambiguous rules t =
    (v : Tree) (r s : Reading) → ReadsValue rules t v r → ReadsValue rules t v s → r ≡ s

-- wherever two readings of a document differ first, that is listed
abbrev pub ListsAll : {A : Type 0} → Rules → Target → (A → Difference → Type 0) → List A → Type 0
ListsAll rules t IsOf listed =
    (v : Tree) (r s : Reading) (d : Difference)
    → ReadsValue rules t v r → ReadsValue rules t v s → Differ r s d
    → Any (λ a. IsOf a d) listed
