-- What is told of a value.
use Rattle.std.specs.Prelude.{◌≡◌, length}
use Rattle.facet_solver_reader.specs.declared.read_error.given.Given.{Given}
use Rattle.facet_solver_reader.specs.declared.read_error.given.Given.TheVariants as told
use Rattle.facet_solver_reader.specs.Documents.{Tree, Items, Members, items, members}
use Rattle.facet_solver_reader.specs.Documents as document
use Rattle.facet_solver_reader.specs.Numbers.{number_view}

-- what is told is the value, or that it is a list or an object of so many
abbrev pub IsGiven : Tree → Given → Type 0
IsGiven v told.Null = v ≡ document.null
IsGiven v (told.Bool b) = v ≡ document.truth b
IsGiven v (told.Number n) = v ≡ document.number (number_view n)
IsGiven v (told.Text s) = v ≡ document.text s.now
IsGiven v (told.List n) =
    (values : Items) × (v ≡ document.list values) × (length (items values) ≡ n)
IsGiven v (told.Object n) =
    (inner : Members) × (v ≡ document.object inner) × (length (members inner) ≡ n)
