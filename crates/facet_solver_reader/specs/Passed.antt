-- What is kept from branch to branch while those of a selection are gone through.
use Rattle.std.specs.Prelude.{◌≡◌, IfSome, IsTrue, List, false}
use Rattle.facet_solver_shape.specs.Names.{Name}
use Rattle.facet_solver_reader.specs.declared.part.Selection as code_selection
use Rattle.facet_solver_reader.specs.declared.count.selection.Passed.{Passed}
use Rattle.facet_solver_reader.specs.declared.tables.List.{List as ListEntry}
use Rattle.facet_solver_reader.specs.Branches.{HasKnown}
use Rattle.facet_solver_reader.specs.Documents.{Member}
use Rattle.facet_solver_reader.specs.Known.{named}
use Rattle.facet_solver_reader.specs.Objects.{HasNamed, Object}
use Rattle.facet_solver_reader.specs.Parts.{Selection}
use Rattle.facet_solver_reader.specs.Rules.{Rules}
use Rattle.facet_solver_reader.specs.SelectionNames.{has_known}
use Rattle.facet_solver_reader.specs.Tables.{knows}

-- the object has a member of the name that refused a branch, if one did, and the selection knows it
abbrev pub IsPassed : Rules → Object → Selection → Passed → Type 0
IsPassed rules object s passed =
    IfSome passed.other (λ name. HasKnown rules object s (named name.now))

-- an object has a member of a name that a selection has and a list lacks
abbrev pub IsOther : code_selection.Selection → ListEntry → List Member → Name → Type 0
IsOther s l members x =
    HasNamed members x × IsTrue (has_known s x) × (knows l (named x) ≡ false)
