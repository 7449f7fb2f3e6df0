-- Documents with several readings.
use Rattle.facet_solver_reader.specs.Counted.{AreTwo}
use Rattle.facet_solver_reader.specs.Documents.{Tree}
use Rattle.facet_solver_reader.specs.Parts.{Target}
use Rattle.facet_solver_reader.specs.Readings.{ReadsValue}
use Rattle.facet_solver_reader.specs.Rules.{Rules}

-- a document has two readings as the target that differ
abbrev pub HasSeveral : Rules → Target → Tree → Type 0
HasSeveral rules t v = AreTwo (ReadsValue rules t v)
