-- Lists of which one has all names of another.
use Rattle.std.specs.Prelude.{IsTrue}
use Rattle.facet_solver_shape.specs.Names.{Name}
use Rattle.facet_solver_reader.specs.declared.tables.List.{List as ListEntry}
use Rattle.facet_solver_reader.specs.Known.{named}
use Rattle.facet_solver_reader.specs.Tables.{knows}

-- a list has each name that another has
abbrev pub KnowsAllOf : ListEntry → ListEntry → Type 0
KnowsAllOf other l = (x : Name) → IsTrue (knows other (named x)) → IsTrue (knows l (named x))
