-- Places that stand in an ambiguity.
use Rattle.std.specs.Prelude.{All, Any, Contains, List}
use Rattle.facet_solver_witnesses.specs.declared.ambiguity.Ambiguity.{Ambiguity}
use Rattle.facet_solver_witnesses.specs.declared.place.Place.{Place}

-- what is read in both ways of a place stands in an ambiguity, and so do the two ways
abbrev pub Covers : Ambiguity → Place → Type 0
Covers a p =
    Contains a.forks.items p.fork × Contains a.ways.items p.first
    × Contains a.ways.items p.second

-- a place stands in one of some ambiguities
abbrev pub IsCovered : List Ambiguity → Place → Type 0
IsCovered found p = Any (λ a. Covers a p) found

-- so does each of some places
abbrev pub AreCovered : List Ambiguity → List Place → Type 0
AreCovered found places = All (IsCovered found) places
