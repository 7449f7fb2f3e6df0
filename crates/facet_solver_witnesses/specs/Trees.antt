-- Values as trees.
use Rattle.std.specs.Prelude.{List, [], ◌∷◌, String, string_bytes}
use Rattle.std.specs.Global.{Global}
use Rattle.facet_solver_reader.specs.Documents.{Members, Tree, items_of, list, member, no_members}
use Rattle.facet_solver_reader.specs.Documents.{null, number, object, text, truth}
use Rattle.facet_solver_reader.specs.Numbers.{number_of}
use Rattle.facet_solver_witnesses.specs.declared.value.Value.{Value, fold-Value}
use Rattle.facet_solver_witnesses.specs.declared.value.Value.TheOpen.{Value-F}

-- members that own their names, each value already seen as a tree
abbrev pub named_members : List (String Global × Tree) → Members
named_members [] = no_members
named_members (m ∷ ms) = member (string_bytes m.0) m.1 (named_members ms)

-- one value, with each value inside it already seen as a tree
abbrev pub tree_step : Value-F Tree → Tree
tree_step Value-F.Null = null
tree_step (Value-F.Bool b) = truth b
tree_step (Value-F.Number s) = number (number_of (string_bytes s))
tree_step (Value-F.Text s) = text (string_bytes s)
tree_step (Value-F.List v) = list (items_of v.items)
tree_step (Value-F.Object v) = object (named_members v.items)

-- the document that a value is
abbrev pub tree : Value → Tree
tree = fold-Value Tree tree_step
