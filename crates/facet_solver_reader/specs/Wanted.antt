-- What errors say that types read.
use Rattle.std.specs.Prelude.{◌≡◌, ◌==◌, Bool, true, false, if◌then◌else◌, length}
use Rattle.facet_solver_shape.specs.Names.{Name}
use Rattle.facet_solver_reader.specs.declared.read_error.Wanted.{Wanted}
use Rattle.facet_solver_reader.specs.declared.read_error.Wanted.TheVariants as wanted
use Rattle.facet_solver_reader.specs.Documents.{Tree, list, object, items, members}
use Rattle.facet_solver_reader.specs.Parts.{Target, of_shape, of_content, of_tag}
use Rattle.facet_solver_reader.specs.Rules as rules
use Rattle.facet_solver_reader.specs.Rules.{Content, End, Rules, a_truth, a_text, a_character, a_list}
use Rattle.facet_solver_reader.specs.Rules.{a_tuple, a_map, an_object, a_named_variant, no_content}
use Rattle.facet_solver_reader.specs.Rules.{as_shape, as_tuple, as_object}

-- what an end reads
abbrev pub wanted_of_end : End → Wanted
wanted_of_end rules.null_alone = wanted.Null
wanted_of_end a_truth = wanted.Truth
wanted_of_end (rules.a_whole range) = wanted.Whole range
wanted_of_end rules.a_float = wanted.Number
wanted_of_end a_text = wanted.Text
wanted_of_end a_character = wanted.Character
wanted_of_end (a_list id) = wanted.List
wanted_of_end (a_tuple ids) = wanted.Values (length ids)
wanted_of_end (a_map key value) = wanted.Object
wanted_of_end (an_object id) = wanted.Object
wanted_of_end (a_named_variant vs) = wanted.Named
wanted_of_end _ = wanted.Other

-- what the content of a variant reads
abbrev pub wanted_of_content : Rules → Content → Wanted
wanted_of_content all no_content = wanted.Nothing
wanted_of_content all (as_shape id) = wanted_of_end (all.end_of id)
wanted_of_content all (as_tuple ids) = wanted.Values (length ids)
wanted_of_content all (as_object id) = wanted.Object

-- what is read is the text alone
abbrev pub IsExactly : Name → Wanted → Type 0
IsExactly name (wanted.Exactly text) = text.now ≡ name
IsExactly name _ = ⊥

-- a target reads this
abbrev pub IsWanted : Rules → Target → Wanted → Type 0
IsWanted all (of_shape id) w = w ≡ wanted_of_end (all.end_of id)
IsWanted all (of_content id k) w = w ≡ wanted_of_content all (all.content_of id k)
IsWanted all (of_tag name) w = IsExactly name w

-- whether a value is a list or an object as it is wanted. An object of one member names a variant
abbrev pub is_of_kind : Tree → Wanted → Bool
is_of_kind (list vs) wanted.List = true
is_of_kind (list vs) (wanted.Values n) = length (items vs) == n
is_of_kind (object ms) wanted.Object = true
is_of_kind (object ms) wanted.Named = length (members ms) == 1
is_of_kind _ _ = false

-- what is said to be wanted of a value: of one of the kind, another of it
abbrev pub wanted_of : Tree → Wanted → Wanted
wanted_of v w = if is_of_kind v w then wanted.Other else w

-- what a target reads is said of a value that it does not read
pub record IsSaidToRead (all : Rules) (t : Target) (v : Tree) (w : Wanted) : Type 0 where
  pub kind : Wanted
  pub wanted : IsWanted all t kind
  pub said : w ≡ wanted_of v kind
