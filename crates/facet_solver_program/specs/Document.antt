-- The members of a document that no list encloses, in the lexicographic order of their paths.
use Rattle.std.specs.Prelude.{List, [], ◌∷◌, ◌++◌}
use Rattle.serde_json.specs.Data.{Data, null, boolean, number, string, array, object, Members, no_members, member}
use Rattle.serde_json.specs.View.{view}
use Rattle.facet_solver.specs.Names.{Name, names_of}
use Rattle.facet_solver_program.specs.declared.document.Member.{Member as Listed}

-- the names that lead to a member, its own the last, and its value
pub record Member : Type 0 where
  pub path : List Name
  pub value : Data

-- of a member that is listed
abbrev pub member_view : Listed → Member
member_view m = record { path = names_of m.path.items; value = view m.value.now }

abbrev mutual
  -- the members below a value that stands at a path
  pub below : List Name → Data → List Member
  below path null = []
  below path (boolean b) = []
  below path (number n) = []
  below path (string s) = []
  below path (array ds) = []
  below path (object ms) = members_below path ms

  -- those of an object: each member, and then those below it. The names of an object rise, so the
  -- paths do
  pub members_below : List Name → Members → List Member
  members_below path no_members = []
  members_below path (member name d ms) =
      record { path = path ++ name ∷ []; value = d }
      ∷ (below (path ++ name ∷ []) d ++ members_below path ms)

-- a member of an object at a path, and those below it
abbrev pub member_and_below : List Name → Name → Data → List Member
member_and_below path name d =
    record { path = path ++ name ∷ []; value = d } ∷ below (path ++ name ∷ []) d
