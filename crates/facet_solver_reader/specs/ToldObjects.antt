-- What readings tell of the members of a numbered object.
use Rattle.std.specs.Prelude.{◌≡◌, ⊤, All, List, [], ◌∷◌, Option, Some, None, Vec, if◌then◌else◌}
use Rattle.facet_solver_reader.specs.declared.count.Count.TheVariants.{One}
use Rattle.std.specs.Borrow.{Bor}
use Rattle.std.specs.Global.{Global}
use Rattle.facet_solver_shape.specs.Names.{Name}
use Rattle.facet_solver_reader.specs.declared.nodes.Nodes.{Nodes}
use Rattle.facet_solver_reader.specs.declared.count.object.Object as read
use Rattle.facet_solver_reader.specs.declared.reading.Reading as code
use Rattle.facet_solver_reader.specs.declared.tables.Tables.{Tables}
use Rattle.facet_solver_reader.specs.declared.tables.List.{List as ListEntry}
use Rattle.facet_solver_reader.specs.Choices.{ChoiceAt, Reading, Taken, taking}
use Rattle.facet_solver_reader.specs.Counted.{IsOnly}
use Rattle.facet_solver_reader.specs.Branches.{ReadsPart}
use Rattle.facet_solver_reader.specs.Documents.{Member}
use Rattle.facet_solver_reader.specs.Known.{named}
use Rattle.facet_solver_reader.specs.Nodes.{members_in, value_of}
use Rattle.facet_solver_reader.specs.Objects.{Takes}
use Rattle.facet_solver_reader.specs.Parts.{CatchAll, MemberPart, Part, a_catch_all, a_member}
use Rattle.facet_solver_reader.specs.Planned.{IsOnlyAt, Planned, a_rest, choice_of}
use Rattle.facet_solver_reader.specs.Found.{catch_all_in}
use Rattle.facet_solver_reader.specs.Reading.{IsPartCount, object_view}
use Rattle.facet_solver_reader.specs.Readings.{ReadsValue}
use Rattle.facet_solver_reader.specs.Tables.{knows, rules_at}
use Rattle.facet_solver_reader.specs.Told.{TellsAs, TellsField, TellsTaken, end_taken, texts}

-- a numbered object has one reading by a part, and that is it
abbrev pub IsOnlyOf : Tables → Nodes → read.Object → Part → ChoiceAt → Type 0
IsOnlyOf t nodes o p a =
    IsOnlyAt (rules_at t) (ReadsValue (rules_at t)) (object_view nodes o) p a

-- a numbered object has one reading by each member
abbrev pub AreOnlyMembers : Tables → Nodes → read.Object → List MemberPart → Type 0
AreOnlyMembers t nodes o ms =
    All (λ m. IsOnly (ReadsPart (rules_at t) (ReadsValue (rules_at t)) (object_view nodes o)
    (a_member m))) ms

-- the only reading of a member is told
pub record IsToldField (t : Tables) (nodes : Nodes) (o : read.Object) (m : MemberPart)
    (w : code.Reading) : Type 0 where
  pub read : Option Reading
  pub only : IsOnlyOf t nodes o (a_member m) (choice_of read)
  pub tells :
      TellsField (rules_at t) t.shapes.now (members_in (value_of nodes o.node)) m read w

-- the only readings of members are told, in order
abbrev pub AreToldFields :
    Tables → Nodes → read.Object → List MemberPart → List code.Reading → Type 0
AreToldFields t nodes o [] [] = ⊤
AreToldFields t nodes o (m ∷ ms) (w ∷ ws) = IsToldField t nodes o m w × AreToldFields t nodes o ms ws
AreToldFields t nodes o _ _ = ⊥

-- names, and the readings of their values
abbrev pub Rest : Type 0
Rest = Vec (Bor Name) Global × Vec code.Reading Global

-- the only way in which a catch-all takes members is told
pub record IsToldRest (t : Tables) (nodes : Nodes) (o : read.Object) (k : CatchAll) (rest : Rest)
    : Type 0 where
  pub takes : Taken
  pub only : IsOnlyOf t nodes o (a_catch_all k) (taking takes)
  pub tells :
      TellsTaken (rules_at t) t.shapes.now (end_taken (rules_at t) k)
      (members_in (value_of nodes o.node)) takes (texts rest.0.items) rest.1.items

-- a reading of a member by a catch-all is told
pub record IsToldTaken (t : Tables) (k : CatchAll) (m : Member) (w : code.Reading) : Type 0 where
  pub reading : Reading
  pub takes : Takes (rules_at t) (ReadsValue (rules_at t)) k m reading
  pub tells :
      TellsAs (rules_at t) t.shapes.now (end_taken (rules_at t) k) m.value reading w.variants.items
      w.kind

-- the names of members that no choice of a list has, in order
abbrev pub unknown_names : ListEntry → List Member → List Name
unknown_names l [] = []
unknown_names l (m ∷ ms) =
    if knows l (named m.name) then unknown_names l ms else m.name ∷ unknown_names l ms

-- a numbered object has one reading by the catch-all of a step, if it is one
abbrev pub IsOnlyRest : Tables → Nodes → read.Object → Planned → Type 0
IsOnlyRest t nodes o (a_rest k) = IsPartCount t nodes o (a_catch_all k) One
IsOnlyRest t nodes o _ = ⊤

-- the same of each step
abbrev pub AreOnlyRests : Tables → Nodes → read.Object → List Planned → Type 0
AreOnlyRests t nodes o ss = All (IsOnlyRest t nodes o) ss

-- what a catch-all takes is told; nothing where there is none
abbrev pub IsToldFirst : Tables → Nodes → read.Object → Option CatchAll → Rest → Type 0
IsToldFirst t nodes o None rest = (rest.0.items ≡ []) × (rest.1.items ≡ [])
IsToldFirst t nodes o (Some k) rest = IsToldRest t nodes o k rest

-- the same of the first catch-all among steps
abbrev pub AreToldRests : Tables → Nodes → read.Object → List Planned → Rest → Type 0
AreToldRests t nodes o ss rest = IsToldFirst t nodes o (catch_all_in ss) rest

-- what the first catch-all takes is told, if there is one
abbrev pub IsToldSoFar : Tables → Nodes → read.Object → Option CatchAll → Option Rest → Type 0
IsToldSoFar t nodes o None None = ⊤
IsToldSoFar t nodes o (Some k) (Some rest) = IsToldRest t nodes o k rest
IsToldSoFar t nodes o _ _ = ⊥
