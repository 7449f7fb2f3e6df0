-- What a reading tells of a numbered value.
use Rattle.std.specs.Prelude.{◌≡◌, ◌<◌, ⊤, ℕ, List, [], ◌∷◌, Option, Some, None, Vec, Result, Ok, Err}
use Rattle.std.specs.Prelude.{Bool, true, false, length, slice_get}
use Rattle.std.specs.Borrow.{Bor}
use Rattle.std.specs.Global.{Global}
use Rattle.facet_solver_shape.specs.Catalogues.{Catalogue}
use Rattle.facet_solver_shape.specs.Names.{Name}
use Rattle.facet_solver_reader.specs.declared.count.Count.TheVariants.{One}
use Rattle.facet_solver_reader.specs.declared.document.Document.{Document}
use Rattle.facet_solver_reader.specs.declared.nodes.Nodes.{Nodes}
use Rattle.facet_solver_reader.specs.declared.read.not_one.NotOne.{NotOne}
use Rattle.facet_solver_reader.specs.declared.read.not_one.NotOne.TheVariants.{NoneOrSeveral, OutOfMemory}
use Rattle.facet_solver_reader.specs.declared.reading.ObjectReading.{ObjectReading}
use Rattle.facet_solver_reader.specs.declared.reading.Reading as code
use Rattle.facet_solver_reader.specs.declared.reading.ReadingKind.TheVariants as kinds
use Rattle.facet_solver_reader.specs.declared.reading.VariantName.{VariantName}
use Rattle.facet_solver_reader.specs.declared.tables.Tables.{Tables}
use Rattle.facet_solver_reader.specs.Choices.{Choice, Reading, a_value, an_object, a_variant}
use Rattle.facet_solver_reader.specs.Counted.{Counted}
use Rattle.facet_solver_reader.specs.Documents.{Tree}
use Rattle.facet_solver_reader.specs.Nodes.{children, members_in, value_of}
use Rattle.facet_solver_reader.specs.Objects.{ReadsObject}
use Rattle.facet_solver_reader.specs.Parts.{ListId, Target, of_shape}
use Rattle.facet_solver_reader.specs.Reading.{IsCount}
use Rattle.facet_solver_reader.specs.Readings.{ReadsValue, inner}
use Rattle.facet_solver_reader.specs.Rules as types
use Rattle.facet_solver_reader.specs.Rules.{Alternative, AlternativeKind, End, NamedVariant, Rules}
use Rattle.facet_solver_reader.specs.Tables.{rules_at}
use Rattle.facet_solver_reader.specs.Told.{IsTold, TellsAs, TellsObject, end_of_target, names_of}
use Rattle.facet_solver_reader.specs.Told.{names_view}
use Rattle.facet_solver_reader.specs.Values.{ReadsEnd, ReadsNamedVariant}

-- there is not one, unless memory was refused
abbrev pub IsNotOne : NotOne → Type 0 → Type 0
IsNotOne NoneOrSeveral one = one → ⊥
IsNotOne OutOfMemory one = ⊤

-- there is one, and what is given tells it; or there is not one, unless memory was refused
abbrev pub IsRead : {X : Type 0} → (X → Type 0) → Type 0 → Result X NotOne → Type 0
IsRead told one (Ok w) = one × told w
IsRead told one (Err e) = IsNotOne e one

-- a value in memory as it is
abbrev pub IsAsItIs : Bor Document → code.Reading → Type 0
IsAsItIs d w = (w.variants.items ≡ []) × (w.kind ≡ kinds.Value d)

-- a reading of a numbered value as a target is told
abbrev pub IsToldAt : Tables → Nodes → ℕ → Target → code.Reading → Type 0
IsToldAt t nodes node target w =
    IsTold (rules_at t) t.shapes.now target (value_of nodes node) w

-- the first values within a numbered one, so many, have one reading as a shape each
abbrev pub AreReadOnce : Tables → Nodes → ℕ → ℕ → ℕ → Type 0
AreReadOnce t nodes node shape read =
    (i : ℕ) (v : Tree) → i < read → slice_get (children (value_of nodes node)) i ≡ Some v
    → Counted (ReadsValue (rules_at t) (of_shape shape) v) One

-- a reading of a numbered value as an end is told
pub record IsToldAs (t : Tables) (nodes : Nodes) (node : ℕ) (e : End) (w : code.Reading)
    : Type 0 where
  pub reading : Reading
  pub reads : ReadsEnd (rules_at t) (inner (rules_at t)) e (value_of nodes node) reading
  pub tells :
      TellsAs (rules_at t) t.shapes.now e (value_of nodes node) reading w.variants.items w.kind

-- a reading of a numbered object by a list of parts is told
pub record IsToldBy (t : Tables) (nodes : Nodes) (node : ℕ) (id : ListId) (w : code.Reading)
    : Type 0 where
  pub choice : Choice
  pub reads :
      ReadsObject (rules_at t) (ReadsValue (rules_at t)) id (members_in (value_of nodes node)) choice
  pub object : ObjectReading
  pub values : Vec code.Reading Global
  pub rest : Vec code.Reading Global
  pub variants_are : w.variants.items ≡ []
  pub kind_is : w.kind ≡ kinds.Object object values rest
  pub tells :
      TellsObject (rules_at t) t.shapes.now id (members_in (value_of nodes node)) choice object
      values.items rest.items

-- the variant of an index alone has a name
pub record IsOnlyNamed (vs : List NamedVariant) (x : Name) (k : ℕ) : Type 0 where
  pub variant : NamedVariant
  pub is_at : slice_get vs k ≡ Some variant
  pub named : variant.name ≡ x
  pub alone : (j : ℕ) (v : NamedVariant) → slice_get vs j ≡ Some v → v.name ≡ x → j ≡ k

-- a numbered value is read as the variant of an index, which it names
abbrev pub IsReadAsNamed : Tables → Nodes → ℕ → List NamedVariant → ℕ → Type 0
IsReadAsNamed t nodes node vs k =
    (k < length vs) × (r : Reading)
    × ReadsNamedVariant (ReadsValue (rules_at t)) vs (value_of nodes node) (a_variant k r)

-- a value is read as an untagged enum: by those of its variants that join, or by the one at an index
abbrev pub IsUntagged : Rules → End → Tree → Option ℕ → Type 0
IsUntagged rules e v None = (c : Choice) × ReadsEnd rules (inner rules) e v (an_object c)
IsUntagged rules e v (Some k) = (r : Reading) × ReadsEnd rules (inner rules) e v (a_variant k r)

-- whether a variant of a kind reads objects by parts alone
abbrev pub is_joined : AlternativeKind → Bool
is_joined types.joins = true
is_joined _ = false

-- a reading of content becomes one of the variant whose content a target is
pub record IsWithin (shapes : Catalogue) (content : Target) (old new : code.Reading) : Type 0 where
  pub name : VariantName
  pub is_of : names_view name ≡ names_of shapes content
  pub variants_are : new.variants.items ≡ name ∷ old.variants.items
  pub kind_is : new.kind ≡ old.kind

-- a reading is of a variant of an untagged enum of a kind: null alone as it is, else as its content
abbrev pub ReadsByAlternative : AlternativeKind → Reading → Type 0 → Type 0
ReadsByAlternative types.null_alone r content = r ≡ a_value
ReadsByAlternative _ r content = content

-- a variant of a kind reads values by itself, and there is one reading of its content, if that is
-- asked
abbrev pub IsOnlyByKind : AlternativeKind → Type 0 → Type 0
IsOnlyByKind types.joins content = ⊥
IsOnlyByKind types.null_alone content = ⊤
IsOnlyByKind _ content = content

-- a numbered value has one reading as the content of a variant of an untagged enum
abbrev pub IsOnlyAlternative : Tables → Nodes → ℕ → Alternative → Type 0
IsOnlyAlternative t nodes node a = IsOnlyByKind a.kind (IsCount t nodes node a.content One)

-- a reading of a numbered value as a variant of an untagged enum is told
pub record IsToldAlternative (t : Tables) (nodes : Nodes) (node : ℕ) (a : Alternative)
    (w : code.Reading) : Type 0 where
  pub reading : Reading
  pub reads :
      ReadsByAlternative a.kind reading
      (ReadsValue (rules_at t) a.content (value_of nodes node) reading)
  pub name : VariantName
  pub names : List VariantName
  pub is_of : names_view name ≡ names_of t.shapes.now a.content
  pub variants_are : w.variants.items ≡ name ∷ names
  pub tells :
      TellsAs (rules_at t) t.shapes.now (end_of_target (rules_at t) a.content) (value_of nodes node)
      reading names w.kind
