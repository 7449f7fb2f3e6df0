-- Readers: what they are of, why a type has none, and why a document has no count.
use Rattle.std.specs.Prelude.{◌≡◌, ◌++◌, ⊤, ℕ, Bool, true, false, List, [], ◌∷◌, map, codes}
use Rattle.std.specs.Fmt.{decimal}
use Rattle.facet_solver_shape.specs.Catalogues.{Catalogue}
use Rattle.facet_solver_reader.specs.declared.nodes.DocumentError.{DocumentError}
use Rattle.facet_solver_reader.specs.declared.nodes.DocumentError.TheVariants as document
use Rattle.facet_solver_reader.specs.declared.reader.Unknown.{Unknown}
use Rattle.facet_solver_reader.specs.declared.reader.Unknown.TheVariants.{Ignored, Refused}
use Rattle.facet_solver_reader.specs.declared.reader.error.TypeError.{TypeError}
use Rattle.facet_solver_reader.specs.declared.reader.error.TypeError.TheVariants as types
use Rattle.facet_solver_reader.specs.declared.tables.fault.Fault.{Fault}
use Rattle.facet_solver_reader.specs.declared.tables.fault.Fault.TheVariants as faults
use Rattle.facet_solver_reader.specs.declared.tables.Tables.{Tables}
use Rattle.facet_solver_reader.specs.Documents.{Tree}
use Rattle.facet_solver_shape.specs.Names.{Name}
use Rattle.facet_solver_shape.specs.Paths.{path_text}
use Rattle.facet_solver_reader.specs.FieldPlaces.{Path, path_of_part, shape_name}
use Rattle.facet_solver_reader.specs.NoTables.{IsWhyNoTables}
use Rattle.facet_solver_reader.specs.Parts.{ListId, of_shape}
use Rattle.facet_solver_reader.specs.ListShapes.{shape_of}
use Rattle.facet_solver_reader.specs.Places.{IsNameTwice, place_text}
use Rattle.facet_solver_reader.specs.Reached.{IsRanked}
use Rattle.facet_solver_reader.specs.Views.{list_view}
use Rattle.facet_solver_reader.specs.Tables.{AreTables, ShapeIsServed, rules_at}

-- what a reader is of: a catalogue, a root, and whether it refuses members that nothing takes
pub record ReaderView : Type 0 where
  pub shapes : Catalogue
  pub root : ℕ
  pub strict : Bool

-- what a reader with these tables is of
abbrev pub reader_view : Tables → ℕ → ReaderView
reader_view t root = record { shapes = t.shapes.now; root = root; strict = t.strict }

-- the tables are of a type, and a document can be read as the root
pub record IsMade (t : Tables) (root : ℕ) : Type 0 where
  pub tables : AreTables t
  pub served : ShapeIsServed t root
  pub ranked : IsRanked t.steps (rules_at t) (of_shape root)

-- whether members that nothing takes are refused
abbrev pub is_strict : Unknown → Bool
is_strict Ignored = false
is_strict Refused = true

-- a reader is of a catalogue, a root and what is done with members that nothing takes
abbrev pub IsReaderOf : Catalogue → ℕ → Unknown → ReaderView → Type 0
IsReaderOf shapes root unknown r =
    r ≡ record { shapes = shapes; root = root; strict = is_strict unknown }

-- a shape is that of a list, and a name is its name
abbrev pub IsShapeOf : Catalogue → ListId → ℕ → Name → Type 0
IsShapeOf shapes id shape name = (shape ≡ shape_of id) × (name ≡ shape_name shapes shape)

-- where in the type that a list is of two of its parts stand
abbrev pub AreAt : Catalogue → ListId → List ℕ → List Path → Type 0
AreAt shapes id indices paths = paths ≡ map (path_of_part shapes id) indices

-- what is said of a fault: the shape with its name, and the paths of the parts that it is about
abbrev pub IsSaidOf : Catalogue → Fault → TypeError → Type 0
IsSaidOf shapes (faults.NoShape s) (types.NoShape shape) = shape ≡ s
IsSaidOf shapes (faults.ReadsItself s) (types.ReadsItself shape type_name) =
    (shape ≡ s) × (type_name.now ≡ shape_name shapes s)
IsSaidOf shapes (faults.ContainsItself id) (types.ContainsItself shape type_name) =
    IsShapeOf shapes (list_view id) shape type_name.now
IsSaidOf shapes (faults.NameTwice id n i j) (types.DuplicateName shape type_name name one two) =
    IsShapeOf shapes (list_view id) shape type_name.now × (name.now ≡ n.now)
    × AreAt shapes (list_view id) (i ∷ j ∷ []) (one ∷ two ∷ [])
IsSaidOf shapes (faults.TwoCatchAlls id i j) (types.TwoCatchAlls shape type_name one two) =
    IsShapeOf shapes (list_view id) shape type_name.now
    × AreAt shapes (list_view id) (i ∷ j ∷ []) (one ∷ two ∷ [])
IsSaidOf shapes faults.OutOfMemory types.OutOfMemory = ⊤
IsSaidOf shapes _ _ = ⊥

-- the text of what is wrong with a type
abbrev pub type_text : Name → List ℕ → List ℕ
type_text type_name what = codes "type " ++ (type_name ++ what)

-- the text of two places
abbrev pub places_text : Path → Path → List ℕ
places_text first second =
    codes "at " ++ (path_text first ++ (codes " and at " ++ path_text second))

-- the text of an error of a type
abbrev pub type_error_text : TypeError → List ℕ
type_error_text (types.NoShape shape) =
    codes "the catalogue has no shape at index " ++ decimal shape
type_error_text (types.ReadsItself shape type_name) =
    type_text type_name.now (codes ": it is read as itself without end")
type_error_text (types.ContainsItself shape type_name) =
    type_text type_name.now (codes ": its parts contain themselves")
type_error_text (types.DuplicateName shape type_name name first second) =
    type_text type_name.now (codes ": two members named '" ++ (name.now ++ (codes "', "
    ++ (places_text first second ++ codes "; rename one"))))
type_error_text (types.TwoCatchAlls shape type_name first second) =
    type_text type_name.now (codes ": two catch-alls, "
    ++ (places_text first second ++ codes "; keep one"))
type_error_text types.OutOfMemory = codes "out of memory"

-- the text of an error of a document
abbrev pub document_error_text : DocumentError → List ℕ
document_error_text (document.NameTwice place) =
    place_text place ++ codes ": the name stands twice"
document_error_text document.OutOfMemory = codes "out of memory"

-- why a document has no count: a name that stands twice, where it does, or refused memory
abbrev pub HasNoCount : Tree → DocumentError → Type 0
HasNoCount v (document.NameTwice place) = IsNameTwice v place
HasNoCount v document.OutOfMemory = ⊤

-- what is said of a fault of a type
pub record IsFaulty (shapes : Catalogue) (root : ℕ) (e : TypeError) : Type 0 where
  pub fault : Fault
  pub present : IsWhyNoTables shapes root fault
  pub said : IsSaidOf shapes fault e

-- why a type has no reader: what is said of a fault of it, or refused memory
abbrev pub IsRefused : Catalogue → ℕ → TypeError → Type 0
IsRefused shapes root types.OutOfMemory = ⊤
IsRefused shapes root e = IsFaulty shapes root e
