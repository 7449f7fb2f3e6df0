-- What is answered about a root.
use Rattle.std.specs.Prelude.{◌≡◌, ◌++◌, ℕ, List, [], codes, if◌then◌else◌}
use Rattle.facet_solver_reader.specs.declared.reader.Unknown.{Unknown}
use Rattle.facet_solver_reader.specs.declared.reader.Unknown.TheVariants.{Refused}
use Rattle.facet_solver_reader.specs.declared.reader.error.TypeError.{TypeError}
use Rattle.facet_solver_reader.specs.declared.reader.error.TypeError.TheVariants.{OutOfMemory}
use Rattle.facet_solver_reader.specs.Readers.{IsFaulty, ReaderView, is_strict, type_error_text}
use Rattle.facet_solver_shape.specs.Catalogues.{Catalogue}
use Rattle.facet_solver_shape.specs.Names.{Name}
use Rattle.facet_solver_types.specs.ShapeViews.{shapes_view}
use Rattle.facet_solver_types.specs.TypesViews.{Types, denies_unknown}
use Rattle.facet_solver_checker.specs.declared.report.Report.{Report}
use Rattle.facet_solver_tool.specs.declared.question.Manner.{Manner}
use Rattle.facet_solver_tool.specs.declared.question.Task.{Task}
use Rattle.facet_solver_tool.specs.declared.question.Task.TheVariants.{Read, Check, Catalogue as AsCatalogue}
use Rattle.facet_solver_tool.specs.declared.status.Status.TheVariants.{Answered, BadTypes}
use Rattle.facet_solver_tool.specs.Answer.{Answer, says}
use Rattle.facet_solver_tool.specs.CatalogueText.{catalogue}
use Rattle.facet_solver_tool.specs.Checks.{IsReportOf, SaysOfDocuments, TellsTypes, status_of}
use Rattle.facet_solver_tool.specs.InputLines.{lines_of}
use Rattle.facet_solver_tool.specs.ReadAnswers.{AnswersBytes}
use Rattle.facet_solver_tool.specs.Representations.{enum_lines}
use Rattle.facet_solver_tool.specs.ShapeNames.{name_at}
use Rattle.facet_solver_tool.specs.UnservedTypes.{conditional_lines, unserved, unserved_lines}

-- a root: its types, the path of their file, and its index
pub record Root : Type 0 where
  pub path : Name
  pub types : Types
  pub id : ℕ

-- the root of a path, types and an index
abbrev pub root_at : Name → Types → ℕ → Root
root_at path types id = record { path = path; types = types; id = id }

-- an error tells why a root is not read
abbrev pub IsFault : Catalogue → ℕ → TypeError → Type 0
IsFault shapes id OutOfMemory = ⊥
IsFault shapes id error = IsFaulty shapes id error

-- the text that tells a fault: the path of the file, and the error
abbrev pub fault_text : Name → TypeError → List ℕ
fault_text path error = path ++ (codes ": " ++ type_error_text error)

-- the answer where documents are not read as a root
pub record Refuses (r : Root) (shapes : Catalogue) (a : Answer) : Type 0 where
  pub error : TypeError
  pub fault : IsFault shapes r.id error
  pub told : a ≡ says BadTypes (fault_text r.path error)

-- what is done with unknown members: they are refused where the root denies them
abbrev pub unknown_at : Types → ℕ → Unknown → Unknown
unknown_at types id unknown = if denies_unknown types.declared id then Refused else unknown

-- what a reader of a root is of
abbrev pub reader_of : Root → Catalogue → Unknown → ReaderView
reader_of r shapes unknown =
    record { shapes = shapes; root = r.id; strict = is_strict (unknown_at r.types r.id unknown) }

-- the answer that has the reading of a document
pub data AnswersRead (r : Root) (unknown : Unknown) (document : List ℕ) (a : Answer) : Type 0 where
  no_reader : (shapes : Catalogue) → shapes_view shapes ≡ r.types.shapes
      → Refuses r shapes a → AnswersRead r unknown document a
  by_reader : (shapes : Catalogue) → shapes_view shapes ≡ r.types.shapes
      → AnswersBytes (reader_of r shapes unknown) document a → AnswersRead r unknown document a

-- what the text of a checked root begins with: its name, how each enum is written, the types that
-- are declared once more, and those that refuse unknown members where the root does not
abbrev pub check_text : Catalogue → Types → ℕ → List ℕ
check_text shapes types id =
    codes "root: " ++ (name_at (shapes_view shapes) id
    ++ (enum_lines shapes
    ++ (conditional_lines types ++ unserved_lines (unserved types id))))

-- the answer that checks a root, and has the bytes of the file of accepted ambiguities
pub data AnswersCheck (r : Root) (manner : Manner) (given : List ℕ) (a : Answer) : Type 0 where
  is_refused : (shapes : Catalogue) → shapes_view shapes ≡ r.types.shapes
      → Refuses r shapes a → AnswersCheck r manner given a
  is_checked : (shapes : Catalogue) → shapes_view shapes ≡ r.types.shapes → (report : Report)
      → IsReportOf (reader_of r shapes manner.unknown) report
      → a.status ≡ status_of (lines_of given) report.ambiguities.items
      → SaysOfDocuments (reader_of r shapes manner.unknown) given a.status
      → TellsTypes manner.form ((given ≡ []) × (report.ambiguities.items ≡ []))
      (check_text shapes r.types r.id) a.text
      → AnswersCheck r manner given a

-- the answer that has the catalogue
pub record AnswersCatalogue (types : Types) (id : ℕ) (a : Answer) : Type 0 where
  pub shapes : Catalogue
  pub same : shapes_view shapes ≡ types.shapes
  pub told : a ≡ says Answered (catalogue shapes id)

-- the answer about a root to what is asked
abbrev pub AnswersRoot : Root → Task → List ℕ → Answer → Type 0
AnswersRoot r (Read manner) document a = AnswersRead r manner.unknown document a
AnswersRoot r (Check manner) given a = AnswersCheck r manner given a
AnswersRoot r AsCatalogue document a = AnswersCatalogue r.types r.id a
