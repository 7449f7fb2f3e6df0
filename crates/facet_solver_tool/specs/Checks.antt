-- How a check ends.
use Rattle.std.specs.Prelude.{◌≡◌, ◌==◌, ◌&&◌, ◌++◌, ⊤, Bool, true, false, ℕ, List, [], codes, map, not, if◌then◌else◌}
use Rattle.std.specs.Borrow.{Bor}
use Rattle.std.specs.List.{list_any, starts_with}
use Rattle.facet_solver_shape.specs.Names.{Name}
use Rattle.facet_solver_reader.specs.Documents.{Tree}
use Rattle.facet_solver_reader.specs.Parts.{of_shape}
use Rattle.facet_solver_reader.specs.Readers.{ReaderView, is_strict}
use Rattle.facet_solver_reader.specs.declared.reader.Unknown.{Unknown}
use Rattle.facet_solver_shape.specs.Catalogues.{Catalogue}
use Rattle.facet_solver_reader.specs.Types.{rules_of}
use Rattle.facet_solver_checker.specs.declared.report.Report.{Report}
use Rattle.facet_solver_checker.specs.Certain.{IsUnambiguous}
use Rattle.facet_solver_checker.specs.Told.{AreAllTold}
use Rattle.facet_solver_witnesses.specs.Covered.{AreCovered}
use Rattle.facet_solver_witnesses.specs.Several.{HasSeveral}
use Rattle.facet_solver_witnesses.specs.Shown.{AreShown}
use Rattle.facet_solver_witnesses.specs.declared.ambiguity.Ambiguity.{Ambiguity}
use Rattle.facet_solver_witnesses.specs.declared.ambiguity.Evidence.{Evidence}
use Rattle.facet_solver_witnesses.specs.declared.ambiguity.Evidence.TheVariants.{Witness, MayBe}
use Rattle.facet_solver_tool.specs.declared.question.Form.{Form}
use Rattle.facet_solver_tool.specs.declared.question.Form.TheVariants.{Text, Json}
use Rattle.facet_solver_tool.specs.declared.status.Status.{Status}
use Rattle.facet_solver_tool.specs.declared.status.Status.TheVariants.{Answered, Ambiguous, MaybeAmbiguous, Outdated}
use Rattle.facet_solver_tool.specs.AmbiguityKeys.{key}

-- whether a line begins with a text
abbrev pub begins_with : List ℕ → List ℕ → Bool
begins_with text line = starts_with (λ x y. x == y) line text

-- whether one of some lines accepts the ambiguity of a key: it begins with the key
abbrev pub is_accepted_by : List (List ℕ) → Name → Bool
is_accepted_by lines key = list_any (begins_with key) lines

-- whether an ambiguity counts: no line accepts it
abbrev pub counts : List (List ℕ) → Ambiguity → Bool
counts lines a = not (is_accepted_by lines (key a))

-- whether what shows an ambiguity is a document
abbrev pub is_witness : Evidence → Bool
is_witness (Witness document path ignored) = true
is_witness (MayBe cause) = false

-- whether a line names a place, and accepts no ambiguity of these keys
abbrev pub is_outdated_by : List (List ℕ) → List ℕ → Bool
is_outdated_by keys line =
    begins_with (codes "{\"owner\": ") line
    && not (list_any (λ key. begins_with key line) keys)

-- whether a line names a place, and accepts none of some ambiguities
abbrev pub is_outdated : List Ambiguity → List ℕ → Bool
is_outdated ambiguities line = is_outdated_by (map key ambiguities) line

-- the lines that are seen of some in memory
abbrev pub lines_view : List (Bor (List ℕ)) → List (List ℕ)
lines_view lines = map (λ line. line.now) lines

-- how a check ends that finds some ambiguities and has these lines of accepted ones: the first
-- counts of an ambiguity that a document shows, one that may be, and a line that accepts none
abbrev pub status_of : List (List ℕ) → List Ambiguity → Status
status_of lines ambiguities =
    if list_any (λ a. is_witness a.evidence && counts lines a) ambiguities then Ambiguous
    else if list_any (counts lines) ambiguities then MaybeAmbiguous
    else if list_any (is_outdated ambiguities) lines then Outdated
    else Answered

-- a check as a text begins with what is told of the types, and is that alone where a proposition
-- holds; a check as JSON may be otherwise
abbrev pub TellsTypes : Form → Type 0 → List ℕ → List ℕ → Type 0
TellsTypes Text none types text =
    ((more : List ℕ) × (text ≡ types ++ more)) × (none → text ≡ types)
TellsTypes Json none types text = ⊤

-- what a reader of a root is of, with what is done with unknown members
abbrev pub read_by : Catalogue → ℕ → Unknown → ReaderView
read_by shapes root unknown =
    record { shapes = shapes; root = root; strict = is_strict unknown }

-- a report on what a reader reads
pub record IsReportOf (r : ReaderView) (report : Report) : Type 0 where
  pub all : AreAllTold report.plan report.places.items
  pub covered : AreCovered report.ambiguities.items report.places.items
  pub shown : AreShown r report.ambiguities.items
  pub unambiguous : report.places.items ≡ []
      → IsUnambiguous (rules_of r.shapes r.strict) (of_shape r.root)

-- what the end of a check says of the documents of a reader: where it ends well and has no lines of
-- accepted ambiguities, none has two readings; where it ends as ambiguous, one has
pub record SaysOfDocuments (r : ReaderView) (given : List ℕ) (status : Status) : Type 0 where
  pub none : given ≡ [] → status ≡ Answered
      → IsUnambiguous (rules_of r.shapes r.strict) (of_shape r.root)
  pub one : status ≡ Ambiguous
      → (document : Tree) × HasSeveral (rules_of r.shapes r.strict) (of_shape r.root) document
