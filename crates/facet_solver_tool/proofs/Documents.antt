-- What the end of a check says of documents.
use Rattle.std.proofs.Common.{◌≡◌, ◌∙◌, ℕ, true, List, [], ◌∷◌, Any, ap, arith, refl, subst, sym}
use Rattle.std.proofs.lemmas.Bool.{false≢true}
use Rattle.facet_solver_reader.specs.Documents.{Tree}
use Rattle.facet_solver_reader.specs.Parts.{of_shape}
use Rattle.facet_solver_reader.specs.Readers.{ReaderView}
use Rattle.facet_solver_reader.specs.Types.{rules_of}
use Rattle.facet_solver_witnesses.specs.Covered.{AreCovered, Covers}
use Rattle.facet_solver_witnesses.specs.Several.{HasSeveral}
use Rattle.facet_solver_witnesses.specs.Shown.{IsShown}
use Rattle.facet_solver_witnesses.specs.Trees.{tree}
use Rattle.facet_solver_witnesses.specs.declared.ambiguity.Ambiguity.{Ambiguity}
use Rattle.facet_solver_witnesses.specs.declared.ambiguity.Evidence.{Evidence}
use Rattle.facet_solver_witnesses.specs.declared.ambiguity.Evidence.TheVariants.{Witness, MayBe}
use Rattle.facet_solver_witnesses.specs.declared.place.Place.{Place}
use Rattle.facet_solver_checker.specs.declared.report.Report.{Report}
use Rattle.facet_solver_tool.specs.declared.status.Status.{Status}
use Rattle.facet_solver_tool.specs.Checks.{IsReportOf, SaysOfDocuments, is_witness, status_of}
use Rattle.facet_solver_tool.specs.InputLines.{lines_of}
use Rattle.facet_solver_tool.proofs.Verdicts.{none_left, shown_by}

none_of : {X : Type 0} (P : X → Type 0) → Any P [] → ⊥
none_of P (k, x, within, is, has) = omega (arith, within)

no_places : (places : List Place) → AreCovered [] places → places ≡ []
no_places [] covered = refl
no_places (p ∷ ps) covered = absurd (none_of (λ a. Covers a p) (covered 0 p (omega arith)))

-- where no ambiguity is told, no place is
not_told : (told : List Ambiguity) (places : List Place) → told ≡ [] → AreCovered told places → places ≡ []
not_told told places is covered = no_places places (subst (λ found. AreCovered found places) is covered)

-- what shows an ambiguity, and is a document, has several readings
several : (r : ReaderView) (e : Evidence) → is_witness e ≡ true → IsShown r e
    → (v : Tree) × HasSeveral (rules_of r.shapes r.strict) (of_shape r.root) v
several r (Witness document path ignored) is shown = (tree document, shown)
several r (MayBe cause) is shown = absurd (false≢true is)

-- the end of a check by a report says so
pub says_of_documents : (r : ReaderView) (report : Report) (given : List ℕ) (status : Status)
    → IsReportOf r report → status ≡ status_of (lines_of given) report.ambiguities.items
    → SaysOfDocuments r given status
says_of_documents r report given status of_reader is =
    let told = report.ambiguities.items in
    record {
      none = λ none well.
          of_reader.unambiguous
          (not_told told report.places.items
          (none_left told (sym (ap (λ bytes. status_of (lines_of bytes) told) none) ∙ sym is ∙ well)) of_reader.covered);
      one = λ ambiguous.
          let by = shown_by (IsShown r) (lines_of given) told of_reader.shown (sym is ∙ ambiguous) in
          several r by.0.evidence by.1 by.2;
    }
