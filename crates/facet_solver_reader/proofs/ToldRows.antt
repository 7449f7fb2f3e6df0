-- What readings that are told say: the definitions, row by row.
use Rattle.std.proofs.Common.{◌≡◌, ℕ, true, [], refl, sym, ap, subst}
use Rattle.std.specs.Borrow.{Bor}
use Rattle.facet_solver_reader.specs.Choices.{a_value}
use Rattle.facet_solver_reader.specs.Documents.{Tree, number, truth, view}
use Rattle.facet_solver_reader.specs.Parts.{of_shape}
use Rattle.facet_solver_reader.specs.Told.{IsOnlyTold, IsTold, TellsAs, as_it_is}
use Rattle.facet_solver_reader.specs.declared.document.Document.{Document}
use Rattle.facet_solver_reader.specs.declared.reading.Reading as code
use Rattle.facet_solver_reader.specs.declared.reading.ReadingKind.TheVariants as kinds
use Rattle.facet_solver_reader.proofs.SampleTypes.{five, lenient, shapes}
use Rattle.facet_solver_reader.proofs.ValueRows.{only_as_it_is, reads_number, reads_value_fails}

-- a reading that is the value 5 tells the reading of 5 as a number, and the only one
pub told_holds :
    (w : code.Reading) (d : Bor Document) → w.variants.items ≡ [] → w.kind ≡ kinds.Value d → view d.now ≡ number five
    → IsOnlyTold lenient shapes (of_shape 0) (number five) w
told_holds w d no_variants kind is = record {
  told = record {
    reading = a_value;
    reads = reads_number;
    tells = rw (no_variants, kind, ← is) (as_it_is (lenient.end_of 0) d);
  };
  only = λ r reads. only_as_it_is r reads;
}

-- none tells a truth as a number
pub told_fails : (w : code.Reading) → ¬ (IsTold lenient shapes (of_shape 0) (truth true) w)
told_fails w h = reads_value_fails.0 h.reading h.reads
