use Rattle.std.proofs.Common.{take}
use Rattle.facet_solver_reader.specs.Readers.{ReaderView}
use Rattle.facet_solver_witnesses.specs.Covered.{AreCovered}
use Rattle.facet_solver_witnesses.specs.Shown.{AreShown}
use Rattle.facet_solver_witnesses.proofs.covering.add_unconfirmed.Given as goal

-- the places before this one stand in one
abbrev pub invariant-loop-place : goal.invariant-loop-place
invariant-loop-place l =
    record {
      covered : AreCovered l.found.items (take l.place-index l.places);
      shown : (r : ReaderView) → AreShown r l.fn.found.items → AreShown r l.found.items;
    }
