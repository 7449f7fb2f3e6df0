use Rattle.std.specs.Prelude.{◌≡◌, ◌+◌, ℕ, true, Some, length, slice_get}
use Rattle.facet_solver_reader.proofs.why.several.only_last.Given as goal

-- there is a mark for each position so far, and only the last one could be set
abbrev pub invariant-loop-position : goal.invariant-loop-position
invariant-loop-position l =
    record {
      length_is : length l.marks.items + 1 ≡ l.position;
      last : (i : ℕ) → slice_get l.marks.items i ≡ Some true → i + 1 ≡ l.count;
    }
