use Rattle.std.proofs.Common.{◌≡◌, length}
use Rattle.facet_solver_reader.specs.Blaming.{AreMissing}
use Rattle.facet_solver_reader.proofs.why.missing.missing_names.Given as goal

-- the names so far are missing
abbrev pub invariant-loop-index : goal.invariant-loop-index
invariant-loop-index l =
    record {
      so_far : length l.missing.items ≡ l.index-index;
      missing : AreMissing l.tables l.nodes l.object l.missing.items;
    }
