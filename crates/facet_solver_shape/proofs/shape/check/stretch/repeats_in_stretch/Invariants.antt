use Rattle.std.proofs.Common.{◌≡◌, length, map, take}
use Rattle.facet_solver_shape.specs.Names.{names_of}
use Rattle.facet_solver_shape.proofs.shape.check.stretch.repeats_in_stretch.Given as goal

-- the names so far are copied
abbrev pub invariant-loop-index : goal.invariant-loop-index
invariant-loop-index g l = record {
  copied : names_of (take l.index l.room) ≡ map g.T.Named.name_of (take l.index l.stretch);
  long : length l.room ≡ length l.initial.room;
}
