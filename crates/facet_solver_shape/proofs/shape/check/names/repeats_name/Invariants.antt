use Rattle.std.proofs.Common.{◌≡◌, true, map}
use denote.Shadow.{shadow}
use denote.Text.{Utf8}
use Rattle.std.specs.Ordering.{is_le}
use Rattle.facet_solver_shape.proofs.RepeatedNames.{ApartBelow, AtMostBelow, name_cmp, name_cmp_back}
use Rattle.facet_solver_shape.proofs.shape.check.names.repeats_name.Given as goal

-- the names so far differ, and so do those that were compared; they are from the lowest to the
-- highest
abbrev pub invariant-loop-index : goal.invariant-loop-index
invariant-loop-index g l = record {
  apart : ApartBelow (map g.T.Named.name_of l.items) l.index;
  compared : ApartBelow (map g.T.Named.name_of l.items) l.compared;
  at_most : AtMostBelow name_cmp (map g.T.Named.name_of l.items) l.index l.highest;
  at_least : AtMostBelow name_cmp_back (map g.T.Named.name_of l.items) l.index l.lowest;
  ordered : is_le (name_cmp l.lowest l.highest) ≡ true;
  highest_text : shadow (Utf8 l.highest);
  lowest_text : shadow (Utf8 l.lowest);
}
