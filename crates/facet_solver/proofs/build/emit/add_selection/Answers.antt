use Rattle.facet_solver.proofs.Outcome.{taken-selection}
use Rattle.facet_solver.proofs.build.emit.add_selection.Goals as goal

pub returns : goal.returns
returns c = taken-selection c.args.resolution.now c.add_variant_selection.new.self _ (rw (← c.deref.ensures, ← c.deref-2.ensures) c.in_ok-add_variant_selection.ensures.ok)
