use Rattle.facet_solver.specs.build.Emissions.{emit_variant}
use Rattle.facet_solver.proofs.Outcome.{gives-exit, gives-next, error-next}
use Rattle.facet_solver.proofs.build.emit.emit_variant.Goals as goal

pub returns-in_err-add_selection : goal.returns-in_err-add_selection
unfolding emit_variant
returns-in_err-add_selection c =
    gives-exit c.from_residual-in_err-add_selection.result c.add_selection.new.resolution _ _ c.from_residual-in_err-add_selection.ensures.1
    (error-next c.args.resolution.now _ _ _ (rw c.in_ok-path.ensures at c.in_err-add_selection.ensures))

pub returns : goal.returns
unfolding emit_variant
returns c =
    gives-next c.emit_selector.result c.emit_selector.new.resolution c.args.resolution.now c.add_selection.new.resolution _ _ (rw c.in_ok-path.ensures at c.in_ok-add_selection.ensures) c.emit_selector.ensures
