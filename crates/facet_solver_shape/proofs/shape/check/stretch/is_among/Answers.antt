use Rattle.std.proofs.Common.{◌∙◌}
use Rattle.facet_solver_shape.proofs.RepeatedNames.{found_by_halving}
use Rattle.facet_solver_shape.proofs.shape.check.stretch.is_among.Goals as goal

pub returns : goal.returns
returns c =
    c.is_ok.ensures.value ∙ found_by_halving c.args.names.now c.args.name.now c.binary_search.result c.requires c.binary_search.ensures.bound c.binary_search.ensures.position
