use Rattle.std.proofs.Common.{ap, sym, ◌∙◌}
use Rattle.facet_solver.specs.build.Count.{below_2_64}
use Rattle.facet_solver.proofs.laws.resolutions_are_counted.Goals as goal

pub returns : goal.returns
returns c = λ schema answer built counts. counts schema.build.format ∙ ap below_2_64 (sym built.counted)
