use Rattle.std.proofs.lemmas.List.Sums.{fold_push}
use Rattle.facet_solver.specs.solver.Run.{after_call}
use Rattle.facet_solver.specs.solver.State.{see_key}
use Rattle.facet_solver.proofs.Told.{same_schema}
use Rattle.facet_solver.proofs.laws.calls_are_made_one_by_one.Goals as goal

pub returns-clause-keys : goal.returns-clause-keys
returns-clause-keys c keys key s = fold_push (λ now key. see_key key now) s keys key

pub returns-clause-calls : goal.returns-clause-calls
returns-clause-calls c calls call s = fold_push (λ now call. after_call call now) s calls call

pub returns-clause-schema : goal.returns-clause-schema
returns-clause-schema c = same_schema
