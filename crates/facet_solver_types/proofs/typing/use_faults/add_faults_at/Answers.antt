use Rattle.std.proofs.Common.{◌≤◌, [], ◌++◌, ap, append-nil, arith, length, sym, ◌∙◌}
use Rattle.std.proofs.lemmas.Option.{slice_get_past}
use Rattle.std.specs.Option.{option_map_or}
use Rattle.facet_solver_types.specs.Understood.{declaration_view}
use Rattle.facet_solver_types.specs.UseFaults.{own_faults}
use Rattle.facet_solver_types.proofs.UseTurns.{unseen_at}
use Rattle.facet_solver_types.proofs.typing.use_faults.add_faults_at.Goals as goal

pub returns-in-None : goal.returns-in-None
returns-in-None c =
    let faults = c.args.faults.now.items in
    let ds = c.args.declarations.now in
    let past : length ds ≤ c.args.index = omega (arith, c.in-None.ensures.lookup) in
    sym (ap (λ o. faults ++ option_map_or own_faults o [])
    (unseen_at declaration_view ds c.args.index (slice_get_past ds c.args.index past))
    ∙ append-nil faults)
