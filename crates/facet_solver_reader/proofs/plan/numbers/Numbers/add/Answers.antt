use Rattle.std.proofs.Common.{◌≡◌, arith, length}
use Rattle.facet_solver_reader.proofs.PlanNumbers.{found_put, lacks}
use Rattle.facet_solver_reader.proofs.plan.numbers.Numbers.add.Goals as goal

pub returns-in_ok-push-clause-found : goal.returns-in_ok-push-clause-found
returns-in_ok-push-clause-found c =
    let next : c.len.result ≡ length c.args.self.now.targets.items =
    omega (arith, c.len.ensures, c.args.self.now.targets.ok.0) in
    found_put c.args.self.now (record { targets = c.push.new.self; by_target = c.insert.new.self })
    c.args.target.now c.len.result c.requires
    (lacks c.find.result _ _ c.is_none.result c.find.ensures c.is_none.ensures c.if-is_none.true)
    next c.in_ok-push.ensures.items c.in_ok-insert.ensures.updates.0
