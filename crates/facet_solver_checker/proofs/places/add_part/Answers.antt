use Rattle.std.proofs.Common.{◌∙◌, OnOk, ℕ, length, subst}
use Rattle.facet_solver_checker.specs.Forks.{AreSettled, HasWays}
use Rattle.facet_solver_checker.proofs.SettledPlaces.{no_ways, on_ok, ways_settled}
use Rattle.facet_solver_checker.proofs.places.add_part.Goals as goal

pub returns-in-Selection-clause-settled : goal.returns-in-Selection-clause-settled
returns-in-Selection-clause-settled c =
    let plan = c.args.tables.now.plan.now in
    let apart = c.args.tables.now.apart.now in
    let places = c.add_pairs.new.places.items in
    let p = c.in-Selection.selection in
    on_ok c.add_pairs.result (AreSettled plan apart places c.args.fork (length p.branches.items))
    ((n : ℕ) → HasWays c.args.part.now n → AreSettled plan apart places c.args.fork n)
    (ways_settled plan apart places c.args.fork c.args.part.now p c.in-Selection.is)
    (subst (λ k. OnOk c.add_pairs.result (AreSettled plan apart places c.args.fork k))
    (c.len.ensures ∙ p.branches.ok.0) c.add_pairs.ensures.settled)

pub returns-in_default-clause-settled : goal.returns-in_default-clause-settled
returns-in_default-clause-settled c = λ n w.
    absurd (no_ways c.args.part.now (λ p. c.in_default.not-Selection p) n w)
