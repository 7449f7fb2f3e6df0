use Rattle.std.proofs.Common.{List, ℕ, subst, sym}
use Rattle.std.specs.List.{Contains}
use Rattle.facet_solver_reader.specs.declared.plan.PlannedName.{PlannedName}
use Rattle.facet_solver_checker.specs.EndWays.{AreContentsAmong}
use Rattle.facet_solver_checker.proofs.EndWays.{map_ways, named_ways, nothing_ways}
use Rattle.facet_solver_checker.proofs.end_ways.ways_of_end.Goals as goal

pub returns-in_ok-targets-in-Map : goal.returns-in_ok-targets-in-Map
returns-in_ok-targets-in-Map c =
    map_ways c.args.plan.now c.in-Map.key c.in-Map.value c.args.name.now c.only.result
    c.args.end.now c.in-Map.is
    (λ k.
    subst (λ (ts : List ℕ). Contains ts c.in-Map.value) (sym c.only.ensures)
    (c.in_ok-targets-in-Map.ensures k))

pub returns-in_ok-targets-in-Named : goal.returns-in_ok-targets-in-Named
returns-in_ok-targets-in-Named c =
    let x = c.args.name.now in
    named_ways c.args.plan.now c.in-Named.names x c.only-in-Named.result c.args.end.now
    c.in-Named.is
    (subst (λ (ts : List ℕ). AreContentsAmong c.in-Named.names.items x ts)
    (sym c.only-in-Named.ensures)
    (subst (λ (ps : List PlannedName). AreContentsAmong ps x c.in_ok-targets-in-Named.targets.items)
    c.deref.ensures.value c.in_ok-targets-in-Named.ensures))

pub returns-in-Nothing : goal.returns-in-Nothing
returns-in-Nothing c =
    nothing_ways c.args.plan.now c.args.name.now c.only-in-Nothing.result c.args.end.now
    c.in-Nothing.is
