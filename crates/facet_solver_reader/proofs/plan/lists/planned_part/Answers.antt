use Rattle.std.proofs.Common.{subst, sym}
use Rattle.facet_solver_reader.specs.declared.part.Part.{Part}
use Rattle.facet_solver_reader.specs.declared.plan.PlannedPart.TheVariants as planned
use Rattle.facet_solver_reader.specs.PlannedLists.{IsPartFrom}
use Rattle.facet_solver_reader.specs.Tables.{PartIsServed}
use Rattle.facet_solver_reader.specs.Views.{catch_all_view, part_view}
use Rattle.facet_solver_reader.proofs.Plans.{catch_all_numbered}
use Rattle.facet_solver_reader.proofs.plan.lists.planned_part.Goals as goal

pub returns-in-Member-clause-part : goal.returns-in-Member-clause-part
returns-in-Member-clause-part c =
    let t = c.args.tables.now in
    let n = c.args.numbers.now in
    subst (λ (p : Part). IsPartFrom t n (part_view p) (planned.Member c.planned_member.result))
    (sym c.in-Member.is) (record { planned = c.planned_member.ensures t; indices = tt })

pub planned_catch_all-requires-clause-numbered : goal.planned_catch_all-requires-clause-numbered
planned_catch_all-requires-clause-numbered c =
    let t = c.args.tables.now in
    catch_all_numbered t c.args.numbers.now (catch_all_view c.in-CatchAll.catch_all) c.requires.numbers
    (subst (λ (p : Part). PartIsServed t (part_view p)) c.in-CatchAll.is c.requires.served)

pub returns-in-CatchAll-clause-part : goal.returns-in-CatchAll-clause-part
returns-in-CatchAll-clause-part c =
    let t = c.args.tables.now in
    let n = c.args.numbers.now in
    subst (λ (p : Part). IsPartFrom t n (part_view p) (planned.CatchAll c.planned_catch_all.result))
    (sym c.in-CatchAll.is) (record { planned = c.planned_catch_all.ensures t; indices = tt })
