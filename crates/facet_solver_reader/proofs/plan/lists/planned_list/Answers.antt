use Rattle.std.proofs.Common.{◌∙◌, All, List, refl, subst, sym}
use Rattle.facet_solver_reader.specs.declared.part.Part.{Part}
use Rattle.facet_solver_reader.specs.PlannedLists.{IsPartFrom}
use Rattle.facet_solver_reader.specs.PlanNumbers.{PartIsNumbered}
use Rattle.facet_solver_reader.specs.Plans.{AreInPairs}
use Rattle.facet_solver_reader.specs.SelectionNames.{PartHasBranchNames}
use Rattle.facet_solver_reader.specs.Tables.{PartIsServed, rules_at}
use Rattle.facet_solver_reader.specs.Views.{parts_view}
use Rattle.facet_solver_reader.proofs.Plans.{list_from, listed_named, listed_numbered, listed_served}
use Rattle.facet_solver_reader.proofs.plan.lists.planned_list.Goals as goal

pub planned_parts-requires-clause-served : goal.planned_parts-requires-clause-served
planned_parts-requires-clause-served c =
    let t = c.args.tables.now in
    subst (λ (ps : List Part). All (PartIsServed t) (parts_view ps)) (sym c.deref.ensures.value)
    (listed_served t c.args.numbers.now c.args.list.now c.requires.listed c.requires.tables)

pub planned_parts-requires-clause-numbered : goal.planned_parts-requires-clause-numbered
planned_parts-requires-clause-numbered c =
    let n = c.args.numbers.now in
    subst (λ (ps : List Part). All (PartIsNumbered n) (parts_view ps)) (sym c.deref.ensures.value)
    (listed_numbered c.args.tables.now n c.args.list.now c.requires.listed c.requires.numbers)

pub planned_parts-requires-clause-names : goal.planned_parts-requires-clause-names
planned_parts-requires-clause-names c =
    let t = c.args.tables.now in
    subst (λ (ps : List Part). All (PartHasBranchNames (rules_at t).lists) ps) (sym c.deref.ensures.value)
    (listed_named t c.args.numbers.now c.args.list.now c.requires.listed c.requires.tables)

pub returns : goal.returns
returns c =
    let t = c.args.tables.now in
    let n = c.args.numbers.now in
    let l = c.args.list.now in
    list_from t n c.requires.listed.0 l _ c.requires.tables c.requires.listed.1
    (subst (λ (ps : List Part). AreInPairs (IsPartFrom t n) (parts_view ps) c.in_ok-parts.parts.items)
    c.deref.ensures.value c.in_ok-parts.ensures.parts)
    c.name_of_list.ensures c.in_ok-parts.ensures.fields
    (c.in_ok-names.ensures.items ∙ c.deref-2.ensures.value) refl
    (c.in_ok-below.ensures.items ∙ c.deref-3.ensures.value)
