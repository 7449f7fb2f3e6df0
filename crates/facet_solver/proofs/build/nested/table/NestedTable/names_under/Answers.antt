use Rattle.std.proofs.Common.{◌≡◌, ◌∷◌, [], ◌≤◌, ℕ, Some, ap, arith, nat_lt, slice_get, subst, sym, ◌∙◌}
use Rattle.std.specs.Prelude.{◌&&◌}
use Rattle.std.proofs.lemmas.Option.{slice_get-get_or}
use Rattle.facet_solver.specs.build.Nested.{paths_of_each}
use Rattle.facet_solver.specs.build.NestedNames.{NamesLead, paths_of_names}
use Rattle.facet_solver.specs.build.NestedTable.{is_filled}
use Rattle.facet_solver.proofs.NestedFields.{each_at, leads_below}
use Rattle.facet_solver.proofs.NestedSets.{union-none}
use Rattle.facet_solver.proofs.NestedTable.{one_item}
use Rattle.facet_solver.proofs.build.nested.table.NestedTable.names_under.Goals as goal

pub returns-in-len1-clause-paths : goal.returns-in-len1-clause-paths
returns-in-len1-clause-paths c = λ under stand.
    let shapes = c.args.shapes.now in
    let id = c.only-item.result in
    let here : slice_get shapes 0 ≡ Some id = slice_get-get_or shapes 0 id (omega (arith, c.in-len1.len_at_least)) ∙ ap Some (sym c.only-item.is) in
    let only : shapes ≡ id ∷ [] = one_item shapes id (omega (arith, c.in-len1.len_at_least, c.in-len1.len_below)) here in
    ap (paths_of_names under) c.of_entry.ensures.names
    ∙ stand id c.under.result.now c.under.ensures
    ∙ sym (union-none (under id))
    ∙ ap (paths_of_each under) (sym only)

pub returns-in-len1-clause-lead : goal.returns-in-len1-clause-lead
returns-in-len1-clause-lead c = λ limit below.
    let shapes = c.args.shapes.now in
    let id = c.only-item.result in
    let here : slice_get shapes 0 ≡ Some id = slice_get-get_or shapes 0 id (omega (arith, c.in-len1.len_at_least)) ∙ ap Some (sym c.only-item.is) in
    let fields = c.under.result.now in
    let filled = is_filled c.args.self.now.by_index.items in
    subst (NamesLead (λ t. nat_lt t limit && filled t)) (sym c.of_entry.ensures.names)
    (leads_below filled id limit (each_at (λ (k : ℕ). k ≤ limit) shapes 0 id below here) fields (c.requires.earlier.under id fields c.under.ensures))

pub returns-in_ok-together-in_default-clause-lead :
    goal.returns-in_ok-together-in_default-clause-lead
returns-in_ok-together-in_default-clause-lead c = λ limit below.
    let filled = is_filled c.args.self.now.by_index.items in
    subst (NamesLead (λ t. nat_lt t limit && filled t)) (sym c.together.ensures.names) (c.in_ok-together-in_default.ensures.lead limit below)
