use Rattle.std.proofs.Common.{◌≡◌, ◌++◌, ℕ, sym, ap, ◌∙◌, subst, Contains, List, MatchOption}
use Rattle.std.specs.Bool.{⊤}
use Rattle.facet_solver_reader.specs.Views.{list_view}
use Rattle.facet_solver_reader.proofs.Gathered.{closed_more, entry_index, self_gathered}
use Rattle.facet_solver_reader.proofs.tables.order.Ordered.gather_list.Goals as goal

pub returns-clause-closed : goal.returns-clause-closed
returns-clause-closed c =
    let o = c.args.self.now in
    let l = c.in-Some.list.now in
    let old = c.args.gathered.now.items in
    let new = c.extend_from_slice.new.self.items in
    let e = entry_index o (list_view c.args.id.now) l (sym c.in-Some.ensures) in
    let is : new ≡ old ++ l.below.items =
    c.in_ok-extend_from_slice.ensures.items ∙ ap (λ (is : List ℕ). old ++ is) c.deref.ensures.value in
    closed_more c.requires.placing.0 o c.requires.placing.1 old new c.requires.closed e.0 l e.2 is

pub returns-clause-among : goal.returns-clause-among
returns-clause-among c =
    let o = c.args.self.now in
    let l = c.in-Some.list.now in
    let old = c.args.gathered.now.items in
    let new = c.extend_from_slice.new.self.items in
    let e = entry_index o (list_view c.args.id.now) l (sym c.in-Some.ensures) in
    let is : new ≡ old ++ l.below.items =
    c.in_ok-extend_from_slice.ensures.items ∙ ap (λ (is : List ℕ). old ++ is) c.deref.ensures.value in
    subst (λ i. MatchOption i ⊤ (Contains new)) (sym e.1)
    (self_gathered c.requires.placing.0 o c.requires.placing.1 old new c.requires.closed e.0 l e.2 is)
