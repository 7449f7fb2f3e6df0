use Rattle.std.proofs.Common.{◌≡◌, ◌<◌, ◌||◌, ℕ, List, All, Some, None, ap, subst, sym, ◌∙◌}
use Rattle.facet_solver.specs.schema.IndexEntries.{selects_in}
use Rattle.facet_solver.specs.set.IndexSet.{IndexSet, has_index}
use Rattle.facet_solver.proofs.IndexSet.{none_pass}
use Rattle.facet_solver.proofs.Selected.{any_agree, filter_agree}
use Rattle.facet_solver.proofs.solver.tag.keep_variant.Goals as goal

pub returns-then-shares-clause-named : goal.returns-then-shares-clause-named
returns-then-shares-clause-named c =
    let members = c.args.candidates.now.members in
    let e = c.args.entry.now in
    let within = subst (λ b. All (λ i. i < b) members) c.requires.bound c.shares.ensures.within in
    sym c.if-shares.true ∙ c.shares.ensures.shared
    ∙ any_agree (has_index c.in-Some.named.now.members) (selects_in e (Some c.args.variant.now)) e.set.bound members within c.in-Some.ensures.is_named

pub returns-else-shares-clause-named : goal.returns-else-shares-clause-named
returns-else-shares-clause-named c =
    let members = c.args.candidates.now.members in
    let e = c.args.entry.now in
    let within = subst (λ b. All (λ i. i < b) members) c.requires.bound c.shares.ensures.within in
    sym c.if-shares.false ∙ c.shares.ensures.shared
    ∙ any_agree (has_index c.in-Some.named.now.members) (selects_in e (Some c.args.variant.now)) e.set.bound members within c.in-Some.ensures.is_named

pub returns-then-shares-clause-kept : goal.returns-then-shares-clause-kept
returns-then-shares-clause-kept c =
    let set = c.args.candidates.now in
    let e = c.args.entry.now in
    let variant = c.args.variant.now in
    let within = subst (λ b. All (λ i. i < b) set.members) c.requires.bound c.shares.ensures.within in
    let with_members : List ℕ → IndexSet = λ members. record { bound = set.bound; members = members } in
    c.keep_either.ensures
    ∙ ap with_members (filter_agree (λ i. has_index c.in-Some.named.now.members i || has_index c.in-Some.others.now.members i) (λ i. selects_in e (Some variant) i || selects_in e None i) e.set.bound set.members within c.in-Some.ensures.is_other)

pub returns-then-shares-clause-within : goal.returns-then-shares-clause-within
returns-then-shares-clause-within c = λ named. c.shares.ensures.within

pub returns-in_default-clause-named : goal.returns-in_default-clause-named
returns-in_default-clause-named c = none_pass (selects_in c.args.entry.now (Some c.args.variant.now)) c.args.candidates.now.members c.in_default.ensures
