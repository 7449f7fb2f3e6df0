use Rattle.std.proofs.Common.{◌≡◌, ℕ, List, true, false, ap, filter, sym, ◌∙◌}
use Rattle.std.specs.Prelude.{if◌then◌else◌}
use Rattle.facet_solver.specs.set.IndexSet.{IndexSet, has_index}
use Rattle.facet_solver.proofs.IndexSet.{any_passes, has_some}
use Rattle.facet_solver.proofs.Selected.{or_all_if}
use Rattle.facet_solver.proofs.solver.tag.keep_holders.Goals as goal

pub returns-then-shares-clause-kept : goal.returns-then-shares-clause-kept
returns-then-shares-clause-kept c =
    let set = c.args.candidates.now in
    let held = filter (has_index c.args.holders.now.members) set.members in
    let some : has_some held ≡ true = sym (any_passes (has_index c.args.holders.now.members) set.members) ∙ sym c.shares.ensures.shared ∙ c.if-shares.true in
    let with_members : List ℕ → IndexSet = λ members. record { bound = set.bound; members = members } in
    c.keep_common.ensures.kept ∙ ap with_members (sym (or_all_if held set.members ∙ ap (λ b. if b then held else set.members) some))

pub returns-else-shares-clause-kept : goal.returns-else-shares-clause-kept
returns-else-shares-clause-kept c =
    let set = c.args.candidates.now in
    let held = filter (has_index c.args.holders.now.members) set.members in
    let none : has_some held ≡ false = sym (any_passes (has_index c.args.holders.now.members) set.members) ∙ sym c.shares.ensures.shared ∙ c.if-shares.false in
    let with_members : List ℕ → IndexSet = λ members. record { bound = set.bound; members = members } in
    ap with_members (sym (or_all_if held set.members ∙ ap (λ b. if b then held else set.members) none))
