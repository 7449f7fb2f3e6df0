use Rattle.std.proofs.Common.{◌≡◌, ◌<◌, List, ℕ, All, filter, subst, ◌∙◌}
use Rattle.facet_solver.specs.set.IndexSet.{IndexSet, has_index}
use Rattle.facet_solver.specs.set.SharedBits.{common_from}
use Rattle.facet_solver.specs.set.Words.{members_of, words_of}
use Rattle.facet_solver.proofs.Words.{members_within}
use Rattle.facet_solver.proofs.SharedBits.{members_common}
use Rattle.facet_solver.proofs.set.ResolutionSet.common.Goals as goal

pub returns-clause-members : goal.returns-clause-members
returns-clause-members c =
    let words : List ℕ = words_of c.self.inside.words in
    let others : List ℕ = words_of c.other.inside.words in
    let Q : IndexSet → Type 0 = λ s. common_from words others 0 ≡ filter (has_index (members_of others)) s.members in
    let R : IndexSet → Type 0 = λ o. common_from words others 0 ≡ filter (has_index o.members) c.args.self.now.members in
    c.new.ensures.items ∙ (λ j. common_from (c.as_slice.ensures j) (c.as_slice-2.ensures j) 0) ∙ subst R c.other.view_is (subst Q c.self.view_is (members_common words others))

pub returns-clause-within : goal.returns-clause-within
returns-clause-within c =
    let P : IndexSet → Type 0 = λ s. All (λ i. i < s.bound) s.members in
    subst P c.self.view_is (members_within (words_of c.self.inside.words) c.self.inside.bound c.self.invariant)
