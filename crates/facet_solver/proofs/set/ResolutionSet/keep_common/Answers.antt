use Rattle.std.proofs.Common.{◌≡◌, ℕ, List, ◌&&◌, filter, get_or, ap, subst, ◌∙◌}
use Rattle.std.proofs.lemmas.Bool.{and_left}
use Rattle.facet_solver.specs.set.IndexSet.{IndexSet, has_index}
use Rattle.facet_solver.specs.set.Words.{has_bit, members_of, words_of}
use Rattle.facet_solver.proofs.Words.{has_members, members_kept}
use Rattle.facet_solver.proofs.SharedBits.{bit_of_and}
use Rattle.facet_solver.proofs.set.ResolutionSet.keep_common.Goals as goal

pub invariant_of-self : goal.invariant_of-self
invariant_of-self c =
    let words : List ℕ = words_of c.self.inside.words in
    let others : List ℕ = c.as_slice.result.now in
    let after : List ℕ = words_of c.keep.new.self in
    record {
      count = c.keep.ensures.len ∙ c.self.invariant.count;
      clear = λ i high.
          bit_of_and (λ k. get_or words k 0) (λ k. get_or others k 0) (λ k. get_or after k 0) i c.keep.ensures.kept
          ∙ and_left (has_bit words i) (has_bit others i) (c.self.invariant.clear i high);
      fits = c.self.invariant.fits;
    }

pub returns-clause-kept : goal.returns-clause-kept
returns-clause-kept c =
    let words : List ℕ = words_of c.self.inside.words in
    let others : List ℕ = words_of c.other.inside.words in
    let after : List ℕ = words_of c.keep.new.self in
    let with_members : List ℕ → IndexSet = λ members. record { bound = c.self.inside.bound; members = members } in
    let each : (i : ℕ) → has_bit after i ≡ (has_bit words i && has_index (members_of others) i) =
    λ i. bit_of_and (λ k. get_or words k 0) (λ k. get_or others k 0) (λ k. get_or after k 0) i (rw c.as_slice.ensures at c.keep.ensures.kept) ∙ ap (λ b. has_bit words i && b) (has_members others i) in
    let Q : IndexSet → Type 0 = λ s. with_members (members_of after) ≡ record { bound = s.bound; members = filter (has_index (members_of others)) s.members } in
    let R : IndexSet → Type 0 = λ o. with_members (members_of after) ≡ record { bound = c.args.self.now.bound; members = filter (has_index o.members) c.args.self.now.members } in
    subst R c.other.view_is (subst Q c.self.view_is (ap with_members (members_kept words after (has_index (members_of others)) c.keep.ensures.len each)))
