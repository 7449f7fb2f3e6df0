use Rattle.std.proofs.Common.{◌≡◌, ℕ, List, ◌&&◌, ◌||◌, filter, get_or, ap, subst, ◌∙◌}
use Rattle.std.proofs.lemmas.Bool.{and_left}
use Rattle.facet_solver.specs.set.IndexSet.{IndexSet, has_index}
use Rattle.facet_solver.specs.set.Words.{has_bit, members_of, words_of}
use Rattle.facet_solver.proofs.Words.{has_members, members_kept}
use Rattle.facet_solver.proofs.SharedBits.{bit_of_either}
use Rattle.facet_solver.proofs.set.ResolutionSet.keep_either.Goals as goal

pub invariant_of-self : goal.invariant_of-self
invariant_of-self c =
    let words : List ℕ = words_of c.self.inside.words in
    let one : List ℕ = c.as_slice.result.now in
    let other : List ℕ = c.as_slice-2.result.now in
    let after : List ℕ = words_of c.keep_either.new.self in
    record {
      count = c.keep_either.ensures.len ∙ c.self.invariant.count;
      clear = λ i high.
          bit_of_either (λ k. get_or words k 0) (λ k. get_or one k 0) (λ k. get_or other k 0) (λ k. get_or after k 0) i c.keep_either.ensures.kept
          ∙ and_left (has_bit words i) (has_bit one i || has_bit other i) (c.self.invariant.clear i high);
      fits = c.self.invariant.fits;
    }

pub returns : goal.returns
returns c =
    let words : List ℕ = words_of c.self.inside.words in
    let one : List ℕ = words_of c.one.inside.words in
    let other : List ℕ = words_of c.other.inside.words in
    let after : List ℕ = words_of c.keep_either.new.self in
    let with_members : List ℕ → IndexSet = λ members. record { bound = c.self.inside.bound; members = members } in
    let each : (i : ℕ) → has_bit after i ≡ (has_bit words i && (has_index (members_of one) i || has_index (members_of other) i)) =
    λ i. bit_of_either (λ k. get_or words k 0) (λ k. get_or one k 0) (λ k. get_or other k 0) (λ k. get_or after k 0) i (rw (c.as_slice.ensures, c.as_slice-2.ensures) at c.keep_either.ensures.kept)
    ∙ (λ j. has_bit words i && (has_members one i j || has_members other i j)) in
    let Q : IndexSet → Type 0 = λ s. with_members (members_of after) ≡ record { bound = s.bound; members = filter (λ i. has_index (members_of one) i || has_index (members_of other) i) s.members } in
    let R : IndexSet → Type 0 = λ o. with_members (members_of after) ≡ record { bound = c.args.self.now.bound; members = filter (λ i. has_index o.members i || has_index (members_of other) i) c.args.self.now.members } in
    let S : IndexSet → Type 0 = λ o. with_members (members_of after) ≡ record { bound = c.args.self.now.bound; members = filter (λ i. has_index c.args.one.now.members i || has_index o.members i) c.args.self.now.members } in
    subst S c.other.view_is (subst R c.one.view_is (subst Q c.self.view_is (ap with_members (members_kept words after (λ i. has_index (members_of one) i || has_index (members_of other) i) c.keep_either.ensures.len each))))
