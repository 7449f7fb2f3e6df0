use Rattle.std.proofs.Common.{◌≡◌, ℕ, List, ◌||◌, ◌<◌, ◌/◌, nat_eq, filter, length, ap, subst, ◌∙◌, arith, ne_eqb}
use Rattle.std.proofs.Math.ListN.{length-set}
use Rattle.facet_solver.specs.set.IndexSet.{IndexSet, has_index, upto}
use Rattle.facet_solver.specs.set.Words.{has_bit, members_of, words_of}
use Rattle.facet_solver.proofs.SharedBits.{insert_has, members_more}
use Rattle.facet_solver.proofs.set.ResolutionSet.insert.Goals as goal

pub invariant_of-self : goal.invariant_of-self
invariant_of-self c =
    let bound : IndexSet → ℕ = λ s. s.bound in
    let same : c.self.inside.bound ≡ c.args.self.now.bound = ap bound c.self.view_is in
    let words : List ℕ = words_of c.self.inside.words in
    let full = c.self.invariant.count in
    let room : c.args.index / 64 < length words = omega arith in
    record {
      count = ap length c.insert.ensures ∙ length-set words _ _ ∙ full;
      clear = λ i high.
          ap (λ ws. has_bit ws i) c.insert.ensures ∙ insert_has words c.args.index i room
          ∙ rw (ne_eqb i c.args.index (λ e. omega arith)) (c.self.invariant.clear i high);
      fits = c.self.invariant.fits;
    }

pub returns : goal.returns
returns c =
    let bound : IndexSet → ℕ = λ s. s.bound in
    let same : c.self.inside.bound ≡ c.args.self.now.bound = ap bound c.self.view_is in
    let words : List ℕ = words_of c.self.inside.words in
    let after : List ℕ = words_of c.insert.new.self in
    let full = c.self.invariant.count in
    let room : c.args.index / 64 < length words = omega arith in
    let with_members : List ℕ → IndexSet = λ members. record { bound = c.self.inside.bound; members = members } in
    let Q : IndexSet → Type 0 = λ s. with_members (members_of after) ≡ record { bound = s.bound; members = filter (λ i. nat_eq i c.args.index || has_index s.members i) (upto s.bound) } in
    subst Q c.self.view_is
    (ap with_members
    (members_more words after c.self.inside.bound c.args.index (invariant_of-self c)
    (λ i. ap (λ ws. has_bit ws i) c.insert.ensures ∙ insert_has words c.args.index i room)))
