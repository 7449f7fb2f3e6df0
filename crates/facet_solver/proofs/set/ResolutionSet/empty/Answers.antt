use Rattle.std.proofs.Common.{ℕ, List, ap, ◌∙◌}
use Rattle.std.proofs.lemmas.List.{length-replicate}
use Rattle.facet_solver.specs.set.IndexSet.{IndexSet}
use Rattle.facet_solver.specs.set.Words.{members_of, word_count}
use Rattle.facet_solver.proofs.SharedBits.{no_members_of_zeros, zeros_clear}
use Rattle.facet_solver.proofs.set.ResolutionSet.empty.Goals as goal

pub invariant_of-result : goal.invariant_of-result
invariant_of-result c =
    rw c.in_ok-words.ensures.empty (record {
      count = length-replicate (word_count c.args.bound) 0;
      clear = λ i _. zeros_clear (word_count c.args.bound) i;
      fits = c.ranges.bound.fits;
    })

pub returns-clause-empty : goal.returns-clause-empty
returns-clause-empty c =
    let with_members : List ℕ → IndexSet = λ members. record { bound = c.args.bound; members = members } in
    ap with_members (ap members_of c.in_ok-words.ensures.empty ∙ no_members_of_zeros (word_count c.args.bound))
