use Rattle.std.proofs.Common.{ℕ, List, ap, ◌∙◌, le-ltb}
use Rattle.facet_solver.specs.set.IndexSet.{IndexSet}
use Rattle.facet_solver.specs.set.Words.{words_of}
use Rattle.facet_solver.proofs.Words.{full_members}
use Rattle.facet_solver.proofs.set.ResolutionSet.full.Goals as goal

pub invariant_of-result : goal.invariant_of-result
invariant_of-result c =
    record {
      count = c.in_ok-words.ensures.count;
      clear = λ i high. c.in_ok-words.ensures.full i ∙ le-ltb i c.args.bound high;
      fits = c.ranges.bound.fits;
    }

pub returns-clause-full : goal.returns-clause-full
returns-clause-full c =
    let with_members : List ℕ → IndexSet = λ members. record { bound = c.args.bound; members = members } in
    ap with_members (full_members (words_of c.in_ok-words.words) c.args.bound (invariant_of-result c) c.in_ok-words.ensures.full)
