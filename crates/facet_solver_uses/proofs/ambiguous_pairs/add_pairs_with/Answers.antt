use Rattle.std.proofs.Common.{◌≡◌, ◌<◌, length, arith, List, [], ◌∷◌, ◌++◌, ap, subst, sym, ◌∙◌}
use Rattle.facet_solver.specs.Resolved.{Resolved}
use Rattle.facet_solver_uses.specs.AmbiguousPairs.{ListsPairs, PairsIfAny, pairs_with}
use Rattle.facet_solver_uses.specs.declared.ambiguous_pairs.AmbiguousPair.{AmbiguousPair}
use Rattle.facet_solver_uses.proofs.AmbiguousPairs.{at_pair, left_out, listed, no_pair, one_more}
use Rattle.facet_solver_uses.proofs.ambiguous_pairs.add_pairs_with.Goals as goal
use Rattle.facet_solver_uses.proofs.ambiguous_pairs.add_pairs_with.Goals.{in-Some+in_ok-push, in_default}

pub loop-first-preserved : goal.loop-first-preserved
loop-first-preserved c = λ all told.
    let schema = c.args.schema.now in
    let rs = c.resolutions-resolutions.result.now in
    let first = c.loop-first.first in
    let second = c.args.second in
    let same : rs ≡ schema.resolutions = c.resolutions-resolutions.ensures.resolutions in
    let behind = all ++ pairs_with second first in
    let so_far = c.loop-first.invariant all told in
    let law = c.shared_keys_leave_both_viable.ensures in
    one_more schema all second first c.match-branch-2.pairs.items
    (elim c.match-branch-2.branch [
      | in-Some+in_ok-push w ↦
          let found = subst (PairsIfAny rs first second) w.in-Some.is c.in_ok-pair.ensures in
          let pair = at_pair schema rs same first second w.in-Some.pair found (law.by_keys schema) in
          subst (λ (ps : List AmbiguousPair). ListsPairs schema (behind ++ (first, second) ∷ []) ps)
          (sym (ap (λ v. v.items) w.pairs-is ∙ w.in_ok-push.ensures.items))
          (listed schema (first, second) behind c.loop-first.pairs.items w.in-Some.pair so_far pair)
      | in_default w ↦
          let missed = subst (PairsIfAny rs first second) w.in_default.is c.in_ok-pair.ensures in
          let low : first < length rs = subst (λ (qs : List Resolved). first < length qs) (sym same) (omega (arith, c.requires, c.loop-first-test.true)) in
          let lower : second < length rs = subst (λ (qs : List Resolved). second < length qs) (sym same) c.requires in
          let apart = no_pair schema rs same first second low lower missed (λ i j r s at_r at_s can. (law.exactly schema i j r s at_r at_s).0 can) in
          subst (λ (ps : List AmbiguousPair). ListsPairs schema (behind ++ (first, second) ∷ []) ps)
          (sym (ap (λ v. v.items) w.pairs-is))
          (left_out schema (first, second) behind c.loop-first.pairs.items so_far apart)
    ])
