use Rattle.std.proofs.Common.{◌≤◌, length, rules, get_or, All, arith, subst}
use Rattle.std.proofs.lemmas.List.Elements.{All-contains_itself, All-nil}
use Rattle.facet_solver_checker.specs.Atoms.{HasOnward}
use Rattle.facet_solver_checker.proofs.AtomLists.{in_more, onward_next}
use Rattle.facet_solver_reader.proofs.Pairs.{take_past}
use Rattle.facet_solver_checker.proofs.atoms.Atoms.add_alternatives.Goals as goal

pub loop-alternative-init : goal.loop-alternative-init
loop-alternative-init c =
    record {
      kept = All-contains_itself c.args.self.now.each.items;
      added = All-nil (HasOnward c.args.lower.now c.args.self.now.each.items);
    }

pub loop-alternative-preserved : goal.loop-alternative-preserved
loop-alternative-preserved c =
    let old = c.loop-alternative.self.each.items in
    let new = c.add_alternative.new.self.each.items in
    record {
      kept = in_more c.args.self.now.each.items old new c.loop-alternative.invariant.kept
          c.in_ok-add_alternative.ensures.kept;
      added = onward_next c.args.lower.now old new c.args.alone.now
          c.loop-alternative.alternative-index
          _ c.loop-alternative-test.true c.in_ok-add_alternative.ensures.kept
          c.loop-alternative.invariant.added c.in_ok-add_alternative.ensures.added;
    }

pub returns-clause-added : goal.returns-clause-added
returns-clause-added c =
    let i = c.loop-alternative.alternative-index in
    let past : length c.args.alone.now ≤ i = omega (arith, c.loop-alternative-test.false) in
    subst (All (HasOnward c.args.lower.now c.loop-alternative.self.each.items))
    (take_past i c.args.alone.now past) c.loop-alternative.invariant.added
