use Rattle.std.proofs.Common.{◌≤◌, length, get_or, take, rules, arith, subst, sym}
use Rattle.std.specs.List.{Contains, All}
use Rattle.std.proofs.lemmas.List.Elements.{All-contains_itself, All-more, All-nil}
use Rattle.facet_solver_checker.specs.declared.atoms.Atom.TheVariants.{Null}
use Rattle.facet_solver_checker.proofs.AtomLists.{in_more}
use Rattle.facet_solver_reader.proofs.Pairs.{take_past}
use Rattle.facet_solver_checker.proofs.atoms.Atoms.add_all.Goals as goal

pub loop-atom-init : goal.loop-atom-init
loop-atom-init c =
    record {
      kept = All-contains_itself c.args.self.now.each.items;
      added = All-nil (Contains c.args.self.now.each.items);
    }

pub loop-atom-preserved : goal.loop-atom-preserved
loop-atom-preserved c =
    let old = c.loop-atom.self.each.items in
    let new = c.add.new.self.each.items in
    let xs = c.args.atoms.now in
    record {
      kept = in_more c.args.self.now.each.items old new c.loop-atom.invariant.kept
          c.in_ok-add.ensures.kept;
      added = All-more (Contains new) xs c.loop-atom.atom-index Null
          c.loop-atom-test.true
          (in_more (take c.loop-atom.atom-index xs) old new c.loop-atom.invariant.added
          c.in_ok-add.ensures.kept) c.in_ok-add.ensures.added;
    }

pub returns-clause-added : goal.returns-clause-added
returns-clause-added c =
    let past : length c.args.atoms.now ≤ c.loop-atom.atom-index =
    omega (arith, c.loop-atom-test.false) in
    subst (All (Contains c.loop-atom.self.each.items))
    (take_past c.loop-atom.atom-index c.args.atoms.now past)
    c.loop-atom.invariant.added
