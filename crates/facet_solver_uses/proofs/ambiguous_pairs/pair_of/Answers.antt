use Rattle.std.proofs.Common.{ap, refl}
use Rattle.facet_solver_uses.specs.KeysToChoice.{keys_of}
use Rattle.facet_solver_uses.proofs.AmbiguousPairs.{shared_by, there_at}
use Rattle.facet_solver_uses.proofs.ambiguous_pairs.pair_of.Goals as goal

pub returns : goal.returns
returns c =
    let rs = c.args.resolutions.now in
    let r = c.index-resolutions-first.result in
    let s = c.index-resolutions-second.result in
    record {
      at_first = refl;
      at_second = refl;
      r = r;
      s = s;
      first_there = there_at rs c.args.first r c.requires.first c.index-resolutions-first.is;
      second_there = there_at rs c.args.second s c.requires.second c.index-resolutions-second.is;
      shared = shared_by r s (keys_of c.new-keys.result.items) (keys_of c.add_keys.new.keys.items) (keys_of c.add_keys-else-not-branch.new.keys.items)
          c.in_ok-add_keys.field-0 c.in_ok-add_keys-2.field-0 (ap keys_of c.new-keys.ensures.items) c.if-not-branch.false c.if-not-branch-2.false c.in_ok-add_keys.ensures c.in_ok-add_keys-2.ensures;
      only_first = c.in_ok-names_beside.ensures;
      only_second = c.in_ok-names_beside-2.ensures;
    }
