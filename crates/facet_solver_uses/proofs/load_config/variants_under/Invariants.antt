use Rattle.std.proofs.Common.{◌≡◌, take}
use Rattle.facet_solver.specs.Names.{names_of}
use Rattle.facet_solver_uses.specs.LoadConfig.{AreKnown, each_once}
use Rattle.facet_solver_uses.proofs.LoadConfig.{variants_of_handles}
use Rattle.facet_solver_uses.proofs.load_config.variants_under.Given as goal

-- the variants that the handles so far have under the tag, which are known
abbrev pub invariant-loop-handle : goal.invariant-loop-handle
invariant-loop-handle l = record {
  told :
      names_of l.names.items
      ≡ each_once (variants_of_handles l.tag (take l.handle-index l.handle-items));
  known : AreKnown l.names.items l.known;
}
