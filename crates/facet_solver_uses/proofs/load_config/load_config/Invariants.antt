use Rattle.std.proofs.Common.{◌≡◌, map, take}
use Rattle.facet_solver.specs.Keys.{key_of}
use Rattle.facet_solver_uses.specs.LoadConfig.{told}
use Rattle.facet_solver_uses.proofs.load_config.load_config.Given as goal

-- the keys so far were seen, behind the tag and the text under it
abbrev pub invariant-loop-key : goal.invariant-loop-key
invariant-loop-key l =
    l.solver ≡ told l.schema l.tag l.variant (map key_of (take l.key-index l.keys))
