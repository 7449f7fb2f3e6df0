use Rattle.std.proofs.Common.{◌≡◌, ◌≤◌, drop}
use Rattle.facet_solver_types.specs.Derives.{derives, derives_from}
use Rattle.facet_solver_types.specs.Tokens.{tokens_view}
use Rattle.facet_solver_types.proofs.declare.derived.derives.Given as goal

-- what is sought of all is that of the rest, which stands so
abbrev pub invariant-loop-at : goal.invariant-loop-at
invariant-loop-at l = record {
  rest : derives l.derive (tokens_view l.attributes)
      ≡ derives_from l.derive l.around (tokens_view (drop l.at l.attributes));
  within : l.around.brackets ≤ l.at;
}
