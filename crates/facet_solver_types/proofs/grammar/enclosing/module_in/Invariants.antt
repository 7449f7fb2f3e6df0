use Rattle.std.proofs.Common.{◌≡◌, drop}
use denote.Shadow.{shadow}
use denote.Text.{Utf8}
use Rattle.std.specs.List.{fold}
use Rattle.facet_solver_types.specs.Enclosings.{around_view, module_in, module_or}
use Rattle.facet_solver_types.proofs.grammar.enclosing.module_in.Given as goal

-- the name is that of those so far, and goes on with the others
abbrev pub invariant-loop-enclosing : goal.invariant-loop-enclosing
invariant-loop-enclosing l = record {
  rest : module_in (around_view l.around)
      ≡ fold module_or l.module_name (around_view (drop l.enclosing-index l.around));
  is_text : shadow (Utf8 l.module_name);
}
