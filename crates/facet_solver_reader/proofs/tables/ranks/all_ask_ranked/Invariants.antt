use Rattle.std.proofs.Common.{◌≡◌, map, true}
use Rattle.facet_solver_reader.specs.Ranked.{is_alternative_marked}
use Rattle.facet_solver_reader.specs.Views.{alternative_view}
use Rattle.facet_solver_reader.proofs.Marks.{EachBefore}
use Rattle.facet_solver_reader.proofs.tables.ranks.all_ask_ranked.Given as goal

-- those before this one do
abbrev pub invariant-loop-alternative : goal.invariant-loop-alternative
invariant-loop-alternative l =
    EachBefore (λ a. is_alternative_marked l.types l.is_ranked a ≡ true) (map alternative_view l.alone) l.alternative-index
