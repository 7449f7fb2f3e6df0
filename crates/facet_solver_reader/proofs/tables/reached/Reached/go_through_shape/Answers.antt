use Rattle.std.proofs.Common.{sym, rules}
use Rattle.facet_solver_reader.specs.Views.{end_view}
use Rattle.facet_solver_reader.proofs.AllMet.{end_met}
use Rattle.facet_solver_reader.proofs.tables.reached.Reached.go_through_shape.Goals as goal

pub returns : goal.returns
returns c =
    let marked = c.in_ok-mark_end.ensures in
    let end = c.in_ok-end.end in
    record {
      added = marked.added;
      end = end;
      ends = search rules;
      same = c.in_ok-end.ensures;
      marked = marked.marked;
      met = λ strict root listed m h.
          marked.met strict root listed (end_met c.args.types.now strict root c.args.id m (end_view end) (sym c.in_ok-end.ensures)) h;
    }
