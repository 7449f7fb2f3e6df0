use Rattle.std.proofs.Common.{◌≡◌, sym, subst, length, arith}
use Rattle.std.proofs.lemmas.List.{length-map}
use Rattle.facet_solver_reader.specs.Branches.{Fits}
use Rattle.facet_solver_reader.specs.Reading.{object_view}
use Rattle.facet_solver_reader.specs.Readings.{ReadsValue}
use Rattle.facet_solver_reader.specs.Tables.{rules_at}
use Rattle.facet_solver_reader.specs.Views.{list_view, selection_view}
use Rattle.facet_solver_reader.proofs.CountingObjects.{list_at, list_read}
use Rattle.facet_solver_reader.proofs.Selections.{only_fits}
use Rattle.facet_solver_reader.proofs.read.steps.is_sure.Goals as goal

pub returns-then-len-eq1 : goal.returns-then-len-eq1
returns-then-len-eq1 c is =
    let t = c.args.tables.now in
    let id = list_view c.args.branch in
    let s = selection_view c.args.selection.now in
    let read = list_read t id c.in-Some.index c.index-list.result.now
    (list_at t id c.in-Some.index c.in-Some.ensures c.requires.branch) c.index-list.ensures in
    let one : length s.branches ≡ 1 =
    omega (
      arith,
      length-map c.args.selection.now.branches.items list_view,
      c.len.ensures,
      c.if-len-eq1.true,
    ) in
    record {
      list = c.index-list.result.now;
      index = c.in-Some.index;
      is_at = sym c.in-Some.ensures;
      listed = read.0;
      same = read.1;
      tells = λ n. c.tells.ensures.some c.if-not-tells.false n;
      fits = only_fits (rules_at t) (ReadsValue (rules_at t))
          (object_view c.args.nodes.now c.args.object.now) s c.requires.at.0 id c.requires.at.1 one;
    }

pub returns-else-len-eq1 : goal.returns-else-len-eq1
returns-else-len-eq1 c fits =
    let t = c.args.tables.now in
    let id = list_view c.args.branch in
    let s = selection_view c.args.selection.now in
    let read = list_read t id c.in-Some.index c.index-list.result.now
    (list_at t id c.in-Some.index c.in-Some.ensures c.requires.branch) c.index-list.ensures in
    record {
      list = c.index-list.result.now;
      index = c.in-Some.index;
      is_at = sym c.in-Some.ensures;
      listed = read.0;
      same = read.1;
      tells = λ n. c.tells.ensures.some c.if-not-tells.false n;
      fits = subst (Fits (rules_at t) (object_view c.args.nodes.now c.args.object.now) s) read.1
          (c.fits.ensures.yes fits);
    }
