use Rattle.std.proofs.Common.{inl, inr, refl, sym}
use Rattle.facet_solver_reader.specs.Steps.{place_below}
use Rattle.facet_solver_reader.specs.Views.{list_view}
use Rattle.facet_solver_reader.proofs.CountingObjects.{list_at, list_read}
use Rattle.facet_solver_reader.proofs.read.steps.Way.enter.Goals as goal

pub returns-clause-entered : goal.returns-clause-entered
returns-clause-entered c outer =
    let t = c.args.tables.now in
    let id = list_view c.args.branch.now in
    let read = list_read t id c.in-Some.index c.index-list.result.now
    (list_at t id c.in-Some.index c.in-Some.ensures c.requires.served) c.index-list.ensures in
    record {
      frame = record { list = c.index-list.result; next = 0; place = c.in_ok-place.place };
      index = c.in-Some.index;
      is_at = sym c.in-Some.ensures;
      listed = read.0;
      same = read.1;
      first = refl;
      place_is = c.in_ok-place.ensures.place;
      frames_are = inl refl;
    }

pub returns-then-not-tells-clause-entered : goal.returns-then-not-tells-clause-entered
returns-then-not-tells-clause-entered c outer =
    let t = c.args.tables.now in
    let id = list_view c.args.branch.now in
    let read = list_read t id c.in-Some.index c.index-list.result.now
    (list_at t id c.in-Some.index c.in-Some.ensures c.requires.served) c.index-list.ensures in
    record {
      frame = record {
        list = c.index-list.result;
        next = 0;
        place = place_below t.shapes.now c.args.path c.args.field.now id;
      };
      index = c.in-Some.index;
      is_at = sym c.in-Some.ensures;
      listed = read.0;
      same = read.1;
      first = refl;
      place_is = refl;
      frames_are = inr (refl, c.tells.ensures.nothing c.if-not-tells.true);
    }
