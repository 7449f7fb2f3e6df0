use Rattle.std.proofs.Common.{refl, sym}
use Rattle.facet_solver_tool.specs.Lines.{all_answered, no_more}
use Rattle.facet_solver_tool.specs.Streams.{ran, streams}
use Rattle.facet_solver_tool.proofs.Written.{shows_both, tells_error}
use Rattle.facet_solver_tool.proofs.lines.answer_shown.Goals as goal

pub returns-in-Ok : goal.returns-in-Ok
returns-in-Ok g c =
    λ written.
    let all = c.in-Ok.ensures.all in
    let ended = c.end.ensures written all.0 all.1 in
    all_answered all.0 c.in-Ok.count all.2 all.1
    record {
      between = streams (g.O.Write.contents c.answer_each-answered.new.output) (g.E.Write.contents c.wipe.new.errors);
      answered = (all.3.0, shows_both c.args.is_shown _ _ _ all.3.1 c.in_default.ensures);
      output = refl;
      errors = ended.1;
    }
    ended.0

pub returns-in-Err-answered : goal.returns-in-Err-answered
returns-in-Err-answered g c =
    λ written.
    let input = g.I.Read.remaining c.args.input.now in
    let between = streams (g.O.Write.contents c.answer_each-answered.new.output) (g.E.Write.contents c.wipe.new.errors) in
    let after = streams (g.O.Write.contents c.tell_stop.new.output) (g.E.Write.contents c.tell_stop.new.errors) in
    let stopped = c.tell_stop.ensures written in
    let first = c.in-Err-answered.ensures.first stopped.0 in
    let tells = stopped.3 in
    let line = tells_error (ran input between after c.tell_stop.result) stopped.1 stopped.2 tells in
    no_more first.0 stopped.1 first.1 stopped.2
    record {
      between = between;
      answered = (first.2.0, shows_both c.args.is_shown _ _ _ first.2.1 c.in_default.ensures);
      output = line.1;
      errors = line.0;
    }
    (sym tells.0)
