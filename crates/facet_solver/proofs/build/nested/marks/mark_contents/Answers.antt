use Rattle.facet_solver.specs.build.Build.{kind_at}
use Rattle.facet_solver.specs.build.Nested.{every_kind}
use Rattle.facet_solver.proofs.Marks.{asks_kept}
use Rattle.facet_solver.proofs.build.nested.marks.mark_contents.Goals as goal

pub returns-clause-asked : goal.returns-clause-asked
returns-clause-asked c = λ id m.
    let cat = c.args.shapes.now in
    asks_kept every_kind cat c.mark_asked_by.new.marks c.close_marks.new.marks c.close_marks.ensures.kept (kind_at cat id) (c.mark_asked_by.ensures.asked id m)

pub returns-clause-least : goal.returns-clause-least
returns-clause-least c = λ others among asked closed. c.close_marks.ensures.least others (c.mark_asked_by.ensures.least others among asked) closed
