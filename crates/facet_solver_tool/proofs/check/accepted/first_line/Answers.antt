use Rattle.std.proofs.Common.{◌∙◌, ◌∷◌, ap, sym, take}
use Rattle.facet_solver_tool.specs.InputLines.{lines_of}
use Rattle.facet_solver_tool.proofs.CutLines.{first_cut, last_cut}
use Rattle.facet_solver_tool.proofs.check.accepted.first_line.Goals as goal

pub returns-in-Some-clause-first : goal.returns-in-Some-clause-first
returns-in-Some-clause-first c =
    let bytes = c.args.bytes.now in
    first_cut bytes c.in-Some.end c.in-Some.ensures
    ∙ ap (λ rest. take c.in-Some.end bytes ∷ lines_of rest) (sym c.split_at.ensures.back)

pub returns-in-None-clause-last : goal.returns-in-None-clause-last
returns-in-None-clause-last c = λ same. last_cut c.args.bytes.now c.in-None.ensures
