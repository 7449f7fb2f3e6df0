use Rattle.std.proofs.Common.{◌∙◌, ap, cond, sym}
use Rattle.facet_solver_reader.specs.declared.reader.Unknown.TheVariants.{Ignored, Refused}
use Rattle.facet_solver_tool.specs.Requests.{is_strict}
use Rattle.facet_solver_tool.proofs.Words.{any_said}
use Rattle.facet_solver_tool.proofs.arguments.unknown.Goals as goal

pub returns-then-has_strict : goal.returns-then-has_strict
returns-then-has_strict c =
    ap (λ b. cond b Refused Ignored)
    (sym c.if-has_strict.true ∙ c.has_strict.ensures ∙ any_said is_strict (λ w. w.now) c.args.words.now)

pub returns-else-has_strict : goal.returns-else-has_strict
returns-else-has_strict c =
    ap (λ b. cond b Refused Ignored)
    (sym c.if-has_strict.false ∙ c.has_strict.ensures ∙ any_said is_strict (λ w. w.now) c.args.words.now)
