use Rattle.std.proofs.Common.{All, List, subst}
use Rattle.facet_solver_reader.specs.declared.plan.PlannedName.{PlannedName}
use Rattle.facet_solver_checker.specs.Apartness.{IsNoUnit}
use Rattle.facet_solver_checker.proofs.EndsApart.{no_text}
use Rattle.facet_solver_checker.proofs.TextsApart.{refused, tag_apart, units_apart}
use Rattle.facet_solver_checker.proofs.texts.words_apart.Goals as goal

pub returns-in-Tag : goal.returns-in-Tag
returns-in-Tag c = λ h.
    tag_apart c.in-Tag.name c.args.first.now c.args.second.now c.in-Tag.is
    (c.reads_no_word.ensures h)

pub returns-in-Named : goal.returns-in-Named
returns-in-Named c = λ h.
    units_apart c.in-Named.names c.args.first.now c.args.second.now c.in-Named.is
    (subst (λ (ps : List PlannedName). All (IsNoUnit c.args.second.now) ps) c.deref.ensures.value
    (c.reads_no_unit.ensures h))

pub returns-in_default : goal.returns-in_default
returns-in_default c = λ h.
    no_text c.args.first.now c.args.second.now
    (refused c.reads_text.result _ c.reads_text.ensures h)
