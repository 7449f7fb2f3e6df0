use Rattle.std.proofs.Common.{List, subst}
use Rattle.facet_solver_reader.specs.declared.plan.PlannedName.{PlannedName}
use Rattle.std.specs.List.{All}
use Rattle.facet_solver_checker.specs.Atoms.{NamesUnit}
use Rattle.facet_solver_checker.proofs.TextsApart.{no_character, no_such_unit, no_text_of}
use Rattle.facet_solver_checker.proofs.TextsApart.{other_tag, refused}
use Rattle.facet_solver_checker.proofs.texts.reads_no_word.Goals as goal

pub returns-in-Character : goal.returns-in-Character
returns-in-Character c = λ h.
    no_character c.args.end.now c.args.word.now c.in-Character.is
    (refused c.has_one_char.result _ c.has_one_char.ensures h)
