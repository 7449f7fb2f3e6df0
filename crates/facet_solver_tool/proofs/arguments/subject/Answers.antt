use Rattle.std.proofs.Common.{◌∙◌, ap, option_map, subst, sym}
use Rattle.facet_solver_shape.specs.Names.{names_of}
use Rattle.facet_solver_tool.specs.Requests.{Names, is_option, named, unless_option}
use Rattle.facet_solver_tool.proofs.Words.{find_said}
use Rattle.facet_solver_tool.proofs.arguments.subject.Goals as goal

pub returns-in-Some : goal.returns-in-Some
returns-in-Some c =
    let words = c.args.words.now in
    ap (λ o. unless_option o (named (names_of words)))
    (sym (find_said is_option (λ w. w.now) words) ∙ ap (option_map (λ w. w.now)) (sym c.in-Some.ensures))

pub returns-in-None : goal.returns-in-None
returns-in-None c =
    let words = c.args.words.now in
    subst (λ o. Names (unless_option o (named (names_of words))) c.named.result)
    (ap (option_map (λ w. w.now)) c.in-None.ensures ∙ find_said is_option (λ w. w.now) words)
    c.named.ensures
