use Rattle.std.proofs.Common.{◌≡◌, ◌+◌, ◌-◌, ◌++◌, drop, length, map, take, sym, ap, ◌∙◌, append_assoc}
use Rattle.std.proofs.lemmas.List.{map-append, take_rest}
use Rattle.std.specs.Option.{option_to_list}
use Rattle.facet_solver_types.specs.Elsewhere.{taken, taken_at}
use Rattle.facet_solver_types.specs.PlacedNames.{names_in}
use Rattle.facet_solver_types.specs.Sites.{site_view}
use Rattle.facet_solver_types.specs.Tokens.{tokens_view}
use Rattle.facet_solver_types.specs.Understood.{declaration_view, declarations_view}
use Rattle.facet_solver_types.proofs.TakenTurns.{seen_alone, taken_turn}
use Rattle.facet_solver_types.proofs.declare.elsewhere.add_taken.Goals as goal

pub loop-at-preserved : goal.loop-at-preserved
loop-at-preserved c =
    let ts = c.args.tokens.now in
    let at = c.loop-at.at in
    let ds = names_in c.args.declared.now in
    let source = c.args.source in
    let site = site_view c.args.site in
    let found = declarations_view c.loop-at.found.items in
    let rest = taken ds source site (tokens_view (drop (at + 1) ts)) in
    let one = option_to_list (taken_at ds source site (tokens_view (drop at ts))) in
    let seen : map declaration_view (option_to_list c.taken_at.result) ≡ one =
    seen_alone declaration_view c.taken_at.result
    ∙ ap option_to_list (c.taken_at.ensures ∙ ap (λ l. taken_at ds source site (tokens_view l)) (take_rest ts at)) in
    let added : declarations_view c.add.new.found.items ≡ found ++ one =
    ap declarations_view c.in_ok-add.ensures
    ∙ map-append declaration_view c.loop-at.found.items (option_to_list c.taken_at.result)
    ∙ ap (λ l. found ++ l) seen in
    c.loop-at.invariant
    ∙ ap (λ l. found ++ l) (taken_turn ds source site ts at c.loop-at-test.true)
    ∙ sym (append_assoc found one rest)
    ∙ ap (λ l. l ++ rest) (sym added)
