use Rattle.std.proofs.Common.{◌≡◌, ◌∙◌, ◌++◌, ◌+◌, Some, None, Err, ap, drop, option_map, refl, subst, sym, take}
use Rattle.std.proofs.lemmas.List.{map-append}
use Rattle.std.proofs.lemmas.Option.{slice_get-map}
use Rattle.std.specs.Option.{option_map_or}
use Rattle.facet_solver_shape.specs.Names.{names_of}
use Rattle.facet_solver_tool.specs.Requests.{Asks, check_accepting, check_accepting_at, is_accept, no_accepted}
use Rattle.facet_solver_tool.proofs.Words.{drop_said, get_at, get_past, position_said, take_said}
use Rattle.facet_solver_tool.proofs.arguments.check.Goals as goal

pub returns-in_default : goal.returns-in_default
returns-in_default c =
    let words = c.args.words.now in
    let names = names_of words in
    let at = c.in-Some.at in
    let nothing = ap (option_map (λ w. w.now)) (get_past words (at + 1) c.in_default.ensures.lookup.3) ∙ sym (slice_get-map (λ w. w.now) words (at + 1)) in
    subst (λ o. option_map_or (check_accepting_at names) o (check_accepting None names) ≡ Err no_accepted)
    (c.in-Some.ensures ∙ position_said is_accept (λ w. w.now) words)
    (subst (λ o. option_map_or (λ file. check_accepting (Some file) (take at names ++ drop (at + 2) names)) o (Err no_accepted) ≡ Err no_accepted) nothing refl)

pub returns-in-None : goal.returns-in-None
returns-in-None c =
    let words = c.args.words.now in
    let names = names_of words in
    subst (λ o. Asks (option_map_or (check_accepting_at names) o (check_accepting None names)) c.check_accepting.result)
    (c.in-None.ensures ∙ position_said is_accept (λ w. w.now) words)
    c.check_accepting.ensures

pub returns-in_ok-words-in-Some : goal.returns-in_ok-words-in-Some
returns-in_ok-words-in-Some c =
    let words = c.args.words.now in
    let names = names_of words in
    let at = c.in-Some.at in
    let made = c.check_accepting-in-Some.result in
    let file = ap (option_map (λ w. w.now)) (get_at words (at + 1) c.in-Some-get.accepted.now c.in-Some-get.ensures.lookup.3.0 c.in-Some-get.ensures.lookup.1) ∙ sym (slice_get-map (λ w. w.now) words (at + 1)) in
    let same =
    ap names_of (c.deref.ensures.value ∙ c.in_ok-words-in-Some.ensures)
    ∙ map-append (λ w. w.now) (take at words) (drop (at + 2) words)
    ∙ ap (λ ws. ws ++ names_of (drop (at + 2) words)) (take_said (λ w. w.now) at words)
    ∙ ap (λ ws. take at names ++ ws) (drop_said (λ w. w.now) (at + 2) words) in
    subst (λ o. Asks (option_map_or (check_accepting_at names) o (check_accepting None names)) made)
    (c.in-Some.ensures ∙ position_said is_accept (λ w. w.now) words)
    (subst (λ o. Asks (option_map_or (λ f. check_accepting (Some f) (take at names ++ drop (at + 2) names)) o (Err no_accepted)) made) file
    (subst (λ ws. Asks (check_accepting (Some c.in-Some-get.accepted.now.now) ws) made) same c.check_accepting-in-Some.ensures))
