use Rattle.std.proofs.Common.{◌≡◌, [], Ok, Err, length, sym, ap, ◌∙◌, arith, rules}
use Rattle.facet_solver_types.specs.Tokens.{at_end, tokens}
use Rattle.facet_solver_types.proofs.Parts.{outcome_at_end, outcome_closed}
use Rattle.facet_solver_types.proofs.tokens.tokens.Goals as goal

pub returns-in_err-all_closed : goal.returns-in_err-all_closed
returns-in_err-all_closed c =
    let l = c.loop-rest in
    let fault = c.in_err-all_closed.field-0.0 in
    let none : length l.rest.now ≡ 0 = grind arith in
    let at : at_end l.opened.items ≡ Err fault = ap at_end (sym c.deref.ensures.value) ∙ c.in_err-all_closed.ensures.fault in
    let told : tokens c.args.text.now ≡ Err fault = l.invariant.1 ∙ outcome_at_end l.found.items l.opened.items l.offset l.rest.now fault none at in
    search (rules, told)

pub returns : goal.returns
returns c =
    let l = c.loop-rest in
    let none : length l.rest.now ≡ 0 = grind arith in
    let at : at_end l.opened.items ≡ Ok [] = ap at_end (sym c.deref.ensures.value) ∙ c.in_ok-all_closed.ensures.ok in
    l.invariant.1 ∙ outcome_closed l.found.items l.opened.items l.offset l.rest.now none at
