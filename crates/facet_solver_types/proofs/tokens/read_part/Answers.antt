use Rattle.std.proofs.Common.{◌≡◌, ◌≢◌, ◌<◌, ◌≤◌, ◌+◌, Ok, Err, Some, length, drop, reverse, sym, ap, ◌∙◌, arith, rules}
use Rattle.facet_solver_types.specs.declared.fault.Fault.TheVariants.{OutOfMemory}
use Rattle.facet_solver_types.specs.declared.tokens.part.Part.TheVariants.{Gap, Spelled}
use Rattle.facet_solver_types.specs.Brackets.{open_after}
use Rattle.facet_solver_types.specs.FirstParts.{first_part}
use Rattle.facet_solver_types.specs.Spellings.{IsIn}
use Rattle.facet_solver_types.specs.Tokens.{before, outcome, tokens_from, tokens_view, with_token}
use Rattle.facet_solver_types.proofs.Parts.{at_close, at_fault, at_gap, at_token, before_push}
use Rattle.facet_solver_types.proofs.tokens.read_part.Goals as goal

pub returns-in-Err-clause-fault : goal.returns-in-Err-clause-fault
returns-in-Err-clause-fault c real =
    let rest = c.args.rest.now in
    let e : Err c.in-Err.problem ≡ first_part rest = cc in
    ap (before (tokens_view c.args.found.now.items)) (at_fault (reverse c.args.opened.now.items) c.args.offset rest c.in-Err.problem c.requires e)

pub returns-in-Ok-Gap-clause-ok : goal.returns-in-Ok-Gap-clause-ok
returns-in-Ok-Gap-clause-ok c =
    let rest = c.args.rest.now in
    let len = c.in-Ok-Gap.len in
    let e : Ok (Gap len) ≡ first_part rest = cc in
    let inside : (0 < len) × (len ≤ length rest) = grind arith in
    ap (before (tokens_view c.args.found.now.items)) (at_gap (reverse c.args.opened.now.items) c.args.offset rest len inside.0 inside.1 e)

pub returns-in_err-follow-clause-fault : goal.returns-in_err-follow-clause-fault
returns-in_err-follow-clause-fault c =
    let rest = c.args.rest.now in
    let outer = reverse c.args.opened.now.items in
    let s = c.in-Ok-Spelled.spelling in
    let fault = c.in_err-follow.field-0.0 in
    let some : 0 < length rest = c.requires in
    let e : Ok (Spelled s) ≡ first_part rest = cc in
    let told : fault ≢ OutOfMemory → outcome c.args.found.now.items c.args.opened.now.items c.args.offset rest ≡ Err fault =
    λ real.
    let why = c.in_err-follow.ensures.fault real in
    ap (before (tokens_view c.args.found.now.items)) (at_close outer c.args.offset rest s some e why.1) ∙ ap Err (sym why.0)
    in
    search (rules, told)

pub returns-clause-ok : goal.returns-clause-ok
returns-clause-ok c =
    let rest = c.args.rest.now in
    let s = c.in-Ok-Spelled.spelling in
    let e : Ok (Spelled s) ≡ first_part rest = cc in
    let inside : IsIn rest s = grind arith in
    let opens : open_after s.kind c.args.offset (reverse c.args.opened.now.items) ≡ Some (reverse c.follow.new.opened.items) = grind arith in
    let token = at_token (reverse c.args.opened.now.items) c.args.offset rest s (reverse c.follow.new.opened.items) inside e opens in
    let later = tokens_from (reverse c.follow.new.opened.items) (c.args.offset + s.len) 0 (drop s.len rest) in
    ap (before (tokens_view c.args.found.now.items)) (token ∙ ap (λ t. with_token t later) (sym c.token_at.ensures))
    ∙ before_push c.args.found.now.items c.token_at.result later
    ∙ ap (λ ts. before (tokens_view ts) later) (grind arith)
