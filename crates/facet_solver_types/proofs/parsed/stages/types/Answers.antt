use Rattle.std.proofs.Common.{◌≢◌, ℕ, List, Option, Result, length, ap, option_map, rules}
use Rattle.facet_solver_shape.specs.Names.{Name}
use Rattle.facet_solver_types.specs.declared.failure.Failure.TheVariants.{Text}
use Rattle.facet_solver_types.specs.declared.fault.Fault.TheVariants.{OutOfMemory}
use Rattle.facet_solver_types.specs.Failures.{Failure, of_text}
use Rattle.facet_solver_types.specs.GivenTypes.{IsTold}
use Rattle.facet_solver_types.specs.ParsedTexts.{token_types, types}
use Rattle.facet_solver_types.specs.Scopes.{str_view}
use Rattle.facet_solver_types.specs.Tokens.{Token, tokens, tokens_view}
use Rattle.facet_solver_types.specs.TypesViews.{Types}
use Rattle.facet_solver_types.proofs.ParsedTexts.{failed, passed}
use Rattle.facet_solver_types.proofs.parsed.stages.types.Goals as goal

-- the types of tokens to an end
abbrev to_end : ℕ → Option Name → List Token → Result Types Failure
to_end end root ts = token_types end root (record { tokens = ts; end = end })

pub returns-in_err-tokens : goal.returns-in_err-tokens
returns-in_err-tokens c =
    let text = c.args.text.now in
    let root = option_map str_view c.args.root in
    let fault = c.in_err-tokens.field-0.0 in
    let told : Text fault ≢ Text OutOfMemory → IsTold (types text root) (of_text fault) =
    failed (tokens text) (to_end (length text) root) fault c.in_err-tokens.ensures in
    search (rules, told)

pub returns : goal.returns
returns c =
    let text = c.args.text.now in
    let root = option_map str_view c.args.root in
    let read = tokens_view c.deref.result.now in
    passed (tokens text) (to_end (length text) root) (tokens_view c.in_ok-tokens.tokens.items) read
    c.in_ok-tokens.ensures (ap tokens_view c.deref.ensures.value) c.token_types.result
    c.token_types.ensures
