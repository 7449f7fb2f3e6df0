use Rattle.std.proofs.Common.{◌≡◌, ◌≢◌, ◌<◌, ◌-◌, [], Err, Result, ap, sym, ◌∙◌, arith, rules}
use Rattle.facet_solver_types.specs.Declarations.{parameters_view}
use Rattle.facet_solver_types.specs.declared.fault.Fault.TheVariants.{OutOfMemory}
use Rattle.facet_solver_types.specs.Flattened.{Lead, around, inside, itself, lead_of, lead_view, members, named, option_of}
use Rattle.facet_solver_types.specs.Layers.{layer_view}
use Rattle.facet_solver_types.specs.Mentions.{Mention, alias_scope, mention_view}
use Rattle.facet_solver_types.specs.Passages.{passage_view}
use Rattle.facet_solver_types.specs.Pieces.{and_then}
use Rattle.facet_solver_types.specs.Scopes.{scope_view}
use Rattle.facet_solver_types.specs.Sites.{site_view}
use Rattle.facet_solver_types.proofs.FlattenedSteps.{layer_fault, led, no_members}
use Rattle.facet_solver_types.proofs.MentionTurns.{gives_same}
use Rattle.facet_solver_types.proofs.typing.flattened.+members.Goals as goal

pub returns-then-levels-eq0 : goal.returns-then-levels-eq0
returns-then-levels-eq0 t c =
    let scope = scope_view c.args.scope in
    let p = passage_view c.args.passage in
    let told : members c.args.levels scope p ≡ Err c.too_deep.result =
    no_members c.args.levels scope p c.if-levels-eq0.true ∙ ap Err (sym c.too_deep.ensures) in
    λ real. told

pub returns-in_err-layer : goal.returns-in_err-layer
returns-in_err-layer t c =
    let scope = scope_view c.args.scope in
    let p = passage_view c.args.passage in
    let some : 0 < c.args.levels = omega arith in
    let fault = c.in_err-layer.field-0.0 in
    let told : fault ≢ OutOfMemory → members c.args.levels scope p ≡ Err fault =
    λ real. layer_fault c.args.levels scope p some fault (c.in_err-layer.ensures real) in
    search (rules, told)

pub returns-in-Inside : goal.returns-in-Inside
returns-in-Inside t c =
    let scope = scope_view c.args.scope in
    let p = passage_view c.args.passage in
    let some : 0 < c.args.levels = omega arith in
    let layer = layer_view c.in_ok-layer.layer in
    let lead : Lead = inside (passage_view c.in-Inside.inside) in
    let is : lead ≡ lead_of scope layer = ap lead_view (sym c.in-Inside.is) ∙ c.lead_of.ensures in
    gives_same mention_view (members c.args.levels scope p) _ c.members.result
    (led c.args.levels scope p some layer lead c.in_ok-layer.ensures is)
    c.members.ensures

pub returns-in_err-mention-in-Option : goal.returns-in_err-mention-in-Option
returns-in_err-mention-in-Option t c =
    let scope = scope_view c.args.scope in
    let p = passage_view c.args.passage in
    let some : 0 < c.args.levels = omega arith in
    let layer = layer_view c.in_ok-layer.layer in
    let lead : Lead = option_of (passage_view c.in-Option.inside) in
    let is : lead ≡ lead_of scope layer = ap lead_view (sym c.in-Option.is) ∙ c.lead_of.ensures in
    let fault = c.in_err-mention-in-Option.field-0.0 in
    let told : fault ≢ OutOfMemory → members c.args.levels scope p ≡ Err fault =
    λ real. led c.args.levels scope p some layer lead c.in_ok-layer.ensures is
    ∙ ap (λ r. and_then r (around scope layer.head)) (c.in_err-mention-in-Option.ensures real) in
    search (rules, told)

pub returns-in-Option : goal.returns-in-Option
returns-in-Option t c =
    let scope = scope_view c.args.scope in
    let p = passage_view c.args.passage in
    let some : 0 < c.args.levels = omega arith in
    let layer = layer_view c.in_ok-layer.layer in
    let lead : Lead = option_of (passage_view c.in-Option.inside) in
    let is : lead ≡ lead_of scope layer = ap lead_view (sym c.in-Option.is) ∙ c.lead_of.ensures in
    gives_same mention_view (members c.args.levels scope p) _ c.around.result
    (led c.args.levels scope p some layer lead c.in_ok-layer.ensures is
    ∙ ap (λ r. and_then r (around scope layer.head)) c.in_ok-mention-in-Option.ensures)
    c.around.ensures

pub returns-in-Named : goal.returns-in-Named
returns-in-Named t c =
    let scope = scope_view c.args.scope in
    let p = passage_view c.args.passage in
    let some : 0 < c.args.levels = omega arith in
    let layer = layer_view c.in_ok-layer.layer in
    let parameters = parameters_view c.in-Named.parameters.now in
    let written = passage_view c.in-Named.written in
    let lead : Lead = named (site_view c.in-Named.site) parameters written in
    let is : lead ≡ lead_of scope layer = ap lead_view (sym c.in-Named.is) ∙ c.lead_of.ensures in
    gives_same mention_view (members c.args.levels scope p) _ c.members-in-Named.result
    (led c.args.levels scope p some layer lead c.in_ok-layer.ensures is
    ∙ ap (λ s. members (c.args.levels - 1) s written) (sym c.scope_in-named.ensures))
    c.members-in-Named.ensures

pub returns : goal.returns
returns t c =
    let scope = scope_view c.args.scope in
    let p = passage_view c.args.passage in
    let some : 0 < c.args.levels = omega arith in
    let layer = layer_view c.in_ok-layer.layer in
    let lead : Lead = itself in
    let is : lead ≡ lead_of scope layer = ap lead_view (sym c.in-Itself.is) ∙ c.lead_of.ensures in
    gives_same mention_view (members c.args.levels scope p) _ c.mentions.result
    (led c.args.levels scope p some layer lead c.in_ok-layer.ensures is)
    c.mentions.ensures
