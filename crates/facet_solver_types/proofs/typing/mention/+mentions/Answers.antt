use Rattle.std.proofs.Common.{◌≡◌, ◌≢◌, ◌<◌, ◌+◌, Ok, Err, Result, ap, drop, map, sym, ◌∙◌, arith, rules}
use Rattle.std.specs.String.{string_bytes}
use Rattle.facet_solver_types.specs.Declarations.{parameters_view}
use Rattle.facet_solver_types.specs.declared.fault.Fault.{Fault}
use Rattle.facet_solver_types.specs.declared.fault.Fault.TheVariants.{OutOfMemory}
use Rattle.facet_solver_types.specs.declared.typing.layer.Head.TheVariants.{Alias}
use Rattle.facet_solver_types.specs.Layers.{head_view, layer_view, part_view}
use Rattle.facet_solver_types.specs.Mentions.{Mention, alias_scope, behind, followed, inside_view, mention_view, mentions, nothing, part_mention, with_mention, with_parts}
use Rattle.facet_solver_types.specs.Passages.{passage_view}
use Rattle.facet_solver_types.specs.Pieces.{and_then}
use Rattle.facet_solver_types.specs.Scopes.{scope_view}
use Rattle.facet_solver_types.specs.Sites.{site_view}
use Rattle.facet_solver_types.proofs.MentionTurns.{below, err_given, followed_other, gives_same, layer_fault, no_levels, part_fault, parts_ok, turn_fault, turn_ok, turns_over}
use Rattle.facet_solver_types.proofs.typing.mention.+mentions.Goals as goal
use Rattle.facet_solver_types.proofs.typing.mention.+mentions.Goals.{in-Type+in_ok-mention-in-Type, in-Value+in_ok-mention-in-Value}

pub returns-then-levels-eq0 : goal.returns-then-levels-eq0
returns-then-levels-eq0 t c =
    let scope = scope_view c.args.scope in
    let p = passage_view c.args.passage in
    let told : mentions c.args.levels scope p ≡ Err c.too_deep.result =
    no_levels c.args.levels scope p c.if-levels-eq0.true ∙ ap Err (sym c.too_deep.ensures) in
    λ real. told

pub returns-in_err-head : goal.returns-in_err-head
returns-in_err-head t c =
    let scope = scope_view c.args.scope in
    let p = passage_view c.args.passage in
    let some : 0 < c.args.levels = omega arith in
    let fault = c.in_err-head.field-0.0 in
    let told : fault ≢ OutOfMemory → mentions c.args.levels scope p ≡ Err fault =
    λ real. layer_fault c.args.levels scope p some fault (c.in_err-head.ensures real) in
    search (rules, told)

pub returns-in_err-mention-in-Type : goal.returns-in_err-mention-in-Type
returns-in_err-mention-in-Type t c =
    let l = c.loop-part in
    let scope = scope_view c.args.scope in
    let p = passage_view c.args.passage in
    let layer = layer_view c.in_ok-head.field-0 in
    let rule = below c.args.levels in
    let parts = c.deref-part-items.result.now in
    let some : 0 < c.args.levels = omega arith in
    let fault = c.in_err-mention-in-Type.field-0.0 in
    let told : fault ≢ OutOfMemory → mentions c.args.levels scope p ≡ Err fault =
    λ real. part_fault c.args.levels scope p some layer fault c.in_ok-head.ensures
    (ap (λ ps. with_parts rule scope nothing (map part_view ps))
    (sym c.deref-part-items.ensures.value)
    ∙ l.invariant
    ∙ turn_fault rule scope (inside_view l.inside) parts l.part-index _ c.loop-part-test.true fault
    (ap (λ q. part_mention rule scope (part_view q)) c.in-Type.is
    ∙ c.in_err-mention-in-Type.ensures real)) in
    search (rules, told)

pub loop-part-preserved : goal.loop-part-preserved
loop-part-preserved t c =
    let l = c.loop-part in
    let scope = scope_view c.args.scope in
    let rule = below c.args.levels in
    let parts = c.deref-part-items.result.now in
    let mention = mention_view c.match-part.mention in
    let later = map part_view (drop (l.part-index + 1) parts) in
    let added : with_parts rule scope (with_mention (inside_view l.inside) mention) later
    ≡ with_parts rule scope (inside_view c.add.new.inside) later =
    ap (λ i. with_parts rule scope i later) (sym c.in_ok-add.ensures) in
    elim c.match-part.branch [
      | in-Type+in_ok-mention-in-Type w ↦
          l.invariant
          ∙ turn_ok rule scope (inside_view l.inside) parts l.part-index _ c.loop-part-test.true mention
          (ap (λ p. part_mention rule scope (part_view p)) w.in-Type.is ∙ w.in_ok-mention-in-Type.ensures
          ∙ ap (λ m. Ok (mention_view m)) (sym w.mention-is))
          ∙ added
      | in-Value+in_ok-mention-in-Value w ↦
          l.invariant
          ∙ turn_ok rule scope (inside_view l.inside) parts l.part-index _ c.loop-part-test.true mention
          (ap (λ p. part_mention rule scope (part_view p)) w.in-Value.is
          ∙ ap Ok (sym w.in_ok-mention-in-Value.ensures)
          ∙ ap (λ m. Ok (mention_view m)) (sym w.mention-is))
          ∙ added
    ]

pub returns-in_err-mention-in-Alias : goal.returns-in_err-mention-in-Alias
returns-in_err-mention-in-Alias t c =
    let l = c.loop-part in
    let scope = scope_view c.args.scope in
    let p = passage_view c.args.passage in
    let layer = layer_view c.in_ok-head.field-0 in
    let rule = below c.args.levels in
    let parts = c.deref-part-items.result.now in
    let inside = inside_view l.inside in
    let some : 0 < c.args.levels = omega arith in
    let fault = c.in_err-mention-in-Alias.field-0.0 in
    let all : with_parts rule scope nothing layer.parts ≡ Ok inside =
    ap (λ ps. with_parts rule scope nothing (map part_view ps))
    (sym c.deref-part-items.ensures.value)
    ∙ l.invariant ∙ turns_over rule scope inside parts l.part-index c.loop-part-test.false in
    let is : c.in_ok-head.field-0.head ≡ Alias c.in-Alias.site c.in-Alias.parameters c.in-Alias.written =
    c.in-Alias.is in
    let parameters = parameters_view c.in-Alias.parameters.now in
    let written = passage_view c.in-Alias.written in
    let after : Result Mention Fault → Result Mention Fault =
    λ r. and_then r (λ m. Ok (behind inside m)) in
    let told : fault ≢ OutOfMemory → mentions c.args.levels scope p ≡ Err fault =
    λ real. parts_ok c.args.levels scope p some layer inside c.in_ok-head.ensures all
    ∙ ap (λ h. followed rule scope (head_view h) inside) is
    ∙ ap (λ ids. after (rule (alias_scope scope (site_view c.in-Alias.site) parameters (map string_bytes ids)) written))
    (sym c.deref.ensures.value)
    ∙ ap after (c.in_err-mention-in-Alias.ensures real) in
    err_given mention_view (mentions c.args.levels scope p) fault
    c.from_residual-in_err-mention-in-Alias.result
    c.from_residual-in_err-mention-in-Alias.ensures.1 told

pub returns-in-Alias : goal.returns-in-Alias
returns-in-Alias t c =
    let l = c.loop-part in
    let scope = scope_view c.args.scope in
    let p = passage_view c.args.passage in
    let layer = layer_view c.in_ok-head.field-0 in
    let rule = below c.args.levels in
    let parts = c.deref-part-items.result.now in
    let inside = inside_view l.inside in
    let some : 0 < c.args.levels = omega arith in
    let all : with_parts rule scope nothing layer.parts ≡ Ok inside =
    ap (λ ps. with_parts rule scope nothing (map part_view ps))
    (sym c.deref-part-items.ensures.value)
    ∙ l.invariant ∙ turns_over rule scope inside parts l.part-index c.loop-part-test.false in
    let is : c.in_ok-head.field-0.head ≡ Alias c.in-Alias.site c.in-Alias.parameters c.in-Alias.written =
    c.in-Alias.is in
    let parameters = parameters_view c.in-Alias.parameters.now in
    let written = passage_view c.in-Alias.written in
    let after : Result Mention Fault → Result Mention Fault =
    λ r. and_then r (λ m. Ok (behind inside m)) in
    parts_ok c.args.levels scope p some layer inside c.in_ok-head.ensures all
    ∙ ap (λ h. followed rule scope (head_view h) inside) is
    ∙ ap (λ ids. after (rule (alias_scope scope (site_view c.in-Alias.site) parameters (map string_bytes ids)) written))
    (sym c.deref.ensures.value)
    ∙ ap after c.in_ok-mention-in-Alias.ensures
    ∙ ap Ok (sym c.in_ok-behind-in-Alias.ensures)

pub returns : goal.returns
returns t c =
    let l = c.loop-part in
    let scope = scope_view c.args.scope in
    let p = passage_view c.args.passage in
    let layer = layer_view c.in_ok-head.field-0 in
    let rule = below c.args.levels in
    let parts = c.deref-part-items.result.now in
    let inside = inside_view l.inside in
    let some : 0 < c.args.levels = omega arith in
    let all : with_parts rule scope nothing layer.parts ≡ Ok inside =
    ap (λ ps. with_parts rule scope nothing (map part_view ps))
    (sym c.deref-part-items.ensures.value)
    ∙ l.invariant ∙ turns_over rule scope inside parts l.part-index c.loop-part-test.false in
    gives_same mention_view (mentions c.args.levels scope p) _ c.mention_of.result
    (parts_ok c.args.levels scope p some layer inside c.in_ok-head.ensures all
    ∙ followed_other rule scope c.in_ok-head.field-0.head inside c.in_default.not-Alias)
    c.mention_of.ensures
