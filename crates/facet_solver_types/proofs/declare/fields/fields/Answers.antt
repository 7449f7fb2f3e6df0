use Rattle.std.proofs.Common.{◌≡◌, ◌∙◌, length, rules}
use Rattle.facet_solver_types.specs.Declarations as items
use Rattle.facet_solver_types.specs.ReadFields.{field}
use Rattle.facet_solver_types.specs.Understood.{field_view}
use Rattle.facet_solver_types.proofs.GatheringTurns.{numbered_turn}
use Rattle.facet_solver_types.proofs.declare.fields.fields.Goals as goal

pub loop-one-preserved : goal.loop-one-preserved
loop-one-preserved c =
    let l = c.loop-one in
    let behind : c.len-number.result ≡ length l.found.values.items = search rules in
    l.invariant
    ∙ numbered_turn items.field_view field_view c.args.written.now l.one-index _
    c.loop-one-test.true (field c.args.all) l.found c.in_ok-more.more c.append.new.self
    c.len-number.result behind c.in_ok-more.ensures
    c.in_ok-append.ensures.values c.in_ok-append.ensures.faults
