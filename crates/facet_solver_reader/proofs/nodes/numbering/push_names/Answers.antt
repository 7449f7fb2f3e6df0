use Rattle.std.proofs.Common.{sym, subst, take, ◌+◌}
use Rattle.facet_solver_reader.specs.Documents.{members, members_view}
use Rattle.facet_solver_reader.specs.Nodes.{IsAppended, Named, numbered}
use Rattle.facet_solver_reader.proofs.Adding.{all_named, none_named, one_named}
use Rattle.facet_solver_reader.proofs.nodes.numbering.push_names.Goals as goal

pub loop-index-init : goal.loop-index-init
loop-index-init c = none_named c.args.first c.args.members.now c.args.by_name.now.items

pub loop-index-preserved : goal.loop-index-preserved
loop-index-preserved c =
    subst (λ (es : Named). IsAppended c.args.by_name.now.items es (take (c.loop-index.index + 1) (numbered c.args.first (members (members_view c.args.members.now))))) (sym c.in_ok-push.ensures.items)
    (one_named c.args.first c.args.members.now c.args.by_name.now.items c.loop-index.by_name.items c.loop-index.index c.index-members-index.result c.loop-index.invariant c.loop-index-test.true c.index-members-index.is)

pub returns : goal.returns
returns c =
    all_named c.args.first c.args.members.now c.args.by_name.now.items c.loop-index.by_name.items c.loop-index.index c.loop-index.invariant c.loop-index-test.false
