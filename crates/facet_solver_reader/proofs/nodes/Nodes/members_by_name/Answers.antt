use Rattle.std.proofs.Common.{◌+◌, ◌≤◌, arith, ap, length}
use Rattle.facet_solver_reader.proofs.Numbering.{names_there, names_within}
use Rattle.facet_solver_reader.proofs.nodes.Nodes.members_by_name.Goals as goal

within : (c : goal.After-deref) → c.index.result.now.names + c.args.len ≤ length c.args.self.now.by_name.items
within c =
    names_within c.args.self.now c.requires.numbering c.args.node c.index.result.now
    c.requires.in_range c.index.ensures c.args.len c.requires.all

pub overflow_add-result : goal.overflow_add-result
overflow_add-result c = omega (arith, within c, c.args.self.now.by_name.ok.0)

pub offset_bounds-deref-start : goal.offset_bounds-deref-start
offset_bounds-deref-start c = omega (arith, within c, c.args.self.now.by_name.ok.0)

pub slice_bounds-result-end : goal.slice_bounds-result-end
slice_bounds-result-end c = omega (arith, within c, ap length c.deref.ensures.value)

pub returns : goal.returns
returns c =
    names_there c.args.self.now c.requires.numbering c.args.node c.index.result.now
    c.requires.in_range c.index.ensures c.args.len c.requires.all c.deref.result.now
    c.deref.ensures.value
