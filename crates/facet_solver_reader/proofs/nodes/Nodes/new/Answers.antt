use Rattle.std.proofs.Common.{◌<◌, ◌≤◌, arith}
use Rattle.facet_solver_reader.specs.Documents.{view}
use Rattle.facet_solver_reader.specs.Nodes.{children, count, opened, under, value_of}
use Rattle.facet_solver_reader.proofs.Numbering.{names_once, numbering_from}
use Rattle.facet_solver_reader.proofs.Opened.{value_stays}
use Rattle.facet_solver_reader.proofs.Sizes.{left-smaller}
use Rattle.facet_solver_reader.proofs.nodes.Nodes.new.Goals as goal

-- one more value is opened
pub loop-alloc-smaller : goal.loop-alloc-smaller
loop-alloc-smaller c =
    let old = c.loop-alloc.nodes in
    let left : opened old < count old = omega (arith, c.len.ensures, c.len-in-loop-alloc.ensures, c.loop-alloc-test.true, old.openings.ok.0, old.nodes.ok.0) in
    left-smaller old c.open_next.new.self left c.in_ok-open_next.ensures.added c.in_ok-open_next.ensures.opened

pub loop-alloc-preserved : goal.loop-alloc-preserved
loop-alloc-preserved c =
    let old = c.loop-alloc.nodes in
    record {
      under_way = c.in_ok-open_next.ensures.under_way;
      root = value_stays old c.open_next.new.self (under (opened old) (children (value_of old (opened old)))) 0 (view c.args.document.now) c.in_ok-open_next.ensures.added c.loop-alloc.invariant.root;
    }

-- all values are opened
pub returns-clause-once : goal.returns-clause-once
returns-clause-once c =
    let nodes = c.loop-alloc.nodes in
    let past : count nodes ≤ opened nodes = omega (arith, c.len.ensures, c.len-in-loop-alloc.ensures, c.loop-alloc-test.false, nodes.openings.ok.0, nodes.nodes.ok.0) in
    names_once nodes (numbering_from nodes (view c.args.document.now) c.loop-alloc.invariant.under_way past c.loop-alloc.invariant.root) (view c.args.document.now) c.loop-alloc.invariant.root
