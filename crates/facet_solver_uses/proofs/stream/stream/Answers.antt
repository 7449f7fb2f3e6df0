use Rattle.std.proofs.Common.{arith}
use Rattle.std.specs.Prelude.{Err}
use Rattle.facet_solver_uses.specs.stream.Events.{IsFirstMisplaced}
use Rattle.facet_solver_uses.specs.declared.stream.event.Unread.TheVariants.{Misplaced}
use Rattle.facet_solver_uses.proofs.FoundDocuments.{finds_document, finds_no_misplaced, of_schema}
use Rattle.facet_solver_uses.proofs.WholeDocuments.{reads_documents}
use Rattle.facet_solver_uses.proofs.Events.{placed_more, reading_more, streams_all}
use Rattle.facet_solver_uses.proofs.stream.stream.Goals as goal

pub returns-in-Err-Misplaced-clause-document : goal.returns-in-Err-Misplaced-clause-document
returns-in-Err-Misplaced-clause-document c =
    let index = c.loop-index.index in
    let first : IsFirstMisplaced c.args.events.now index = grind (arith, placed_more, reading_more) in
    reads_documents c.args.schema.now c.args.events.now (Err (Misplaced index)) first

pub returns-in-Err-Misplaced-clause-found : goal.returns-in-Err-Misplaced-clause-found
returns-in-Err-Misplaced-clause-found c =
    let index = c.loop-index.index in
    let first : IsFirstMisplaced c.args.events.now index = grind (arith, placed_more, reading_more) in
    finds_no_misplaced c.args.schema.now c.args.events.now index first

pub returns-clause-document : goal.returns-clause-document
returns-clause-document c =
    reads_documents c.args.schema.now c.args.events.now c.finish.result
    (streams_all c.args.schema.now c.args.events.now c.loop-index.index c.loop-index.reader c.finish.result c.loop-index-test.false c.loop-index.invariant.was_read c.loop-index.invariant.placed c.finish.ensures.ends)

pub returns-clause-found : goal.returns-clause-found
returns-clause-found c =
    finds_document c.args.schema.now c.args.events.now c.loop-index.index c.loop-index.reader c.finish.result
    c.loop-index-test.false c.loop-index.invariant.was_read c.finish.ensures.found

pub returns-clause-handle : goal.returns-clause-handle
returns-clause-handle c =
    of_schema c.args.schema.now c.args.events.now c.finish.result
    (streams_all c.args.schema.now c.args.events.now c.loop-index.index c.loop-index.reader c.finish.result c.loop-index-test.false c.loop-index.invariant.was_read c.loop-index.invariant.placed c.finish.ensures.ends)
