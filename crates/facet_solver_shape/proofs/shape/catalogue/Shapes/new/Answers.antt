use Rattle.std.proofs.Common.{refl, arith}
use Rattle.std.proofs.lemmas.Bool.{false≢true}
use Rattle.std.proofs.lemmas.Result.{err_from_is_err_and}
use Rattle.facet_solver_shape.proofs.Pointers.{end_of_is_end}
use Rattle.facet_solver_shape.proofs.Catalogues.{checked, first_fault, one_more, ends_below, ends_past, ends_still}
use Rattle.facet_solver_shape.proofs.shape.catalogue.Shapes.new.Goals as goal

-- from an index past the list no pointee leads on
pub loop-index-init : goal.loop-index-init
loop-index-init c = record {
  faultless = λ k before. absurd (omega (arith, before));
  known = ends_past c.args.shapes.items c.new-ending.result (omega (arith, c.args.shapes.ok.0, c.len.ensures, c.new-ending.ensures));
}

-- what has no fault has an end
pub check_shape-requires-clause-earlier : goal.check_shape-requires-clause-earlier
check_shape-requires-clause-earlier c =
    rw c.deref.ensures.value (ends_below c.args.shapes.items c.loop-index.index c.loop-index.invariant.faultless)

pub returns-in_err-check_shape-clause-refused : goal.returns-in_err-check_shape-clause-refused
returns-in_err-check_shape-clause-refused c =
    let refusal = err_from_is_err_and c.from_residual.result c.from_residual.ensures.1 in
    let fault = rw c.deref.ensures.value at c.in_err-check_shape.ensures.faulty in
    rw (refusal.1, refusal.2) (first_fault c.args.shapes.items c.loop-index.index c.in_err-check_shape.field-0.0 c.loop-index.invariant.faultless fault)

-- a list with a fault is no catalogue
pub returns-in_err-check_shape-clause-accepted : goal.returns-in_err-check_shape-clause-accepted
returns-in_err-check_shape-clause-accepted c =
    let refusal = err_from_is_err_and c.from_residual.result c.from_residual.ensures.1 in
    let fault = rw c.deref.ensures.value at c.in_err-check_shape.ensures.faulty in
    rw refusal.1 (λ ok. absurd (false≢true ok), λ checked. absurd (checked.faultless c.in_err-check_shape.field-0.0 fault.present))

pub invariant_of-result : goal.invariant_of-result
invariant_of-result c = checked _ c.loop-index.index (omega (arith, c.args.shapes.ok.0)) c.loop-index.invariant.faultless

pub returns-clause-accepted : goal.returns-clause-accepted
returns-clause-accepted c = (λ _. checked _ c.loop-index.index (omega (arith, c.args.shapes.ok.0)) c.loop-index.invariant.faultless, λ _. refl)

pub returns-clause-ends : goal.returns-clause-ends
returns-clause-ends c = end_of_is_end _ (checked _ c.loop-index.index (omega (arith, c.args.shapes.ok.0)) c.loop-index.invariant.faultless)

pub loop-index-preserved : goal.loop-index-preserved
loop-index-preserved c =
    let xs = c.args.shapes.items in
    let index = c.loop-index.index in
    let here = rw c.deref.ensures.value at c.in_ok-check_shape.ensures.faultless in
    let leads = rw c.deref-in-loop-index.ensures.value at c.later_pointee.ensures in
    record {
      faultless = one_more xs index c.loop-index.invariant.faultless here;
      known = ends_still xs index c.later_pointee.result c.loop-index.ending c.unwrap_or-ending.result here leads c.loop-index.invariant.known c.unwrap_or-ending.ensures;
    }
