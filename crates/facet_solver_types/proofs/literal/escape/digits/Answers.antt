use Rattle.std.proofs.Common.{arith}
use Rattle.facet_solver_types.proofs.Digits.{room_for_digit}
use Rattle.facet_solver_types.proofs.literal.escape.digits.Goals as goal

pub overflow_mul-code : goal.overflow_mul-code
overflow_mul-code c =
    let room = room_for_digit c.loop-letter.count c.loop-letter.code 0 c.if-count-ge6.false
    c.loop-letter.invariant.small (omega arith) in
    omega arith

pub overflow_add-code : goal.overflow_add-code
overflow_add-code c =
    let room = room_for_digit c.loop-letter.count c.loop-letter.code c.in_ok-code.field-0
    c.if-count-ge6.false c.loop-letter.invariant.small c.in_ok-code.ensures.small in
    omega arith
