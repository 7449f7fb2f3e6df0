use Rattle.std.proofs.Common.{◌∙◌, sym, take}
use Rattle.facet_solver_json.proofs.LastBytes.{last-blank, last-other}
use Rattle.facet_solver_json.proofs.reason.last_before.Goals as goal
use Rattle.facet_solver_json.proofs.reason.last_before.Goals.{then-not-is_blank, else-not-is_blank}

pub loop-byte-preserved : goal.loop-byte-preserved
loop-byte-preserved c =
    let xs = take c.args.offset c.as_bytes.result.now in
    let i = c.loop-byte.byte-index in
    let within = c.loop-byte-test.true in
    elim c.if-not-is_blank.branch [
      | then-not-is_blank w ↦ w.last-is ∙ sym (last-other xs i within (sym c.is_blank.ensures ∙ w.if-not-is_blank.true))
      | else-not-is_blank w ↦ w.last-is ∙ c.loop-byte.invariant ∙ sym (last-blank xs i within (sym c.is_blank.ensures ∙ w.if-not-is_blank.false))
    ]
