use Rattle.std.proofs.Common.{◌∙◌, ◌+◌, ap, sym, take, arith, eq-eqb}
use Rattle.std.proofs.lemmas.Bool.{ne_eqb}
use Rattle.facet_solver_types.proofs.Columns.{column-character, column-line_feed, column-rest}
use Rattle.facet_solver_types.proofs.place.column_at.Goals as goal
use Rattle.facet_solver_types.proofs.place.column_at.Goals.{then-byte-eq10, else-byte-eq10+then-begins_character, else-byte-eq10+else-begins_character}

pub loop-byte-preserved : goal.loop-byte-preserved
loop-byte-preserved c =
    let xs = take c.args.offset c.as_bytes.result.now in
    let i = c.loop-byte.byte-index in
    let within = c.loop-byte-test.true in
    let before = c.loop-byte.invariant.0 in
    let at_most = c.loop-byte.invariant.1 in
    elim c.if-byte-eq10.branch [
      | then-byte-eq10 w ↦ (w.column-is ∙ sym (column-line_feed xs i within (eq-eqb _ 10 w.if-byte-eq10.true)), omega (arith, w.column-is))
      | else-byte-eq10+then-begins_character w ↦
          let other = ne_eqb _ 10 w.if-byte-eq10.false in
          let begins = sym w.begins_character.ensures ∙ w.if-begins_character.true in
          (w.column-is ∙ ap (λ n. n + 1) before ∙ sym (column-character xs i within other begins), omega (arith, w.column-is, at_most))
      | else-byte-eq10+else-begins_character w ↦
          let other = ne_eqb _ 10 w.if-byte-eq10.false in
          let continues = sym w.begins_character.ensures ∙ w.if-begins_character.false in
          (w.column-is ∙ before ∙ sym (column-rest xs i within other continues), omega (arith, w.column-is, at_most))
    ]
