use Rattle.std.proofs.Common.{inl, inr, refl, subst, sym, ◌∙◌}
use Rattle.std.specs.Io.KnownBytes.{Appends}
use Rattle.facet_solver_tool.specs.Answer.{refused}
use Rattle.facet_solver_tool.proofs.Refused.{refused_line}
use Rattle.facet_solver_tool.proofs.lines.each.answer_line.Goals as goal

pub returns-in_ok-write_all-in-Ok : goal.returns-in_ok-write_all-in-Ok
returns-in_ok-write_all-in-Ok g c =
    let said = c.in-Ok.ensures in (
      said.0,
      said.1,
      inl said.2,
      subst (Appends (g.O.Write.contents c.args.output.now) (g.O.Write.contents c.write_all.new.self))
          (c.as_bytes.ensures.value ∙ said.3) c.in_ok-write_all-in-Ok.ensures.bytes,
    )

pub returns-in_ok-write_all-in-Err : goal.returns-in_ok-write_all-in-Err
returns-in_ok-write_all-in-Err g c = (
  refused,
  refl,
  inr refl,
  subst (Appends (g.O.Write.contents c.args.output.now) (g.O.Write.contents c.write_all-in-Err.new.self))
      (c.as_bytes-in-Err.ensures.value ∙ sym refused_line) c.in_ok-write_all-in-Err.ensures.bytes,
)
