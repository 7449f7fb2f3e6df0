use Rattle.std.proofs.Common.{◌∙◌, subst, sym}
use Rattle.std.specs.Fmt.{DisplaysOnOk}
use Rattle.facet_solver_reader.proofs.Quoted.{plain_quoted}
use Rattle.facet_solver_reader.proofs.reading.quoted.write_quoted.Goals as goal

-- a plain text is written as it is
pub returns-then-is_unescaped : goal.returns-then-is_unescaped
returns-then-is_unescaped g c =
    subst
    (λ o. DisplaysOnOk g.W.Write.write_str_gives c.args.f.now c.write.result o c.write.new.self)
    (sym (plain_quoted c.args.text.now (sym c.is_unescaped.ensures ∙ c.if-is_unescaped.true)))
    c.write.ensures.writes
