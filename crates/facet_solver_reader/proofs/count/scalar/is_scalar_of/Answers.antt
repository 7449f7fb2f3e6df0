-- A text has one character, where the test says so.
use Rattle.std.proofs.Common.{ap, ◌∙◌}
use Rattle.facet_solver_reader.specs.Documents.{view}
use Rattle.facet_solver_reader.proofs.Seen.{seen_text}
use Rattle.facet_solver_reader.proofs.count.scalar.is_scalar_of.Goals as goal

pub returns-in-Text-value : goal.returns-in-Text-value
returns-in-Text-value c =
    rw (c.in-Character.is, ap view c.in-Text-value.is ∙ seen_text c.in-Text-value.text)
    c.has_one_char.ensures
