-- The text is that of the tag, where the test says so.
use Rattle.std.proofs.Common.{ap, ◌∙◌, rules, ◌≡◌}
use Rattle.facet_solver_reader.specs.Documents.{view}
use Rattle.facet_solver_reader.proofs.Contents.{count_of_tag}
use Rattle.facet_solver_reader.proofs.Seen.{seen_text}
use Rattle.facet_solver_reader.proofs.count.target.count_tag.Goals as goal

pub returns-in-Text : goal.returns-in-Text
returns-in-Text c =
    let same : c.in-Text.text.now ≡ c.args.name.now = search rules in
    rw (ap view c.in-Text.is ∙ seen_text c.in-Text.text)
    (count_of_tag c.args.name.now c.in-Text.text.now same)
