use Rattle.std.proofs.Common.{◌∙◌, sym}
use Rattle.std.proofs.lemmas.Option.{same_Some}
use Rattle.facet_solver_reader.specs.Documents.{text, view}
use Rattle.facet_solver_reader.specs.Nodes.{value_of}
use Rattle.facet_solver_reader.proofs.Lacking.{other_tag}
use Rattle.facet_solver_reader.proofs.why.tag.lacks_text.Goals as goal

pub returns-in-Some : goal.returns-in-Some
returns-in-Some c other found =
    let wanted = c.args.text.now in
    let same = same_Some (value_of c.args.nodes.now c.in-Some.member) (text wanted)
    (sym c.in-Some.ensures.1 ∙ found) in
    other_tag wanted (view c.value.result.now) (sym c.is_other_tag.ensures ∙ other)
    (c.value.ensures ∙ same)
