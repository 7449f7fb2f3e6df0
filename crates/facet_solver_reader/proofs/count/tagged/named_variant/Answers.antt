use Rattle.std.proofs.Common.{◌≡◌, ◌∙◌, sym, ap, Some}
use Rattle.facet_solver_reader.specs.Documents.{text, view}
use Rattle.facet_solver_reader.specs.Nodes.{members_in, value_of}
use Rattle.facet_solver_reader.specs.Objects.{find}
use Rattle.facet_solver_reader.proofs.ReadByTag.{named_by_text}
use Rattle.facet_solver_reader.proofs.Views.{view-Text}
use Rattle.facet_solver_reader.proofs.count.tagged.named_variant.Goals as goal

pub returns-in-Text : goal.returns-in-Text
returns-in-Text c =
    let ms = members_in (value_of c.args.nodes.now c.args.node) in
    let found : find ms c.args.tag.now.name.now ≡ Some (text c.in-Text.text.now) =
    c.in_ok-member.ensures.1
    ∙ ap (λ v. Some v)
    (sym c.value.ensures ∙ ap view c.in-Text.is ∙ view-Text c.in-Text.text) in
    named_by_text c.args.tag.now ms c.in-Text.text.now found c.variant.result c.variant.ensures
