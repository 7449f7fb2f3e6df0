use Rattle.std.proofs.Common.{◌≡◌, ◌+◌, ◌∙◌, List, Some, ap, arith, length, refl, slice_get, subst, sym}
use Rattle.std.proofs.lemmas.Option.{slice_get_read}
use Rattle.std.proofs.lemmas.Slice.Eq.{bytes_eq-Decides}
use Rattle.std.specs.Borrow.{Bor}
use Rattle.facet_solver_shape.specs.Names.{Name}
use Rattle.facet_solver_reader.specs.declared.document.Document.{Document}
use Rattle.facet_solver_reader.specs.Documents.{members_view, object, view}
use Rattle.facet_solver_reader.specs.Nodes.{members_in, value_of}
use Rattle.facet_solver_reader.specs.Objects.{find}
use Rattle.facet_solver_reader.proofs.Numbering.{member_leads}
use Rattle.facet_solver_reader.proofs.Seen.{member_seen, seen_at, seen_members}
use Rattle.facet_solver_reader.proofs.Trees.{view-Object}
use Rattle.facet_solver_reader.proofs.nodes.Nodes.is_member.Goals as goal

pub returns-in-Some-get : goal.returns-in-Some-get
returns-in-Some-get c is =
    let nodes = c.args.self.now in
    let node = c.args.node in
    let opening = c.index.result.now in
    let ms = c.in-Object.members.items in
    let d = c.in-Some-get.member.now in
    let i = c.in-Some.index in
    let object_is : value_of nodes node ≡ object (members_view ms) =
    sym c.value.ensures ∙ ap view c.in-Object.is ∙ view-Object c.in-Object.members in
    let look = c.in-Some-get.ensures.lookup in
    let there : slice_get ms i ≡ Some d =
    subst (λ (xs : List (Bor Name × Document)). slice_get xs i ≡ Some d) c.deref.ensures.value
    (slice_get_read c.deref.result.now (length c.deref.result.now) i d refl look.3.0 look.1) in
    let member : slice_get (members_in (value_of nodes node)) i ≡ Some (member_seen d) =
    ap (λ v. slice_get (members_in v) i) object_is
    ∙ ap (λ xs. slice_get xs i) (seen_members ms)
    ∙ seen_at member_seen ms i d there in
    let leads =
    member_leads nodes c.requires.numbering node opening c.requires.in_range c.index.ensures
    i (member_seen d) member in
    let name_is : d.0.now ≡ c.args.name.now =
    (bytes_eq-Decides d.0.now c.args.name.now).0 (sym c.eq.ensures ∙ is) in
    let number_is : opening.first + i ≡ c.args.number = omega (arith, c.in-Some.ensures) in (
      omega (arith, leads.0, number_is),
      ap (find (members_in (value_of nodes node))) (sym name_is)
          ∙ (leads.1 ∙ ap (λ n. Some (value_of nodes n)) number_is),
    )
