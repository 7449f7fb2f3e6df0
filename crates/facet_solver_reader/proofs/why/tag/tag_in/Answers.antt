use Rattle.std.proofs.Common.{◌≡◌, ap, subst, sym, ◌∙◌, Some, slice_get}
use Rattle.std.proofs.lemmas.Option.{IfSome_then}
use Rattle.std.specs.Borrow.{Bor}
use Rattle.facet_solver_shape.specs.Names.{Name}
use Rattle.facet_solver_reader.specs.Parts.{a_member}
use Rattle.facet_solver_reader.specs.Why.{IsTagOf}
use Rattle.facet_solver_reader.specs.Views.{member_view, part_view, parts_view}
use Rattle.facet_solver_reader.proofs.Seen.{seen_at}
use Rattle.facet_solver_reader.proofs.why.tag.tag_in.Goals as goal

pub returns-in-Member : goal.returns-in-Member
returns-in-Member c =
    let parts = c.args.list.now.parts.items in
    let part = c.in_ok-first.first.now in
    let m = c.in-Member.member in
    let at : slice_get parts 0 ≡ Some part =
    subst (λ ps. slice_get ps 0 ≡ Some part) c.deref.ensures.value (sym c.in_ok-first.ensures.value) in
    let first : slice_get (parts_view parts) 0 ≡ Some (a_member (member_view m)) =
    seen_at part_view parts 0 part at ∙ ap (λ p. Some (part_view p)) c.in-Member.is in
    IfSome_then c.tag_at.result c.tag_at.ensures
    (λ (p : Bor Name × Bor Name) (h : IsTagOf p.0.now p.1.now (member_view m)).
    record {
      member = member_view m;
      first = first;
      required = c.if-member.true;
      is = h;
    })
