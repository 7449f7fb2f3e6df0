use Rattle.std.proofs.Common.{◌≡◌, ◌∙◌, sym, ap, subst, refl, List, [], ◌∷◌, IsTrue, Some, true}
use Rattle.std.proofs.Common.{arith, slice_get, ◌<◌}
use Rattle.std.proofs.lemmas.List.Folds.{list_any-from_Any}
use Rattle.std.proofs.lemmas.Option.{slice_get_within}
use Rattle.std.specs.List.{list_any}
use Rattle.facet_solver_reader.specs.declared.part.Part as code_part
use Rattle.facet_solver_reader.specs.Documents.{Member}
use Rattle.facet_solver_reader.specs.Nodes.{members_in, value_of}
use Rattle.facet_solver_reader.specs.Objects.{find}
use Rattle.facet_solver_reader.specs.Parts.{MemberPart, a_member}
use Rattle.facet_solver_reader.specs.Reading.{fails_at_once, fails_for}
use Rattle.facet_solver_reader.specs.Views.{member_view, part_view, parts_view}
use Rattle.facet_solver_reader.proofs.Quantifiers.{any_at}
use Rattle.facet_solver_reader.proofs.count.tag.fails_at_first.Goals as goal

-- where the first part fails at once, some part does
first_fails : (ms : List Member) (ps : List code_part.Part) (m : MemberPart)
    → slice_get (parts_view ps) 0 ≡ Some (a_member m) → fails_at_once ms (a_member m) ≡ true
    → IsTrue (list_any (λ p. fails_at_once ms (part_view p)) ps)
first_fails ms [] m e h =
    let l : 0 < 0 = slice_get_within [] 0 (a_member m) e in absurd (omega arith)
first_fails ms (p ∷ ps) m e h =
    let same : part_view p ≡ a_member m = cc in
    list_any-from_Any (λ (q : code_part.Part). fails_at_once ms (part_view q)) (p ∷ ps)
    (any_at (λ (q : code_part.Part). fails_at_once ms (part_view q) ≡ true) (p ∷ ps) 0 p refl
    (subst (λ q. fails_at_once ms q ≡ true) (sym same) h))

pub returns-then-not-is_tag-clause-fails : goal.returns-then-not-is_tag-clause-fails
returns-then-not-is_tag-clause-fails c =
    λ h.
    let ms = members_in (value_of c.args.nodes.now c.args.object.now.node) in
    first_fails ms c.args.list.now.parts.items (member_view c.in-Some.first.now) c.in-Some.ensures
    (c.lacks.ensures h)

pub returns-clause-fails : goal.returns-clause-fails
returns-clause-fails c =
    λ h.
    let ms = members_in (value_of c.args.nodes.now c.args.object.now.node) in
    let tag = member_view c.in-Some.first.now in
    let found : find ms tag.name ≡ _ =
    ap (find ms) (sym c.again-member.ensures.name) ∙ c.again-member.ensures.found.same in
    first_fails ms c.args.list.now.parts.items tag c.in-Some.ensures
    (ap (fails_for tag) found ∙ sym c.fails.ensures ∙ h)
