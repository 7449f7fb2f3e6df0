use Rattle.std.proofs.Common.{◌≡◌, ◌∙◌, ap, length, nat_eq, sym}
use Rattle.std.proofs.lemmas.List.{length-map}
use Rattle.facet_solver_reader.specs.Documents.{Tree, items_view, list, members_view, object, view}
use Rattle.facet_solver_reader.specs.Wanted as spec
use Rattle.facet_solver_reader.specs.declared.read_error.Wanted.TheVariants as wanted
use Rattle.facet_solver_reader.proofs.Seen.{member_seen, seen_items, seen_members}
use Rattle.facet_solver_reader.proofs.Views.{view-List, view-Object}
use Rattle.facet_solver_reader.proofs.why.wanted.is_of_kind.Goals as goal

pub returns-in-List-Values : goal.returns-in-List-Values
returns-in-List-Values c =
    let values = c.in-List-Values.items in
    let n = c.in-List-Values.count in
    let seen : view c.args.value.now ≡ list (items_view values.items) =
    ap view c.in-List-Values.is-0 ∙ view-List values in
    let len = ap length (seen_items values.items)
    ∙ (length-map values.items view ∙ (sym values.ok.0 ∙ sym c.len.ensures)) in
    ap (λ k. nat_eq k n) (sym len)
    ∙ (ap (λ (v : Tree). spec.is_of_kind v (wanted.Values n)) (sym seen)
    ∙ ap (spec.is_of_kind (view c.args.value.now)) (sym c.in-List-Values.is-1))

pub returns-in-Object-Named : goal.returns-in-Object-Named
returns-in-Object-Named c =
    let inner = c.in-Object-Named.members in
    let seen : view c.args.value.now ≡ object (members_view inner.items) =
    ap view c.in-Object-Named.is-0 ∙ view-Object inner in
    let len = ap length (seen_members inner.items)
    ∙ (length-map inner.items member_seen ∙ (sym inner.ok.0 ∙ sym c.len-in-Object-Named.ensures)) in
    ap (λ k. nat_eq k 1) (sym len)
    ∙ (ap (λ (v : Tree). spec.is_of_kind v wanted.Named) (sym seen)
    ∙ ap (spec.is_of_kind (view c.args.value.now)) (sym c.in-Object-Named.is-1))
