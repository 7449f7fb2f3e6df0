use Rattle.std.proofs.Common.{sym, ◌∙◌, ap, refl, not, ◌≡◌, false}
use Rattle.std.specs.FinSet.{insert, contains, remove}
use Rattle.std.proofs.lemmas.Cmp.{nat_list_cmp_total}
use Rattle.facet_solver_shape.specs.Resolved.{names_view}
use Rattle.facet_solver_shape.proofs.Keys.{name_cmp_same}
use Rattle.facet_solver_shape.proofs.Finite.{remove-insert, is_false, on_true}
use Rattle.facet_solver_shape.proofs.Viewed.{viewed_set-insert_key, contains_viewed}
use Rattle.facet_solver_shape.proofs.resolution.tables.name_set.NameSet.insert.Goals as goal

pub returns-clause-ok : goal.returns-clause-ok
returns-clause-ok c =
    ap names_view c.in_ok-insert.ensures.keys
    ∙ viewed_set-insert_key nat_list_cmp_total name_cmp_same (λ n. n.now) (λ x y. refl) c.args.name c.self.inside.names.keys
    ∙ ap (λ s. insert s c.args.name.now) c.self.view_is

pub returns-clause-added : goal.returns-clause-added
returns-clause-added c =
    let present = contains_viewed nat_list_cmp_total name_cmp_same (λ n. n.now) (λ x y. refl) c.args.name c.self.inside.names.keys in
    c.in_ok-insert.ensures.added ∙ ap not (sym present) ∙ ap (λ s. not (contains s c.args.name.now)) c.self.view_is

pub returns-clause-undone : goal.returns-clause-undone
returns-clause-undone c = on_true c.in_ok-insert.field-0 _ (λ is_new.
    let present = contains_viewed nat_list_cmp_total name_cmp_same (λ n. n.now) (λ x y. refl) c.args.name c.self.inside.names.keys in
    let absent : contains c.args.self.now c.args.name.now ≡ false = is_false _ (ap not (sym (ap (λ s. contains s c.args.name.now) c.self.view_is) ∙ present) ∙ sym c.in_ok-insert.ensures.added ∙ is_new) in
    ap (λ s. remove s c.args.name.now) (returns-clause-ok c) ∙ remove-insert nat_list_cmp_total name_cmp_same _ _ absent)
