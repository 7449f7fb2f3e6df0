use Rattle.std.proofs.Common.{rules, ◌≡◌, ℕ, ◌&&◌, ap, sym, ◌∙◌, Some, None, Option}
use Rattle.std.specs.Option.{option_map_or}
use Rattle.std.proofs.Math.Bool.{and-false}
use Rattle.facet_solver_shape.specs.Names.{Name, name_eq}
use Rattle.facet_solver.specs.schema.Selected.{is_in, name_of, named_set, same_variant, set_of}
use Rattle.facet_solver.specs.set.IndexSet.{IndexSet, has_index}
use Rattle.facet_solver.proofs.VariantSets.{below_of, put_below, put_first}
use Rattle.facet_solver.proofs.schema.index.variant_sets.VariantSets.of_same.Goals as goal

pub returns-in_ok-without-in-Some-clause-below : goal.returns-in_ok-without-in-Some-clause-below
returns-in_ok-without-in-Some-clause-below c =
    let none : (q : Name) → named_set c.new-named.result q ≡ None = search rules in
    below_of c.args.all.now.bound (record { named = c.insert.new.self; without = c.in_ok-without-in-Some.without })
    (put_below c.new-named.result c.insert.new.self c.in-Some.name.now c.in_ok-same.same c.in_ok-insert-in-Some.ensures.updates c.args.all.now.bound
    (ap (λ (s : IndexSet). s.bound) c.in_ok-same.ensures)
    (λ q. ap (λ (o : Option IndexSet). option_map_or (λ (t : IndexSet). t.bound) o c.args.all.now.bound) (none q)))
    (ap (λ (s : IndexSet). s.bound) c.in_ok-without-in-Some.ensures)

pub returns-in_ok-without-in-Some-clause-sets : goal.returns-in_ok-without-in-Some-clause-sets
returns-in_ok-without-in-Some-clause-sets c = λ asked index. go asked index ∙ ap (λ v. has_index all.members index && same_variant (name_of v) asked) (sym c.in-Some.is)
  where
    all : IndexSet
    all = c.args.all.now

    none : (q : Name) → named_set c.new-named.result q ≡ None
    none = search rules

    go : (asked : Option Name) (index : ℕ) → is_in (set_of (record { named = c.insert.new.self; without = c.in_ok-without-in-Some.without }) asked) index ≡ (has_index all.members index && same_variant (Some c.in-Some.name.now) asked)
    go None index = ap (λ (s : IndexSet). has_index s.members index) c.in_ok-without-in-Some.ensures ∙ sym (and-false (has_index all.members index))
    go (Some q) index =
        put_first c.new-named.result c.insert.new.self c.in-Some.name.now c.in_ok-same.same c.in_ok-insert-in-Some.ensures.updates none q index
        ∙ ap (λ (s : IndexSet). has_index s.members index && name_eq c.in-Some.name.now q) c.in_ok-same.ensures
