use Rattle.std.proofs.Common.{List, rules, IsTrue, sym, subst, ◌∙◌}
use Rattle.std.specs.List.{Contains}
use Rattle.std.proofs.lemmas.List.Elements.{All-contains}
use Rattle.facet_solver_checker.specs.declared.atoms.Atom.{Atom}
use Rattle.facet_solver_checker.specs.declared.atoms.Atom.TheVariants.{Null, Plain, Joined}
use Rattle.facet_solver_checker.specs.Atoms.{HasOwn}
use Rattle.facet_solver_checker.proofs.atoms.own_atoms.Goals as goal

pub returns : goal.returns
returns c = go
  where
    last : List Atom
    last = c.add_joined.new.self.each.items

    go : (a : Atom) → HasOwn c.args.number c.args.end.now a → Contains last a
    go Null h =
        All-contains (Contains last) c.add_if-2.new.self.each.items Null
        c.in_ok-add_joined.ensures.kept
        (All-contains (Contains c.add_if-2.new.self.each.items) c.add_if.new.self.each.items Null
        c.in_ok-add_if-2.ensures.kept (c.in_ok-add_if.ensures.added (c.has_null.ensures ∙ h)))
    go (Plain n) h =
        subst (λ k. Contains last (Plain k)) h.1
        (All-contains (Contains last) c.add_if-2.new.self.each.items (Plain c.args.number)
        c.in_ok-add_joined.ensures.kept
        (c.in_ok-add_if-2.ensures.added (c.is_plain.ensures ∙ h.0)))
    go (Joined n) h = c.in_ok-add_joined.ensures.added n (c.joined_of.ensures ∙ h)
