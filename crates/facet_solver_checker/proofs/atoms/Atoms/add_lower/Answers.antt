use Rattle.std.proofs.Common.{◌≡◌, length, refl, subst, sym, slice_get, Some, All, List}
use Rattle.std.specs.List.{Contains}
use Rattle.std.proofs.lemmas.List.Elements.{All-contains_itself}
use Rattle.std.proofs.lemmas.Option.{slice_get_read}
use Rattle.facet_solver_checker.specs.declared.atoms.Atom.{Atom}
use Rattle.facet_solver_checker.specs.declared.atoms.Atoms.{Atoms}
use Rattle.facet_solver_checker.proofs.atoms.Atoms.add_lower.Goals as goal

pub returns-clause-added : goal.returns-clause-added
returns-clause-added c = λ l there.
    let lower = c.args.lower.now in
    let look = c.in-Some.ensures.lookup in
    let found : slice_get lower c.args.number ≡ Some c.in-Some.atoms.now =
    slice_get_read lower (length lower) c.args.number c.in-Some.atoms.now refl look.3.0 look.1 in
    let same : c.in-Some.atoms.now ≡ l = cc in
    let new = c.add_all.new.self.each.items in
    subst (λ (x : Atoms). All (Contains new) x.each.items) same
    (subst (λ (xs : List Atom). All (Contains new) xs) c.deref.ensures.value
    c.in_ok-add_all.ensures.added)
