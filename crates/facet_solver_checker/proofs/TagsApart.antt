-- Targets that are texts of different tags read no value in common.
use Rattle.std.proofs.Common.{◌≡◌, ◌∙◌, ap, subst, refl, sym, ℕ, Bool, true, false, not, IsTrue}
use Rattle.std.proofs.Common.{List, Option, Some, None, Bor, slice_get}
use Rattle.std.specs.Str.{bytes_eq}
use Rattle.std.proofs.lemmas.Slice.Eq.{bytes_eq-Decides}
use Rattle.facet_solver_shape.specs.Names.{Name}
use Rattle.facet_solver_checker.specs.declared.atoms.Atom.{Atom}
use Rattle.facet_solver_checker.specs.declared.atoms.Atom.TheVariants.{Null, Plain, Joined}
use Rattle.facet_solver_reader.specs.declared.plan.Plan.{Plan}
use Rattle.facet_solver_reader.specs.declared.plan.PlannedEnd.{PlannedEnd}
use Rattle.facet_solver_reader.specs.declared.plan.PlannedEnd.TheVariants as planned
use Rattle.facet_solver_reader.specs.declared.plan.PlannedTarget.{PlannedTarget}
use Rattle.facet_solver_checker.specs.Aparts.{are_other_tags, are_tags_apart, are_tags_there}
use Rattle.facet_solver_checker.specs.Atoms.{AsksNumber, HasAtom, by_itself, as_asked, HasOwn}
use Rattle.facet_solver_checker.specs.Atoms.{ReadsAs, ReadsAtom, has_null, joined_of}
use Rattle.facet_solver_reader.specs.Documents.{Tree, text}
use Rattle.facet_solver_reader.specs.Objects.{Reads}
use Rattle.facet_solver_reader.specs.Plans.{Meaning}
use Rattle.facet_solver_checker.proofs.ReadByAtom.{IsReadByAtom}

-- a value that is read as the text of a tag is this text
text_of : (m : Meaning) (reads : Reads) (x : Bor Name) (v : Tree)
    → ReadsAs m reads (planned.Tag x) v → v ≡ text x.now
text_of m reads x (text y) h = ap text h
text_of m reads x v h = absurd h

module _ (m : Meaning) (plan : Plan) (reads : Reads) (v : Tree) where
  -- so by an atom that the tag has by itself
  own_text : (i : ℕ) (a : Atom) (t : PlannedTarget) (x : Bor Name) → t.end ≡ planned.Tag x
      → slice_get plan.targets.items i ≡ Some t → HasOwn i t.end a → ReadsAtom m plan reads a v
      → v ≡ text x.now
  own_text i Null t x is at own h =
      let no : false ≡ true = subst (λ (e : PlannedEnd). IsTrue (has_null e)) is own in absurd (cc)
  own_text i (Plain n) t x is at own h =
      let number : i ≡ n = own.1 in
      let there : slice_get plan.targets.items n ≡ Some h.target = h.target_is in
      let same : h.target ≡ t = cc in
      text_of m reads x v
      (subst (λ (e : PlannedEnd). ReadsAs m reads e v)
      (ap (λ (u : PlannedTarget). u.end) same ∙ is) h.is_read)
  own_text i (Joined n) t x is at own h =
      let no : None ≡ Some n = subst (λ (e : PlannedEnd). joined_of e ≡ Some n) is own in
      absurd (cc)

  -- and by each that it has
  atom_text : {i : ℕ} {a : Atom} → HasAtom plan i a → (t : PlannedTarget) (x : Bor Name)
      → t.end ≡ planned.Tag x → slice_get plan.targets.items i ≡ Some t
      → ReadsAtom m plan reads a v → v ≡ text x.now
  atom_text (by_itself j u a e own) t x is at h =
      let same : u ≡ t = cc in
      own_text j a t x is at (subst (λ (w : PlannedTarget). HasOwn j w.end a) same own) h
  atom_text (as_asked j k u a e asks below) t x is at h =
      let same : u ≡ t = cc in
      absurd (subst (λ (w : PlannedEnd). AsksNumber w k)
      (ap (λ (w : PlannedTarget). w.end) same ∙ is)
      asks)

  -- two ends that are texts of different tags
  others : (t u : PlannedTarget) (e f : PlannedEnd) → t.end ≡ e → u.end ≡ f
      → are_other_tags e f ≡ true → ((x : Bor Name) → t.end ≡ planned.Tag x → v ≡ text x.now)
      → ((y : Bor Name) → u.end ≡ planned.Tag y → v ≡ text y.now) → ⊥
  others t u (planned.Tag x) (planned.Tag y) is_t is_u differ first second =
      let both : text x.now ≡ text y.now = sym (first x is_t) ∙ second y is_u in
      let same : x.now ≡ y.now = cc in
      let equal : bytes_eq x.now y.now ≡ true = (bytes_eq-Decides x.now y.now).1 same in
      let no : not true ≡ true = ap not (sym equal) ∙ differ in absurd (cc)
  others t u e f is_t is_u differ first second = absurd (cc)

  -- two targets that are
  pub tags_read_none : (i j : ℕ) → are_tags_apart plan.targets.items i j ≡ true
      → IsReadByAtom m plan reads i v → IsReadByAtom m plan reads j v → ⊥
  tags_read_none i j differ first second =
      go (slice_get plan.targets.items i) refl (slice_get plan.targets.items j) refl differ
    where
      go : (o : Option PlannedTarget) → slice_get plan.targets.items i ≡ o
          → (p : Option PlannedTarget) → slice_get plan.targets.items j ≡ p
          → are_tags_there o p ≡ true → ⊥
      go (Some t) at_i (Some u) at_j e =
          others t u t.end u.end refl refl e
          (λ x is. atom_text first.has t x is at_i first.is_read)
          (λ y is. atom_text second.has u y is at_j second.is_read)
      go (Some t) at_i None at_j e = absurd (cc)
      go None at_i p at_j e = absurd (cc)
