-- A table that bears itself out leaves closed pairs.
use Rattle.std.proofs.Common.{◌≡◌, ◌∙◌, ◌||◌, ap, refl, sym, ℕ, Bool, true, false, All, Some}
use Rattle.std.proofs.Common.{slice_get, List}
use Rattle.std.specs.List.{Contains}
use Rattle.std.specs.Ordering.{nat_cmp}
use Rattle.std.proofs.lemmas.Cmp.{nat_cmp_total, on_total, then_total}
use Rattle.std.proofs.lemmas.List.Elements.{All-contains}
use Rattle.std.proofs.lemmas.Map.Lookups.{exact_pairs, exact_unsigned}
use Rattle.std.proofs.lemmas.Map.Views.{btree_set_contains_iff}
use Rattle.facet_solver_checker.specs.declared.apart.Apart.{Apart}
use Rattle.facet_solver_checker.specs.declared.atoms.Atom.{Atom}
use Rattle.facet_solver_checker.specs.declared.atoms.Atoms.{Atoms}
use Rattle.facet_solver_reader.specs.declared.plan.Plan.{Plan}
use Rattle.facet_solver_reader.specs.declared.plan.PlannedTarget.{PlannedTarget}
use Rattle.facet_solver_checker.specs.Aparts.{LeavesDown, are_tags_apart, has_pair, is_apart, left}
use Rattle.facet_solver_checker.specs.Apartness.{AreTargetsApart, AtomsApart, BearsOut}
use Rattle.facet_solver_checker.specs.Atoms.{HaveAtoms, IsPlanFor}
use Rattle.facet_solver_reader.specs.Choices.{Reading}
use Rattle.facet_solver_reader.specs.Documents.{Tree}
use Rattle.facet_solver_checker.specs.Pairs.{IsClosedDown}
use Rattle.facet_solver_reader.specs.Parts.{Target}
use Rattle.facet_solver_reader.specs.Plans.{IsNumberOf, Meaning}
use Rattle.facet_solver_reader.specs.Values.{ReadsDown, ReadsWithin}
use Rattle.facet_solver_checker.proofs.ReadByAtom.{IsReadByAtom, read_by_atom}
use Rattle.facet_solver_checker.proofs.TagsApart.{tags_read_none}

module _ (plan : Plan) (apart : Apart) (atoms : List Atoms) (have : HaveAtoms plan atoms)
    (m : Meaning) (is : IsPlanFor m plan)
  where
    -- two targets whose atoms are apart read no value
    pub none_read : (i j : ℕ) → AreTargetsApart plan apart atoms i j → (depth : ℕ)
        → LeavesDown m apart depth → (v : Tree)
        → IsReadByAtom m plan (ReadsDown m.rules depth) i v
        → IsReadByAtom m plan (ReadsDown m.rules depth) j v → ⊥
    none_read i j none depth leaves v a b =
        All-contains (AtomsApart plan apart a.atom) none.second.each.items b.atom
        (All-contains (λ x. All (AtomsApart plan apart x) none.second.each.items)
        none.first.each.items a.atom none.all (have i none.first a.atom none.first_is a.has))
        (have j none.second b.atom none.second_is b.has) m is depth leaves v a.is_read b.is_read

    -- so a table that bears itself out leaves closed pairs
    pub table_closed : apart.targets.now ≡ plan.targets.items → BearsOut plan apart atoms
        → IsClosedDown m.rules (left m apart)
    table_closed same bears depth leaves steps more t u v r s h g i j is_i is_j =
        go (is_apart apart i j) refl
      where
        first : IsReadByAtom m plan (ReadsDown m.rules depth) i v
        first = read_by_atom m plan is (ReadsDown m.rules depth) steps t i is_i v r h

        second : IsReadByAtom m plan (ReadsDown m.rules depth) j v
        second = read_by_atom m plan is (ReadsDown m.rules depth) more u j is_j v s g

        pick : (a : Bool) → are_tags_apart apart.targets.now i j ≡ a
            → (a || has_pair apart i j) ≡ true → ⊥
        pick true tags e =
            tags_read_none m plan (ReadsDown m.rules depth) v i j
            (ap (λ (ts : List PlannedTarget). are_tags_apart ts i j) (sym same) ∙ tags) first second
        pick false tags e = none_read i j (bears i j e) depth leaves v first second

        go : (b : Bool) → is_apart apart i j ≡ b → b ≡ false
        go false e = refl
        go true e = absurd (pick (are_tags_apart apart.targets.now i j) refl e)

-- a pair of the table is listed
pub pair_listed : (apart : Apart) (i j : ℕ) → has_pair apart i j ≡ true
    → Contains apart.pairs.keys (i, j)
pair_listed apart i j e =
    (btree_set_contains_iff
    (then_total (on_total (λ (p : ℕ × ℕ). p.0) nat_cmp_total)
    (on_total (λ (p : ℕ × ℕ). p.1) nat_cmp_total))
    (exact_pairs nat_cmp nat_cmp exact_unsigned exact_unsigned) apart.pairs (i, j)).0 e

-- if each pair that is listed reads nothing in common, the table bears itself out
pub bears_out : (plan : Plan) (apart : Apart) (atoms : List Atoms)
    → All (λ (p : ℕ × ℕ). AreTargetsApart plan apart atoms p.0 p.1) apart.pairs.keys
    → BearsOut plan apart atoms
bears_out plan apart atoms all i j e =
    All-contains (λ (p : ℕ × ℕ). AreTargetsApart plan apart atoms p.0 p.1) apart.pairs.keys (i, j)
    all (pair_listed apart i j e)
