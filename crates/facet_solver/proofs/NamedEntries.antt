-- Entries by their names.
use Rattle.std.proofs.Common.{◌≡◌, ℕ, Bool, true, false, cond, Option, Some, Bor, refl, sym, subst}
use Rattle.std.specs.BTreeMap.{BTreeMap, UpdatesBy}
use Rattle.std.specs.Cmp.Lexicographic.{slice_cmp, nat_list_eq_equiv}
use Rattle.std.specs.Ordering.{nat_cmp}
use Rattle.std.specs.Str.{bytes_eq}
use Rattle.std.proofs.lemmas.Map.Text.{btree_map_updates_str}
use Rattle.std.proofs.lemmas.Slice.Eq.{bytes_eq-Decides}
use Rattle.facet_solver_shape.specs.Names.{Name, name_eq}
use Rattle.facet_solver.specs.schema.IndexEntries.{IsAdded, IsSlotAfter, named_entry}
use Rattle.facet_solver.specs.declared.schema.index.entry.Entry.{Entry}
use Rattle.facet_solver.specs.declared.schema.index.entry.Occurrence.{Occurrence}

-- a map after the entry of a name was put, or written
pub put_entry : (m n : BTreeMap (Bor Name) Entry) (name : Name) (at : Occurrence) (w : Entry) → IsAdded (named_entry m name) at w
    → UpdatesBy (λ (x : Bor Name) (y : Bor Name). slice_cmp nat_cmp x.now y.now) (λ (k : Bor Name). slice_cmp nat_cmp name k.now) m n (Some w)
    → (q : Name) → IsSlotAfter (name_eq q name) at (named_entry m q) (named_entry n q)
put_entry m n name at w is updates q =
    subst (λ b. IsSlotAfter b at (named_entry m q) (named_entry n q)) (nat_list_eq_equiv.symm name q)
    (subst (λ (o : Option Entry). IsSlotAfter (bytes_eq name q) at (named_entry m q) o) (sym (btree_map_updates_str name m n (Some w) updates q)) (go (bytes_eq name q) refl))
  where
    go : (b : Bool) → bytes_eq name q ≡ b → IsSlotAfter b at (named_entry m q) (cond b (Some w) (named_entry m q))
    go true same =
        let named : name ≡ q = (bytes_eq-Decides name q).0 same in
        subst (λ (k : Name). IsAdded (named_entry m k) at w) named is
    go false other = refl
