-- Sets of names behind references, while a loop fills them.
use Rattle.std.proofs.Common.{◌≡◌, Bool, true, false, ◌||◌, List, [], ◌∷◌, ◌++◌, Bor, map, refl, ap, sym, ◌∙◌}
use Rattle.std.specs.BTreeMap.{is_at}
use Rattle.std.specs.BTreeSet.{insert_key}
use Rattle.std.specs.Cmp.Lexicographic.{slice_cmp}
use Rattle.std.specs.FinSet as set
use Rattle.std.specs.List.{list_any}
use Rattle.std.specs.Ordering.{eq_by_cmp, nat_cmp}
use Rattle.std.proofs.lemmas.Cmp.{nat_list_cmp_total}
use Rattle.std.proofs.lemmas.List.Folds.{list_any-append}
use Rattle.std.proofs.Math.Bool.{or-false}
use Rattle.facet_solver_shape.specs.Fields.{FieldView}
use Rattle.facet_solver_shape.specs.Keys.{Key}
use Rattle.facet_solver_shape.specs.Names.{Name, name_ref_cmp}
use Rattle.facet_solver_shape.specs.Resolved.{names_view}
use Rattle.facet_solver_shape.proofs.Keys.{name_cmp_same}
use Rattle.facet_solver_shape.proofs.Viewed.{contains_viewed, viewed_set-insert_key}

-- whether a name is in a list
abbrev pub in_list : List Name → Name → Bool
in_list names q = list_any (eq_by_cmp (slice_cmp nat_cmp) q) names

-- whether a name is among keys or in a list
abbrev pub in_both : List (Bor Name) → List Name → Name → Bool
in_both keys names q = set.contains (names_view keys) q || in_list names q

-- the names of the fields of entries
abbrev pub names_of_entries : List (Key × FieldView) → List Name
names_of_entries entries = map (λ (f : FieldView). f.name) (map (λ (e : Key × FieldView). e.1) entries)

-- the keys and the names that are left are all that are wanted
abbrev pub Fills : List (Bor Name) → List Name → (Name → Bool) → Type 0
Fills keys left wanted = (q : Name) → in_both keys left q ≡ wanted q

or_swap : (a b c : Bool) → ((a || b) || c) ≡ (b || (a || c))
or_swap true true c = refl
or_swap true false c = refl
or_swap false b c = refl

-- at the start
pub fills_start : (keys : List (Bor Name)) (names : List Name) → keys ≡ [] → Fills keys names (in_list names)
fills_start keys names none q =
    ap (λ ks. in_both ks names q) none ∙ ap (λ b. b || in_list names q) (set.contains-empty (slice_cmp nat_cmp) q)

-- after one more name
pub fills_more : (old new : List (Bor Name)) (name : Bor Name) (left : List Name) (wanted : Name → Bool)
    → Fills old (name.now ∷ left) wanted → new ≡ insert_key name_ref_cmp old name → Fills new left wanted
fills_more old new name left wanted before made q =
    ap (λ s. set.contains s q || in_list left q) (ap names_view made ∙ viewed_set-insert_key nat_list_cmp_total name_cmp_same (λ n. n.now) (λ x y. refl) name old)
    ∙ ap (λ b. b || in_list left q) (set.contains-insert nat_list_cmp_total (names_view old) name.now q)
    ∙ or_swap (eq_by_cmp (slice_cmp nat_cmp) q name.now) (set.contains (names_view old) q) (in_list left q)
    ∙ before q

-- at the end
pub fills_end : (keys : List (Bor Name)) (wanted : Name → Bool) → Fills keys [] wanted → (q : Name) → set.contains (names_view keys) q ≡ wanted q
fills_end keys wanted done q = sym (or-false (set.contains (names_view keys) q)) ∙ done q

-- which are the names of a list
pub filled_list : (keys : List (Bor Name)) (names : List Name) → Fills keys [] (in_list names) → names_view keys ≡ set.from_list names
filled_list keys names done =
    set.same_set nat_list_cmp_total name_cmp_same (names_view keys) (set.from_list names)
    (λ q. fills_end keys (in_list names) done q ∙ sym (set.contains-from_list nat_list_cmp_total names q))

-- or those of a list besides others
pub filled_both : (old new : List (Bor Name)) (names : List Name) → Fills new [] (in_both old names) → names_view new ≡ set.union (names_view old) (set.from_list names)
filled_both old new names done =
    set.same_set nat_list_cmp_total name_cmp_same (names_view new) (set.union (names_view old) (set.from_list names))
    (λ q. fills_end new (in_both old names) done q
    ∙ ap (λ b. set.contains (names_view old) q || b) (sym (set.contains-from_list nat_list_cmp_total names q))
    ∙ sym (set.contains-union nat_list_cmp_total (names_view old) (set.from_list names) q))

-- after the names of a list
pub fills_union : (old new : List (Bor Name)) (names left : List Name) (wanted : Name → Bool)
    → Fills old (names ++ left) wanted → names_view new ≡ set.union (names_view old) (set.from_list names) → Fills new left wanted
fills_union old new names left wanted before made q =
    ap (λ s. set.contains s q || in_list left q) made
    ∙ ap (λ b. b || in_list left q) (set.contains-union nat_list_cmp_total (names_view old) (set.from_list names) q ∙ ap (λ b. set.contains (names_view old) q || b) (set.contains-from_list nat_list_cmp_total names q))
    ∙ or_assoc (set.contains (names_view old) q) (in_list names q) (in_list left q)
    ∙ ap (λ b. set.contains (names_view old) q || b) (sym (list_any-append (eq_by_cmp (slice_cmp nat_cmp) q) names left))
    ∙ before q
  where
    or_assoc : (a b c : Bool) → ((a || b) || c) ≡ (a || (b || c))
    or_assoc true b c = refl
    or_assoc false b c = refl

-- whether a name is among keys
pub contains_name : (keys : List (Bor Name)) (name : Bor Name) → set.contains (names_view keys) name.now ≡ list_any (is_at (name_ref_cmp name)) keys
contains_name keys name = contains_viewed nat_list_cmp_total name_cmp_same (λ n. n.now) (λ x y. refl) name keys
