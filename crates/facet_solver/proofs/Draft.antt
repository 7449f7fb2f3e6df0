-- A resolution under way, and what more of it makes of the one that it stands for.
use Rattle.std.proofs.Common.{◌≡◌, ◌∷◌, [], ◌++◌, ◌||◌, Bool, Bor, List, None, Option, Some, ap, cond, length, map, refl, sym, ◌∙◌}
use Rattle.std.specs.declared.cmp.Ordering.{Ordering}
use Rattle.std.specs.declared.cmp.Ordering.TheVariants.{Less, Equal, Greater}
use Rattle.std.specs.Cmp.Lexicographic.{slice_cmp}
use Rattle.std.specs.FinMap as finite
use Rattle.std.specs.FinMap.{find as find_at}
use Rattle.std.specs.FinMap.Entries.{by_order, put}
use Rattle.std.specs.FinSet as set
use Rattle.std.specs.Option.{option_to_list}
use Rattle.std.specs.List.{list_any}
use Rattle.std.specs.Ordering.{eq_by_cmp, is_eq, nat_cmp}
use Rattle.std.proofs.lemmas.List.{map-append, nil_from_length}
use Rattle.facet_solver_shape.specs.declared.resolution.key.FieldCategory.{FieldCategory}
use Rattle.facet_solver_shape.specs.Fields.{FieldView, key_of_field}
use Rattle.facet_solver_shape.specs.Keys.{Key, key_cmp}
use Rattle.facet_solver_shape.specs.Names.{Name, names_of}
use Rattle.facet_solver_shape.specs.Resolved.{Resolved, Selection, nothing, with_catch_all, with_field, with_key_path, with_selection}
use Rattle.facet_solver_shape.proofs.Finite.{none_is_some, or_swap}
use Rattle.facet_solver_shape.proofs.Keys.{key_cmp_total, path_cmp_same, path_cmp_total}
use Rattle.facet_solver.specs.build.Draft.{names_of_fields, paths_of, with_names}
use Rattle.facet_solver.specs.build.Nested.{KeyPath, KeyPaths, no_paths, with_key_paths}
use Rattle.facet_solver.proofs.NestedSets.{insert-union, none-union, union-insert_last, with_key_paths-insert, with_key_paths-none}

-- one of the values passes, after a value was put under a key that had none
any_put : (p : FieldView → Bool) (k : Key) (f : FieldView) (es : List (Key × FieldView)) → find_at key_cmp k es ≡ None
    → list_any p (map (λ e. e.1) (put key_cmp k f es)) ≡ (p f || list_any p (map (λ e. e.1) es))
any_put p k f [] free = refl
any_put p k f (e ∷ es) free = go (key_cmp k e.0) refl (any_put p k f es)
  where
    go : (o : Ordering) → key_cmp k e.0 ≡ o → (find_at key_cmp k es ≡ None → list_any p (map (λ e. e.1) (put key_cmp k f es)) ≡ (p f || list_any p (map (λ e. e.1) es)))
        → list_any p (map (λ e. e.1) (by_order o ((k, f) ∷ e ∷ es) ((e.0, f) ∷ es) (e ∷ put key_cmp k f es))) ≡ (p f || (p e.1 || list_any p (map (λ e. e.1) es)))
    go Less is behind = refl
    go Equal is behind = none_is_some e.1 (sym free ∙ ap (λ o. cond (is_eq o) (Some e.1) (find_at key_cmp k es)) is)
    go Greater is behind =
        let later = ap (λ o. cond (is_eq o) (Some e.1) (find_at key_cmp k es)) (sym is) ∙ free in
        ap (λ b. p e.1 || b) (behind later) ∙ or_swap (p e.1) (p f) (list_any p (map (λ e. e.1) es))

-- whether two key paths are equal
abbrev is_path : KeyPath → KeyPath → Bool
is_path = eq_by_cmp (slice_cmp (slice_cmp nat_cmp))

any_named : (q : KeyPath) (fs : List FieldView) → list_any (is_path q) (map (λ (n : Name). n ∷ []) (map (λ (f : FieldView). f.name) fs)) ≡ list_any (λ f. is_path q (f.name ∷ [])) fs
any_named q [] = refl
any_named q (f ∷ fs) = ap (λ b. is_path q (f.name ∷ []) || b) (any_named q fs)

-- the names after a field was added under a key that is free
paths-more : (r : Resolved) (f : FieldView) → finite.get r.fields (key_of_field f) ≡ None
    → paths_of (names_of_fields (with_field r f)) ≡ set.insert (paths_of (names_of_fields r)) (f.name ∷ [])
paths-more r f free = set.same_set path_cmp_total path_cmp_same _ _ (λ q.
    let p : FieldView → Bool = λ g. is_path q (g.name ∷ []) in
    let k = key_of_field f in
    set.contains-from_list path_cmp_total (map (λ (n : Name). n ∷ []) (names_of_fields (with_field r f))) q
    ∙ any_named q (finite.values (with_field r f).fields)
    ∙ ap (λ (es : List (Key × FieldView)). list_any p (map (λ e. e.1) es)) (finite.entries-insert key_cmp_total r.fields k f)
    ∙ any_put p k f (finite.entries r.fields) (sym (finite.get-entries r.fields k) ∙ free)
    ∙ ap (λ b. p f || b) (sym (set.contains-from_list path_cmp_total (map (λ (n : Name). n ∷ []) (names_of_fields r)) q ∙ any_named q (finite.values r.fields)))
    ∙ sym (set.contains-insert path_cmp_total (paths_of (names_of_fields r)) (f.name ∷ []) q))

no_entries : finite.entries nothing.fields ≡ []
no_entries = nil_from_length (finite.entries nothing.fields) (sym (finite.len-entries nothing.fields) ∙ finite.len-empty key_cmp FieldView)

pub named-nothing : with_names nothing ≡ nothing
unfolding with_names with_key_paths
named-nothing =
    ap (λ (es : List (Key × FieldView)). record nothing { key_paths = set.union no_paths (paths_of (map (λ (f : FieldView). f.name) (map (λ e. e.1) es))) }) no_entries
    ∙ ap (λ (s : KeyPaths). record nothing { key_paths = s }) (none-union no_paths)

module _ (r : Resolved) where
  -- the fields are those that are there
  pub same_fields : (with_names r).fields ≡ r.fields
  unfolding with_names with_key_paths
  same_fields = refl

  pub named-field : (f : FieldView) → finite.get r.fields (key_of_field f) ≡ None → with_names (with_field r f) ≡ with_key_path (with_field (with_names r) f) (f.name ∷ [])
  unfolding with_names with_key_paths
  named-field f free =
      ap (λ (s : KeyPaths). record (with_field r f) { key_paths = s })
      (ap (set.union r.key_paths) (paths-more r f free) ∙ union-insert_last r.key_paths (paths_of (names_of_fields r)) (f.name ∷ []))

  pub named-path : (p : KeyPath) → with_names (with_key_path r p) ≡ with_key_path (with_names r) p
  unfolding with_names with_key_paths
  named-path p = ap (λ (s : KeyPaths). record r { key_paths = s }) (insert-union r.key_paths (paths_of (names_of_fields r)) p)

  pub named-selection : (s : Selection) → with_names (with_selection r s) ≡ with_selection (with_names r) s
  unfolding with_names with_key_paths
  named-selection s = refl

  pub named-catch_all : (c : FieldCategory) (f : FieldView) → with_names (with_catch_all r c f) ≡ with_catch_all (with_names r) c f
  unfolding with_names with_key_paths
  named-catch_all c f = refl

  pub named-is : with_names r ≡ with_key_paths r (paths_of (names_of_fields r))
  unfolding with_names
  named-is = refl

  -- the last of names, and those before it
  pub named-last : (names : List Name) (last : Name) → with_key_paths r (paths_of (names ++ last ∷ [])) ≡ with_key_paths (with_key_path r (last ∷ [])) (paths_of names)
  named-last names last = ap (with_key_paths r) (pushed names) ∙ with_key_paths-insert r (paths_of names) (last ∷ [])
    where
      each : (names : List Name) → map (λ (n : Name). n ∷ []) (names ++ last ∷ []) ≡ map (λ (n : Name). n ∷ []) names ++ (last ∷ []) ∷ []
      each [] = refl
      each (n ∷ names) = ap (λ (ps : List KeyPath). (n ∷ []) ∷ ps) (each names)

      pushed : (names : List Name) → paths_of (names ++ last ∷ []) ≡ set.insert (paths_of names) (last ∷ [])
      pushed names =
          ap (λ (ps : List KeyPath). set.from_list ps) (each names)
          ∙ set.from_list_push path_cmp_total path_cmp_same (map (λ (n : Name). n ∷ []) names) (last ∷ [])

  pub named-none : with_key_paths r (paths_of []) ≡ r
  named-none = with_key_paths-none r

-- names after the last one was taken, and where there was none
pub names_popped : (items rest : List (Bor Name)) (o : Option (Bor Name)) (last : Bor Name) → items ≡ rest ++ option_to_list o → o ≡ Some last → names_of items ≡ names_of rest ++ last.now ∷ []
names_popped items rest o last e is =
    ap names_of (e ∙ ap (λ (o : Option (Bor Name)). rest ++ option_to_list o) is) ∙ map-append (λ (n : Bor Name). n.now) rest (last ∷ [])

pub names_none : (items : List (Bor Name)) → length items ≡ 0 → names_of items ≡ []
names_none items none = ap names_of (nil_from_length items none)
