-- Walks over nested key paths, level by level: which paths are left, and how many.
use Rattle.std.proofs.Common.{◌≡◌, inl, inr, ℕ, zero, suc, ◌≤◌, ◌<◌, ◌+◌, ◌-◌, ◌*◌, List, [], ◌∷◌, ◌++◌, Option, Some, None, Bool, true, false, refl, sym, ap, ◌∙◌, subst, length, map, arith, append_assoc, Bor}
use Rattle.std.specs.Prelude.{◌&&◌, nat_lt}
use Rattle.std.specs.Cmp.Lexicographic.{slice_cmp}
use Rattle.std.specs.FinSet as set
use Rattle.std.specs.List.{AllByRecursion}
use Rattle.std.specs.List.Sorted.{IsStrictlySortedBy}
use Rattle.std.specs.Ordering.{is_eq, nat_cmp}
use Rattle.std.specs.declared.cmp.Ordering.{Ordering}
use Rattle.std.specs.declared.cmp.Ordering.TheVariants.{Less}
use Rattle.std.proofs.lemmas.Bool.{ltb-true}
use Rattle.std.proofs.lemmas.List.{length_push, map-append}
use Rattle.std.proofs.lemmas.Map.Text.{is_eq-slice_cmp}
use Rattle.std.proofs.lemmas.Slice.Eq.{bytes_eq-Decides}
use Rattle.facet_solver_shape.specs.Names.{Name, names_of, name_ref_cmp}
use Rattle.facet_solver_shape.specs.Resolved.{Resolved, with_key_path}
use Rattle.facet_solver.specs.build.Nested.{KeyPath, KeyPaths, Under, named, no_paths, paths_of_each, with_paths_behind}
use Rattle.facet_solver.specs.build.NestedTable.{EntriesStandFor, LeadEarlier, is_filled, paths_by_name, under_at}
use Rattle.facet_solver.specs.build.NestedLevels.{names_left, paths_of_levels}
use Rattle.facet_solver.specs.build.NestedNames.{AreRising, Names, NamesLead, paths_of_names, shapes_behind}
use Rattle.facet_solver.specs.declared.build.nested.by_name.FieldsByName.{FieldsByName}
use Rattle.facet_solver.specs.declared.build.nested.names_left.Level.{Level}
use Rattle.facet_solver.specs.declared.build.nested.table.Entry.{Entry}
use Rattle.facet_solver.specs.declared.build.nested.shapes_behind.ShapesBehind.{ShapesBehind}
use Rattle.facet_solver.proofs.NestedFields.{below_limit, each-last, each_also, each_push, first_of, limit-last, limit-names, limit-some, limit_of_names, limit_of_shapes, paths-last, second_of}
use Rattle.facet_solver.proofs.NestedSets.{behind-insert, Has, Has-named_from, Has-none, Has-union, insert-union, len-more, name-union, named-insert}

-- a name with the shapes behind it
abbrev Item : Type 0
Item = Bor Name × ShapesBehind

-- ---- the paths under the shapes of a table
-- what an entry stands for, if there is one
abbrev paths_if_any : Under → Option FieldsByName → KeyPaths
paths_if_any under None = no_paths
paths_if_any under (Some fields) = paths_by_name under fields

-- the key paths under a shape by its entry, down to n levels
unfoldable pub entry_paths_within : List Entry → ℕ → Under
entry_paths_within entries zero id = no_paths
entry_paths_within entries (suc n) id = paths_if_any (entry_paths_within entries n) (under_at entries id)

-- the key paths under a shape by its entry, which leads to earlier shapes alone
unfoldable pub entry_paths : List Entry → Under
entry_paths entries id = entry_paths_within entries (suc id) id

module _ (g h : Under) (limit : ℕ) (passes : ℕ → Bool) (agree : (id : ℕ) → id < limit → g id ≡ h id) where
  each_same : (ids : List ℕ) → AllByRecursion (λ t. (nat_lt t limit && passes t) ≡ true) ids → paths_of_each g ids ≡ paths_of_each h ids
  each_same [] lead = refl
  each_same (id ∷ ids) lead =
      ap (λ (ps : KeyPaths). set.union ps (paths_of_each g ids)) (agree id (ltb-true id limit (first_of (nat_lt id limit) (passes id) lead.0)))
      ∙ ap (set.union (h id)) (each_same ids lead.1)

  names_same : (names : Names) → NamesLead (λ t. nat_lt t limit && passes t) names → paths_of_names g names ≡ paths_of_names h names
  names_same [] lead = refl
  names_same (e ∷ es) lead =
      ap (λ (ps : KeyPaths). set.union (named e.0.now ps) (paths_of_names g es)) (each_same (shapes_behind e.1) lead.0)
      ∙ ap (set.union (named e.0.now (paths_of_each h (shapes_behind e.1)))) (names_same es lead.1)

module _ (entries : List Entry) (earlier : LeadEarlier entries) where
  entry_same : (id : ℕ) (g h : Under) → ((k : ℕ) → k < id → g k ≡ h k) → (o : Option FieldsByName) → under_at entries id ≡ o → paths_if_any g o ≡ paths_if_any h o
  entry_same id g h agree None at = refl
  entry_same id g h agree (Some fields) at = names_same g h id (is_filled entries) agree fields.by_name.items (earlier.under id fields at)

  within_same : (n m id : ℕ) → id < n → id < m → entry_paths_within entries n id ≡ entry_paths_within entries m id
  unfolding entry_paths_within
  within_same zero m id p q = absurd (omega arith)
  within_same (suc n) zero id p q = absurd (omega arith)
  within_same (suc n) (suc m) id p q =
      entry_same id (entry_paths_within entries n) (entry_paths_within entries m) (λ k lt. within_same n m k (omega arith) (omega arith)) (under_at entries id) refl

  pub entry_paths-stand : EntriesStandFor (entry_paths entries) entries
  unfolding entry_paths entry_paths_within
  entry_paths-stand id fields at =
      let within = entry_paths_within entries id in
      entry_same id (entry_paths entries) within (λ k lt. within_same (suc k) id k (omega arith) lt) (Some fields) at
      ∙ ap (paths_if_any within) (sym at)

-- ---- names in rising order
sorted_last : {K : Type 0} (c : K → K → Ordering) (ks : List K) (k : K) → IsStrictlySortedBy c (ks ++ k ∷ []) → IsStrictlySortedBy c ks × AllByRecursion (λ y. c y k ≡ Less) ks
unfolding IsStrictlySortedBy
sorted_last c [] k h = (tt, tt)
sorted_last c (x ∷ xs) k h =
    let first = each-last (λ y. c x y ≡ Less) xs k h.0 in
    let later = sorted_last c xs k h.1 in
    ((first.1, later.0), (first.0, later.1))

not_before_itself : (name : Name) → slice_cmp nat_cmp name name ≡ Less → ⊥
not_before_itself name h =
    let same : is_eq (slice_cmp nat_cmp name name) ≡ true = is_eq-slice_cmp name name ∙ (bytes_eq-Decides name name).1 refl in
    let less : is_eq (slice_cmp nat_cmp name name) ≡ false = ap is_eq h in
    cc

-- no name is this one
abbrev pub IsAbsent : Name → Names → Type 0
IsAbsent name names = AllByRecursion (λ (e : Item). e.0.now ≡ name → ⊥) names

absent_above : (k : Bor Name) (names : Names) → AllByRecursion (λ y. name_ref_cmp y k ≡ Less) (map (λ (e : Item). e.0) names) → IsAbsent k.now names
absent_above k [] h = tt
absent_above k (e ∷ es) h =
    ((λ same. not_before_itself k.now (subst (λ (n : Name). slice_cmp nat_cmp n k.now ≡ Less) same h.0)), absent_above k es h.1)

rise-last : (names : Names) (e : Item) → AreRising (names ++ e ∷ []) → AreRising names × IsAbsent e.0.now names
rise-last names e h =
    let parts = sorted_last name_ref_cmp (map (λ (d : Item). d.0) names) e.0 (subst (IsStrictlySortedBy name_ref_cmp) (map-append (λ (d : Item). d.0) names (e ∷ [])) h) in
    (parts.0, absent_above e.0 names parts.1)

-- ---- levels that are under way
-- names that lead to entries below a limit
pub record AreOpen (entries : List Entry) (limit : ℕ) (names : Names) : Type 0 where
  pub lead : NamesLead (is_filled entries) names
  pub within : limit_of_names names ≤ limit
  pub rise : AreRising names

-- a level whose name is not among those beside it
pub record IsOpen (entries : List Entry) (limit : ℕ) (level : Level) : Type 0 where
  pub beside : AreOpen entries limit (names_left level.beside)
  pub absent : IsAbsent level.name.now (names_left level.beside)

module _ (entries : List Entry) (limit : ℕ) (names : Names) (e : Item) (all : AreOpen entries limit (names ++ e ∷ [])) where
  pub open-others : AreOpen entries limit names
  open-others = record {
    lead = (each-last _ names e all.lead).1;
    within = (limit-last names e limit all.within).1;
    rise = (rise-last names e all.rise).0;
  }

  pub absent-others : IsAbsent e.0.now names
  absent-others = (rise-last names e all.rise).1

-- the names of levels, which lead to the innermost
abbrev pub level_names : List Level → List (Bor Name)
level_names levels = map (λ (level : Level). level.name) levels

-- ---- what is left
-- where there are no levels
pub no_levels : (under : Under) (levels : List Level) (inside : KeyPaths) → levels ≡ [] → paths_of_levels under levels inside ≡ inside
unfolding paths_of_levels
no_levels under levels inside none = ap (λ (ls : List Level). paths_of_levels under ls inside) none

module _ (under : Under) where
  levels-push : (levels : List Level) (level : Level) (inside : KeyPaths)
      → paths_of_levels under (levels ++ level ∷ []) inside ≡ paths_of_levels under levels (set.union (named level.name.now inside) (paths_of_names under (names_left level.beside)))
  unfolding paths_of_levels
  levels-push [] level inside = refl
  levels-push (l ∷ levels) level inside =
      ap (λ (ps : KeyPaths). set.union (named l.name.now ps) (paths_of_names under (names_left l.beside))) (levels-push levels level inside)

  -- a name with nothing behind it that is left
  levels-name : (levels : List Level) (name : Name) (others : KeyPaths)
      → paths_of_levels under levels (set.union (named name no_paths) others) ≡ set.insert (paths_of_levels under levels others) (names_of (level_names levels) ++ name ∷ [])
  unfolding paths_of_levels
  levels-name [] name others = name-union name others
  levels-name (l ∷ levels) name others =
      let inside = paths_of_levels under levels others in
      let beside = paths_of_names under (names_left l.beside) in
      let path = names_of (level_names levels) ++ name ∷ [] in
      ap (λ (ps : KeyPaths). set.union (named l.name.now ps) beside) (levels-name levels name others)
      ∙ ap (λ (ps : KeyPaths). set.union ps beside) (named-insert l.name.now inside path)
      ∙ insert-union (named l.name.now inside) beside (l.name.now ∷ path)

  -- a name is gone into
  pub gone_into : (old_levels levels : List Level) (level : Level) (old_names names : Names) (shapes : ShapesBehind)
      → levels ≡ old_levels ++ level ∷ [] → old_names ≡ names_left level.beside ++ (level.name, shapes) ∷ [] → paths_of_names under names ≡ paths_of_each under (shapes_behind shapes)
      → paths_of_levels under levels (paths_of_names under names) ≡ paths_of_levels under old_levels (paths_of_names under old_names)
  gone_into old_levels levels level old_names names shapes more is inside =
      let beside = names_left level.beside in
      ap (λ (ls : List Level). paths_of_levels under ls (paths_of_names under names)) more
      ∙ levels-push old_levels level (paths_of_names under names)
      ∙ ap (λ (ps : KeyPaths). paths_of_levels under old_levels (set.union (named level.name.now ps) (paths_of_names under beside))) inside
      ∙ ap (paths_of_levels under old_levels) (paths-last (λ (e : Item). named e.0.now (paths_of_each under (shapes_behind e.1))) beside (level.name, shapes))
      ∙ ap (λ (ns : Names). paths_of_levels under old_levels (paths_of_names under ns)) (sym is)

  -- a name that leads nowhere is taken
  pub taken : (levels : List Level) (names : Names) (e : Item) → (shapes_behind e.1) ≡ []
      → paths_of_levels under levels (paths_of_names under (names ++ e ∷ [])) ≡ set.insert (paths_of_levels under levels (paths_of_names under names)) (names_of (level_names levels) ++ e.0.now ∷ [])
  taken levels names e none =
      let others = paths_of_names under names in
      ap (paths_of_levels under levels) (sym (paths-last (λ (d : Item). named d.0.now (paths_of_each under (shapes_behind d.1))) names e))
      ∙ ap (λ (ids : List ℕ). paths_of_levels under levels (set.union (named e.0.now (paths_of_each under ids)) others)) none
      ∙ levels-name levels e.0.now others

  -- a level ends
  pub ended : (levels : List Level) (level : Level)
      → paths_of_levels under (levels ++ level ∷ []) no_paths ≡ set.insert (paths_of_levels under levels (paths_of_names under (names_left level.beside))) (names_of (level_names levels) ++ level.name.now ∷ [])
  ended levels level = levels-push levels level no_paths ∙ levels-name levels level.name.now (paths_of_names under (names_left level.beside))

  -- a name that is absent leads no path
  no_path : (name : Name) (names : Names) → IsAbsent name names → (q : KeyPath) → Has (paths_of_names under names) (name ∷ q) → ⊥
  no_path name [] absent q h = Has-none (name ∷ q) h
  no_path name (e ∷ es) absent q h = elim (Has-union (named e.0.now (paths_of_each under (shapes_behind e.1))) (paths_of_names under es) (name ∷ q) h) [
    | inl here ↦ (elim (Has-named_from e.0.now (paths_of_each under (shapes_behind e.1)) (name ∷ q) here) [
      | inl same ↦ absent.0 (sym (head_same same))
      | inr deeper ↦ absent.0 (head_same deeper.2)
    ])
    | inr later ↦ no_path name es absent.1 q later
  ]
    where
      head_same : {x y : Name} {p r : KeyPath} → x ∷ p ≡ y ∷ r → x ≡ y
      head_same e = cc

  -- the path of a name that was taken is not left
  not_left : (entries : List Entry) (limit : ℕ) (levels : List Level) → AllByRecursion (IsOpen entries limit) levels → (names : Names) (name : Name) → IsAbsent name names
      → Has (paths_of_levels under levels (paths_of_names under names)) (names_of (level_names levels) ++ name ∷ []) → ⊥
  unfolding paths_of_levels
  not_left entries limit [] opened names name absent h = no_path name names absent [] h
  not_left entries limit (l ∷ levels) opened names name absent h =
      let path = names_of (level_names levels) ++ name ∷ [] in
      let inside = paths_of_levels under levels (paths_of_names under names) in
      elim (Has-union (named l.name.now inside) (paths_of_names under (names_left l.beside)) (l.name.now ∷ path) h) [
        | inl here ↦ (elim (Has-named_from l.name.now inside (l.name.now ∷ path) here) [
          | inl same ↦ (let long = length_push (names_of (level_names levels)) name in let short : length path ≡ 0 = ap length (tail_same same) in absurd (omega (arith, long, short)))
          | inr deeper ↦ not_left entries limit levels opened.1 names name absent (subst (Has inside) (tail_same deeper.2) deeper.1)
        ])
        | inr beside ↦ no_path l.name.now (names_left l.beside) opened.0.absent path beside
      ]
    where
      tail_same : {x y : Name} {p r : KeyPath} → x ∷ p ≡ y ∷ r → p ≡ r
      tail_same e = cc

  -- what is left falls by one path
  pub left-less : (entries : List Entry) (limit : ℕ) (levels : List Level) → AllByRecursion (IsOpen entries limit) levels → (names : Names) (name : Name) → IsAbsent name names
      → (before : KeyPaths) → before ≡ set.insert (paths_of_levels under levels (paths_of_names under names)) (names_of (level_names levels) ++ name ∷ [])
      → set.len before ≡ set.len (paths_of_levels under levels (paths_of_names under names)) + 1
  left-less entries limit levels opened names name absent before is =
      ap set.len is ∙ len-more (paths_of_levels under levels (paths_of_names under names)) (names_of (level_names levels) ++ name ∷ []) (not_left entries limit levels opened names name absent)

-- ---- how much is left
-- at most so many steps: a path less, or as many paths and names that lead less far
abbrev pub steps_left : ℕ → KeyPaths → Names → ℕ
steps_left limit paths names = set.len paths * (limit + 1) + limit_of_names names

pub steps-fewer_paths : (limit n m a b : ℕ) → n ≡ m + 1 → a ≤ limit → m * (limit + 1) + a < n * (limit + 1) + b
steps-fewer_paths limit n m a b is le =
    let more : n * (limit + 1) ≡ (m + 1) * (limit + 1) = ap (λ (k : ℕ). k * (limit + 1)) is in
    omega (arith, more, le)

pub steps-less_far : (limit n m a b : ℕ) → n ≡ m → a < b → n * (limit + 1) + a < m * (limit + 1) + b
steps-less_far limit n m a b is lt =
    let same : n * (limit + 1) ≡ m * (limit + 1) = ap (λ (k : ℕ). k * (limit + 1)) is in
    omega (arith, same, lt)

-- ---- a name is gone into
-- what was left is a level, and other names are inside it, which lead less far
pub record IsInside (entries : List Entry) (limit : ℕ) (base prefix : List (Bor Name)) (levels : List Level) (old_names names : Names) : Type 0 where
  pub prefix_is : prefix ≡ base ++ level_names levels
  pub opened : AreOpen entries limit names
  pub levels_open : AllByRecursion (IsOpen entries limit) levels
  pub less_far : limit_of_names names < limit_of_names old_names

module _ (entries : List Entry) (limit : ℕ) (base old_prefix prefix : List (Bor Name)) (old_levels levels : List Level) (level : Level) (old_names names : Names) (shapes : ShapesBehind)
    (opened : AreOpen entries limit old_names) (levels_open : AllByRecursion (IsOpen entries limit) old_levels) (is : old_names ≡ names_left level.beside ++ (level.name, shapes) ∷ []) where
  pub is_inside : old_prefix ≡ base ++ level_names old_levels → prefix ≡ old_prefix ++ level.name ∷ [] → levels ≡ old_levels ++ level ∷ [] → 0 < length (shapes_behind shapes)
      → ((top : ℕ) → AllByRecursion (λ id. id ≤ top) (shapes_behind shapes) → NamesLead (λ t. nat_lt t top && is_filled entries t) names) → AreRising names
      → IsInside entries limit base prefix levels old_names names
  is_inside stands pushed more some leads rise =
      let beside = names_left level.beside in
      let opened_so = subst (AreOpen entries limit) is opened in
      let far = limit-some (shapes_behind shapes) some in
      let top = limit_of_shapes (shapes_behind shapes) - 1 in
      let lead = leads top (below_limit (shapes_behind shapes) top (omega (arith, far))) in
      let lower = limit-names top (is_filled entries) names lead in
      let last = limit-last beside (level.name, shapes) (limit_of_names old_names) (subst (λ (ns : Names). limit_of_names ns ≤ limit_of_names old_names) is (omega arith)) in
      let here = last.0 in
      let all = opened.within in
      record {
        prefix_is =
            pushed
            ∙ ap (λ (ns : List (Bor Name)). ns ++ level.name ∷ []) stands
            ∙ append_assoc base (level_names old_levels) (level.name ∷ [])
            ∙ ap (λ (ns : List (Bor Name)). base ++ ns) (sym (map-append (λ (l : Level). l.name) old_levels (level ∷ [])))
            ∙ ap (λ (ls : List Level). base ++ level_names ls) (sym more);
        opened = record {
          lead = each_also _ _ (λ e. each_also _ _ (λ t h. second_of (nat_lt t top) (is_filled entries t) h) (shapes_behind e.1)) names lead;
          within = omega (arith, far, lower, here, all);
          rise = rise;
        };
        levels_open = subst (AllByRecursion (IsOpen entries limit)) (sym more)
            (each_push (IsOpen entries limit) old_levels level levels_open
            (record { beside = open-others entries limit beside (level.name, shapes) opened_so; absent = absent-others entries limit beside (level.name, shapes) opened_so }));
        less_far = omega (arith, far, lower, here);
      }

-- ---- a path is added
-- the path of a name behind levels
pub path_of : (base names full : List (Bor Name)) (name : Bor Name) → full ≡ (base ++ names) ++ name ∷ [] → names_of full ≡ names_of base ++ (names_of names ++ name.now ∷ [])
path_of base names full name is =
    ap names_of is
    ∙ ap names_of (append_assoc base names (name ∷ []))
    ∙ map-append (λ (n : Bor Name). n.now) base (names ++ name ∷ [])
    ∙ ap (λ (ns : List Name). names_of base ++ ns) (map-append (λ (n : Bor Name). n.now) names (name ∷ []))

-- a name was taken or a level ended, and its path is the next to be added
pub record IsNext (entries : List Entry) (limit : ℕ) (base prefix : List (Bor Name)) (old_levels levels : List Level) (old_names names : Names) : Type 0 where
  pub name : Bor Name
  pub prefix_is : prefix ≡ (base ++ level_names levels) ++ name ∷ []
  pub absent : IsAbsent name.now names
  pub opened : AreOpen entries limit names
  pub levels_open : AllByRecursion (IsOpen entries limit) levels
  pub left : (under : Under) → paths_of_levels under old_levels (paths_of_names under old_names)
      ≡ set.insert (paths_of_levels under levels (paths_of_names under names)) (names_of (level_names levels) ++ name.now ∷ [])

module _ (entries : List Entry) (limit : ℕ) (base : List (Bor Name)) where
  -- a name that leads nowhere
  pub next_taken : (old_prefix prefix : List (Bor Name)) (old_levels levels : List Level) (old_names names : Names) (e : Item)
      → old_prefix ≡ base ++ level_names old_levels → AreOpen entries limit old_names → AllByRecursion (IsOpen entries limit) old_levels
      → prefix ≡ old_prefix ++ e.0 ∷ [] → levels ≡ old_levels → old_names ≡ names ++ e ∷ [] → (shapes_behind e.1) ≡ []
      → IsNext entries limit base prefix old_levels levels old_names names
  next_taken old_prefix prefix old_levels levels old_names names e stands opened levels_open pushed same is none =
      let opened_so = subst (AreOpen entries limit) is opened in
      subst (λ (ls : List Level). IsNext entries limit base prefix old_levels ls old_names names) (sym same)
      (record {
        name = e.0;
        prefix_is = pushed ∙ ap (λ (ns : List (Bor Name)). ns ++ e.0 ∷ []) stands;
        absent = absent-others entries limit names e opened_so;
        opened = open-others entries limit names e opened_so;
        levels_open = levels_open;
        left = λ under. ap (λ (ns : Names). paths_of_levels under old_levels (paths_of_names under ns)) is ∙ taken under old_levels names e none;
      })

  -- a level that has no more names inside it
  pub next_ended : (prefix : List (Bor Name)) (old_levels levels : List Level) (old_names : Names) (level : Level)
      → prefix ≡ base ++ level_names old_levels → AllByRecursion (IsOpen entries limit) old_levels
      → old_levels ≡ levels ++ level ∷ [] → old_names ≡ []
      → IsNext entries limit base prefix old_levels levels old_names (names_left level.beside)
  next_ended prefix old_levels levels old_names level stands levels_open is none =
      let opens = each-last (IsOpen entries limit) levels level (subst (AllByRecursion (IsOpen entries limit)) is levels_open) in
      record {
        name = level.name;
        prefix_is =
            stands
            ∙ ap (λ (ls : List Level). base ++ level_names ls) is
            ∙ ap (λ (ns : List (Bor Name)). base ++ ns) (map-append (λ (l : Level). l.name) levels (level ∷ []))
            ∙ sym (append_assoc base (level_names levels) (level.name ∷ []));
        absent = opens.0.absent;
        opened = opens.0.beside;
        levels_open = opens.1;
        left = λ under.
            ap (λ (ns : Names). paths_of_levels under old_levels (paths_of_names under ns)) none
            ∙ ap (λ (ls : List Level). paths_of_levels under ls no_paths) is
            ∙ ended under levels level;
      }

  module _ (prefix : List (Bor Name)) (old_levels levels : List Level) (old_names names : Names) (next : IsNext entries limit base prefix old_levels levels old_names names) where
    -- there is less to do once the path was added
    pub next-smaller : (under : Under)
        → steps_left limit (paths_of_levels under levels (paths_of_names under names)) names < steps_left limit (paths_of_levels under old_levels (paths_of_names under old_names)) old_names
    next-smaller under =
        steps-fewer_paths limit
        (set.len (paths_of_levels under old_levels (paths_of_names under old_names)))
        (set.len (paths_of_levels under levels (paths_of_names under names)))
        (limit_of_names names) (limit_of_names old_names)
        (left-less under entries limit levels next.levels_open names next.name.now next.absent (paths_of_levels under old_levels (paths_of_names under old_names)) (next.left under))
        next.opened.within

    -- what is left after the path was added makes the same in all
    pub next-added : (under : Under) (r added all : Resolved)
        → with_paths_behind r (names_of base) (paths_of_levels under old_levels (paths_of_names under old_names)) ≡ all
        → added ≡ with_key_path r (names_of prefix)
        → with_paths_behind added (names_of base) (paths_of_levels under levels (paths_of_names under names)) ≡ all
    next-added under r added all in_all more =
        let after = paths_of_levels under levels (paths_of_names under names) in
        let path = names_of (level_names levels) ++ next.name.now ∷ [] in
        ap (λ (s : Resolved). with_paths_behind s (names_of base) after)
        (more ∙ ap (with_key_path r) (path_of base (level_names levels) prefix next.name next.prefix_is))
        ∙ sym (behind-insert r (names_of base) after path)
        ∙ ap (with_paths_behind r (names_of base)) (sym (next.left under))
        ∙ in_all
