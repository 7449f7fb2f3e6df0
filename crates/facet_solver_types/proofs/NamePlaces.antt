-- The places of names, one by one.
use Rattle.std.proofs.Common.{◌≡◌, ℕ, zero, suc, ◌+◌, ◌-◌, ◌<◌, ◌≤◌, ◌≢◌, Bool, true, false, cond, not, List, [], ◌∷◌, ◌++◌, Some, None, Bor, length, get_or, set, drop, refl, sym, ap, ◌∙◌, arith, inl, inr, append_assoc, add-one}
use Rattle.std.specs.BTreeMap.{BTreeMap, IsEmpty, UpdatesBy, get_by}
use Rattle.std.specs.Cmp.Lexicographic.{slice_cmp}
use Rattle.std.specs.Option.{unwrap_or}
use Rattle.std.specs.Ordering.{nat_cmp}
use Rattle.std.specs.Map.{lookup}
use Rattle.std.specs.BTreeMap.{is_at}
use Rattle.std.specs.Str.{bytes_eq}
use Rattle.std.proofs.Math.Seq.{drop-cons}
use Rattle.std.proofs.lemmas.Bool.{cases_eq}
use Rattle.std.proofs.lemmas.List.{drop-drop, drop_all, get_or-drop, get_or-map, get_or-set_other, get_or-set_same, length-drop, length-set}
use Rattle.std.proofs.lemmas.List.Sums.{passes_at_first, prefix_len-drop_all, prefix_len-drop_no, prefix_len-drop_yes}
use Rattle.std.proofs.lemmas.Map.Text.{btree_map_updates_str}
use Rattle.std.proofs.lemmas.Slice.Eq.{bytes_eq-Decides}
use Rattle.facet_solver_shape.specs.Names.{Name, name_eq, names_of}
use Rattle.facet_solver_types.specs.Links.{place_in}
use Rattle.facet_solver_types.specs.NamePlaces.{HasFirst, HasNext, next_place, place_or, places_from, places_of}

-- what stands at a place does not hang on what stands nowhere
pub same_read : {X : Type 0} (xs : List X) (k : ℕ) (d e : X) → k < length xs
    → get_or xs k d ≡ get_or xs k e
same_read [] k d e h = absurd (omega arith)
same_read (x ∷ xs) zero d e h = refl
same_read (x ∷ xs) (suc k) d e h = same_read xs k d e (omega arith)

-- what names say at a place
pub named_at : (items : List (Bor Name)) (k : ℕ) (x : Bor Name)
    → x ≡ get_or items k x → k < length items → x.now ≡ get_or (names_of items) k []
named_at items k x is inside =
    ap (λ n. n.now) is ∙ sym (get_or-map (λ n. n.now) items k x [] inside)

-- ---- one place after the other

module _ (names : List Name) (place : ℕ) (name : Name) where
  -- the name stands at a place
  pub next_here : place < length names → name_eq (get_or names place []) name ≡ true
      → next_place names place name ≡ place
  next_here less same =
      let none : place_in (drop place names) name ≡ 0 =
      prefix_len-drop_no (λ other. not (name_eq other name)) names place [] less (ap not same) in
      omega arith

  -- another name stands there
  pub next_behind : place < length names → name_eq (get_or names place []) name ≡ false
      → next_place names place name ≡ next_place names (place + 1) name
  next_behind less other =
      let more : place_in (drop place names) name ≡ 1 + place_in (drop (place + 1) names) name =
      prefix_len-drop_yes (λ other. not (name_eq other name)) names place [] less (ap not other) in
      omega arith

  -- no name stands there
  pub next_past : place ≡ length names → next_place names place name ≡ length names
  next_past past =
      let none : place_in (drop place names) name ≡ 0 =
      prefix_len-drop_all (λ other. not (name_eq other name)) names place (omega arith) in
      omega arith

-- ---- first places

-- no place from the end on is a first one
pub first_none : (names : List Name) (place : ℕ) (first : BTreeMap (Bor Name) ℕ)
    → place ≡ length names → IsEmpty first → HasFirst names place first
first_none names place first past empty name =
    ap (λ es. unwrap_or (lookup (is_at (λ (k : Bor Name). slice_cmp nat_cmp name k.now)) es) (length names)) empty
    ∙ sym (next_past names place name past)

-- what stands at a place is its first name from there on
pub first_more : (names : List Name) (place later : ℕ) (name : Name) (m n : BTreeMap (Bor Name) ℕ)
    → later ≡ place + 1 → place < length names → name ≡ get_or names place []
    → UpdatesBy (λ (x : Bor Name) (y : Bor Name). slice_cmp nat_cmp x.now y.now)
    (λ (k : Bor Name). slice_cmp nat_cmp name k.now) m n (Some place)
    → HasFirst names later m → HasFirst names place n
first_more names place later name m n behind less named updates had q =
    ap (λ o. unwrap_or o (length names)) (btree_map_updates_str name m n (Some place) updates q)
    ∙ go (bytes_eq name q) refl
  where
    go : (b : Bool) → bytes_eq name q ≡ b
        → unwrap_or (cond b (Some place) (get_by (λ k. slice_cmp nat_cmp q k.now) m)) (length names)
        ≡ next_place names place q
    go true same =
        sym (next_here names place q less (ap (λ x. name_eq x q) (sym named) ∙ same))
    go false other =
        had q
        ∙ ap (λ at. next_place names at q) behind
        ∙ sym (next_behind names place q less (ap (λ x. name_eq x q) (sym named) ∙ other))

-- ---- next places

-- no place from the end on has a next one
pub next_none : (names : List Name) (place : ℕ) (next : List ℕ)
    → length next ≡ length names → place ≡ length names → HasNext names place next
next_none names place next long past = record {
  long = long;
  told = λ k d low less. absurd (omega (arith, past, low, less));
}

-- what stands behind a place, where its next one is put
pub next_more : (names : List Name) (place later put : ℕ) (next : List ℕ)
    → later ≡ place + 1 → place < length names
    → put ≡ next_place names later (get_or names place [])
    → HasNext names later next → HasNext names place (set next place put)
next_more names place later put next behind less is had = record {
  long = length-set next place put ∙ had.long;
  told = told;
}
  where
    told : (k : ℕ) (d : Name) → place ≤ k → k < length names
        → get_or (set next place put) k 0 ≡ next_place names (k + 1) (get_or names k d)
    told k d low high =
        elim (cases_eq k place) [
          | inl same ↦
              ap (λ at. get_or (set next place put) at 0) same
              ∙ get_or-set_same next place put 0 (omega (arith, had.long, less))
              ∙ is
              ∙ ap (λ at. next_place names at (get_or names place [])) (behind ∙ ap (λ at. at + 1) (sym same))
              ∙ ap (next_place names (k + 1)) (same_read names place [] d less ∙ ap (λ at. get_or names at d) (sym same))
          | inr other ↦
              get_or-set_other next place k put 0 other ∙ had.told k d (omega (arith, behind, low, other)) high
        ]

-- ---- all places of a name

-- those before the first are none
jump : (at : ℕ) (name : Name) (names : List Name) (p : ℕ) → p ≡ place_in names name
    → places_from at name names ≡ places_from (at + p) name (drop p names)
jump at name [] p is = ap (λ n. places_from (at + n) name (drop n [])) (sym is)
jump at name (x ∷ xs) p is = go (name_eq x name) refl (jump (at + 1) name xs (place_in xs name) refl)
  where
    go : (b : Bool) → name_eq x name ≡ b
        → places_from (at + 1) name xs
        ≡ places_from (at + 1 + place_in xs name) name (drop (place_in xs name) xs)
        → places_from at name (x ∷ xs) ≡ places_from (at + p) name (drop p (x ∷ xs))
    go true same rest =
        let none : 0 ≡ p = sym (is ∙ ap (λ b. cond (not b) (1 + place_in xs name) 0) same) in
        let still : at ≡ at + 0 = omega arith in
        ap (λ n. places_from n name (x ∷ xs)) still
        ∙ ap (λ n. places_from (at + n) name (drop n (x ∷ xs))) none
    go false other rest =
        let found : p ≡ 1 + place_in xs name =
        is ∙ ap (λ b. cond (not b) (1 + place_in xs name) 0) other in
        let some : suc (place_in xs name) ≡ p = omega arith in
        let moved : at + 1 + place_in xs name ≡ at + suc (place_in xs name) = omega arith in
        ap (λ b. cond b (at ∷ []) [] ++ places_from (at + 1) name xs) other
        ∙ rest
        ∙ ap (λ n. places_from n name (drop (place_in xs name) xs)) moved
        ∙ ap (λ n. places_from (at + n) name (drop n (x ∷ xs))) some

module _ (names : List Name) (name : Name) where
  -- the places from one on, from the next place of the name on
  places_next : (at : ℕ) → places_from at name (drop at names)
      ≡ places_from (next_place names at name) name (drop (next_place names at name) names)
  places_next at =
      let p = place_in (drop at names) name in
      jump at name (drop at names) p refl ∙ ap (places_from (at + p) name) (drop-drop p at names)

  -- a place of the name, and those behind it
  places_here : (at : ℕ) → at < length names → name_eq (get_or names at []) name ≡ true
      → places_from at name (drop at names) ≡ at ∷ places_from (at + 1) name (drop (at + 1) names)
  places_here at less same =
      ap (places_from at name) (drop-cons names at [] less)
      ∙ ap (λ b. cond b (at ∷ []) [] ++ places_from (at + 1) name (drop (suc at) names)) same
      ∙ ap (λ n. at ∷ places_from (at + 1) name (drop n names)) (sym (add-one at))

  -- the places so far, and those from a place of the name on
  pub record Walked (found : List ℕ) (at : ℕ) : Type 0 where
    pub all : places_of name names ≡ found ++ places_from at name (drop at names)
    pub here : at < length names → name_eq (get_or names at []) name ≡ true

  -- the name stands at its next place, if there is one
  next_named : (at : ℕ) → at ≤ length names → next_place names at name < length names
      → name_eq (get_or names (next_place names at name) []) name ≡ true
  next_named at within less =
      let p = place_in (drop at names) name in
      let short : p < length (drop at names) = omega (arith, length-drop at names, less, within) in
      ap (λ x. name_eq x name) (sym (get_or-drop at names p []))
      ∙ passes_at_first (λ other. name_eq other name) (drop at names) [] short

  pub walk_start : (at : ℕ) → at ≡ place_in names name → Walked [] at
  walk_start at is =
      let first : next_place names 0 name ≡ at = omega (arith, is) in
      record {
        all = places_next 0 ∙ ap (λ n. places_from n name (drop n names)) first;
        here = λ less. ap (λ n. name_eq (get_or names n []) name) (sym first)
            ∙ next_named 0 (omega arith) (omega (arith, first, less));
      }

  pub walk_more : (found : List ℕ) (at next : ℕ) → at < length names
      → next ≡ next_place names (at + 1) (get_or names at [])
      → Walked found at → Walked (found ++ at ∷ []) next
  walk_more found at next less is walked =
      let named : get_or names at [] ≡ name = (bytes_eq-Decides (get_or names at []) name).0 (walked.here less) in
      let told : next_place names (at + 1) name ≡ next = sym (is ∙ ap (next_place names (at + 1)) named) in
      record {
        all = walked.all
            ∙ ap (λ l. found ++ l) (places_here at less (walked.here less))
            ∙ sym (append_assoc found (at ∷ []) (places_from (at + 1) name (drop (at + 1) names)))
            ∙ ap (λ l. (found ++ at ∷ []) ++ l) (places_next (at + 1) ∙ ap (λ n. places_from n name (drop n names)) told);
        here = λ low. ap (λ n. name_eq (get_or names n []) name) (sym told)
            ∙ next_named (at + 1) (omega arith) (omega (arith, told, low));
      }

  -- behind all names there are no more places
  pub walk_end : (found : List ℕ) (at : ℕ) → length names ≤ at → Walked found at
      → found ≡ places_of name names
  walk_end found at past walked =
      sym (walked.all ∙ ap (λ l. found ++ places_from at name l) (drop_all at names past) ∙ append_nil found)
    where
      append_nil : (xs : List ℕ) → xs ++ [] ≡ xs
      append_nil [] = refl
      append_nil (x ∷ xs) = ap (λ l. x ∷ l) (append_nil xs)
