-- Names before a place, by the first place of each.
use Rattle.std.proofs.Common.{◌≡◌, ℕ, zero, suc, ◌+◌, ◌<◌, ◌≤◌, Bool, true, false, ◌||◌, cond, not, List, [], ◌∷◌, Bor, length, ltb, map, take, refl, sym, ap, ◌∙◌, arith}
use Rattle.std.specs.List.{list_any, position_or_len}
use Rattle.std.proofs.lemmas.List.{length-map, take_all}
use Rattle.std.proofs.lemmas.Bool.Decides.{Decides-like, Decides-ltb, same_from_decides}
use Rattle.facet_solver_shape.specs.Names.{Name, name_eq, names_of}
use Rattle.facet_solver_shape.proofs.Lists.{list_any-map}
use Rattle.facet_solver_types.specs.DeclaredEntries.{has_id}
use Rattle.facet_solver_types.specs.Links.{ids, place_in}
use Rattle.facet_solver_types.specs.Named.{Named, is_among}
use Rattle.facet_solver_types.specs.NamedTexts.{texts}
use Rattle.facet_solver_types.specs.NamePlaces.{has_name}
use Rattle.facet_solver_types.specs.TypeEntries.{TypeEntry}

-- two numbers are in the order of two others
same_order : (a b c d : ℕ) → (a < b → c < d) → (c < d → a < b) → ltb a b ≡ ltb c d
same_order a b c d there back =
    same_from_decides (ltb a b) (ltb c d) (Decides-ltb a b) (Decides-like (ltb c d) back there (Decides-ltb c d))

-- one of those before a place passes a test if the first that passes stands before it
any_before : {X : Type 0} (p : X → Bool) (xs : List X) (n : ℕ) → n ≤ length xs
    → list_any p (take n xs) ≡ ltb (position_or_len p xs) n
any_before p [] zero within = same_order 0 0 0 0 (λ h. h) (λ h. h) ∙ none
  where
    none : ltb 0 0 ≡ false
    none = refl
any_before p [] (suc n) within = absurd (omega arith)
any_before p (x ∷ xs) zero within = sym (past (position_or_len p (x ∷ xs)))
  where
    past : (a : ℕ) → ltb a 0 ≡ false
    past a = same_order a 0 0 0 (λ h. absurd (omega arith)) (λ h. absurd (omega arith))
any_before p (x ∷ xs) (suc n) within = go (p x) (any_before p xs n (omega arith))
  where
    go : (b : Bool) → list_any p (take n xs) ≡ ltb (position_or_len p xs) n
        → (b || list_any p (take n xs)) ≡ ltb (cond (not b) (1 + position_or_len p xs) 0) (suc n)
    go true rest = sym (same_order 0 (suc n) 0 1 (λ h. omega arith) (λ h. omega arith))
    go false rest =
        rest
        ∙ same_order (position_or_len p xs) n (1 + position_or_len p xs) (suc n) (λ h. omega arith) (λ h. omega arith)

-- the first of what f makes that passes a test
position-map : {X Y : Type 0} (p : Y → Bool) (f : X → Y) (xs : List X)
    → position_or_len p (map f xs) ≡ position_or_len (λ x. p (f x)) xs
position-map p f [] = refl
position-map p f (x ∷ xs) = ap (λ n. cond (not (p (f x))) (1 + n) 0) (position-map p f xs)

-- a name is one of some if its place stands before their number
pub has_by_place : (names : List (Bor Name)) (name : Name)
    → ltb (place_in (names_of names) name) (length names) ≡ has_name (names_of names) name
has_by_place names name =
    ap (ltb (place_in (names_of names) name)) (sym (length-map names (λ n. n.now)))
    ∙ sym (any_before (λ one. name_eq one name) (names_of names) (length (names_of names)) (omega arith))
    ∙ ap (list_any (λ one. name_eq one name)) (take_all (length (names_of names)) (names_of names) (omega arith))

-- a name is among those before a place
pub among_before : {X : Type 0} (view : X → Named) (xs : List X) (name : Name) (at : ℕ)
    → at ≤ length xs
    → is_among name (map view (take at xs)) ≡ ltb (place_in (texts (map view xs)) name) at
among_before view xs name at within =
    list_any-map (λ (n : Named). name_eq n.name name) view (take at xs)
    ∙ any_before (λ x. name_eq (view x).name name) xs at within
    ∙ ap (λ n. ltb n at)
    (sym (position-map (λ o. name_eq o name) (λ (n : Named). n.name) (map view xs)
    ∙ position-map (λ (n : Named). name_eq n.name name) view xs))

-- an id is that of a type before a place
pub id_before : {X : Type 0} (view : X → TypeEntry) (xs : List X) (id : Name) (at : ℕ)
    → at ≤ length xs
    → has_id id (map view (take at xs)) ≡ ltb (place_in (ids (map view xs)) id) at
id_before view xs id at within =
    list_any-map (λ (e : TypeEntry). name_eq e.id id) view (take at xs)
    ∙ any_before (λ x. name_eq (view x).id id) xs at within
    ∙ ap (λ n. ltb n at)
    (sym (position-map (λ o. name_eq o id) (λ (e : TypeEntry). e.id) (map view xs)
    ∙ position-map (λ (e : TypeEntry). name_eq e.id id) view xs))
