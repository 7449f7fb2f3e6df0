-- A field is matched by a seen key where its name is among those that are kept for its category.
use Rattle.std.proofs.Common.{◌≡◌, Bool, true, false, cond, ◌||◌, ◌&&◌, not, List, [], ◌∷◌, Option, Some, None, Bor, filter, map, refl, ap, sym, ◌∙◌}
use Rattle.std.specs.Cmp.Lexicographic.{slice_cmp}
use Rattle.std.specs.FinSet as set
use Rattle.std.specs.List.{list_any}
use Rattle.std.specs.Ordering.{nat_cmp}
use Rattle.std.proofs.Math.Bool.{and-false, and-true, or-false}
use Rattle.facet_solver_shape.specs.declared.resolution.key.FieldCategory.{FieldCategory}
use Rattle.facet_solver_shape.specs.declared.resolution.key.FieldCategory.TheVariants.{Flat, Attribute, Element, Text, Tag, Elements}
use Rattle.facet_solver_shape.specs.declared.resolution.key.FieldKey.{FieldKey}
use Rattle.facet_solver_shape.specs.Fields.{FieldView, is_unnamed, means, takes_any_name}
use Rattle.facet_solver_shape.specs.Keys.{Key, key_of}
use Rattle.facet_solver_shape.specs.Names.{Name, name_eq}
use Rattle.facet_solver_shape.specs.Resolved.{names_view}
use Rattle.facet_solver.specs.solver.Failure.{is_met}
use Rattle.facet_solver.specs.solver.SeenNames.{AreSeenNames, may_match, names_for, of_category}
use Rattle.facet_solver.specs.declared.solver.report.seen.SeenNames.{SeenNames}
use Rattle.facet_solver.proofs.Verdict.{contains-names_among}

-- no name is taken for any other
plain : (a b : Bool) → a ≡ (a || (b && false))
plain a b = sym (ap (λ c. a || c) (and-false b) ∙ or-false a)

-- a key matches by its kind, and then by its name
by_kind_and_name : (dom : Option FieldCategory) (asked : Name) (category : FieldCategory) (name : Name)
    → means dom asked category name ≡ (may_match dom category && (name_eq asked name || (is_unnamed asked && takes_any_name category)))
by_kind_and_name dom asked Flat name = plain (name_eq asked name) (is_unnamed asked)
by_kind_and_name None asked Attribute name = and-false (name_eq asked name)
by_kind_and_name None asked Element name = and-true (name_eq asked name) ∙ plain (name_eq asked name) (is_unnamed asked)
by_kind_and_name None asked Text name = and-false (name_eq asked name)
by_kind_and_name None asked Tag name = and-false (name_eq asked name)
by_kind_and_name None asked Elements name = and-false (name_eq asked name)
by_kind_and_name (Some c) asked Attribute name = refl
by_kind_and_name (Some c) asked Element name = refl
by_kind_and_name (Some c) asked Text name = refl
by_kind_and_name (Some c) asked Tag name = refl
by_kind_and_name (Some c) asked Elements name = refl

-- the empty name is the one without bytes
unnamed : (asked : Name) → is_unnamed asked ≡ name_eq asked []
unnamed [] = refl
unnamed (b ∷ asked) = refl

step : (p a u t A U : Bool) → ((p && (a || (u && t))) || (A || (t && U))) ≡ (((p && a) || A) || (t && ((p && u) || U)))
step true true u t A U = refl
step true false true true true U = refl
step true false true true false U = refl
step true false true false A U = refl
step true false false t A U = refl
step false a u t A U = refl

-- some key passes and bears one name, or passes and is taken for any
split : (p a u : Key → Bool) (t : Bool) (keys : List Key)
    → list_any (λ k. p k && (a k || (u k && t))) keys ≡ (list_any (λ k. p k && a k) keys || (t && list_any (λ k. p k && u k) keys))
split p a u t [] = sym (and-false t)
split p a u t (k ∷ keys) =
    ap (λ b. (p k && (a k || (u k && t))) || b) (split p a u t keys)
    ∙ step (p k) (a k) (u k) t (list_any (λ k. p k && a k) keys) (list_any (λ k. p k && u k) keys)

-- some key that passes one test passes another
any_kept : (p q : Key → Bool) (keys : List Key) → list_any q (filter p keys) ≡ list_any (λ k. p k && q k) keys
any_kept p q [] = refl
any_kept p q (k ∷ keys) = go (p k) (any_kept p q keys)
  where
    go : (b : Bool) → list_any q (filter p keys) ≡ list_any (λ k. p k && q k) keys → list_any q (cond b (k ∷ filter p keys) (filter p keys)) ≡ ((b && q k) || list_any (λ k. p k && q k) keys)
    go true rest = ap (λ c. q k || c) rest
    go false rest = rest

-- a name is kept for a category where a seen key that may match its fields bears it
kept : (category : FieldCategory) (seen : List Key) (name : Name)
    → set.contains (names_for category seen) name ≡ list_any (λ k. may_match k.dom category && name_eq k.name name) seen
kept category seen name =
    contains-names_among (filter (λ k. may_match k.dom category) seen) name
    ∙ any_kept (λ k. may_match k.dom category) (λ k. name_eq k.name name) seen

-- whether a field is met, by the names that are kept
pub met_by_names : (seen : List Key) (f : FieldView)
    → is_met seen f ≡ (not f.is_required || (set.contains (names_for f.category seen) f.name || (takes_any_name f.category && set.contains (names_for f.category seen) [])))
met_by_names seen f =
    let p : Key → Bool = λ k. may_match k.dom f.category in
    ap (λ b. not f.is_required || b)
    (ap (λ (q : Key → Bool). list_any q seen) (λ i k. by_kind_and_name k.dom k.name f.category f.name i)
    ∙ ap (λ (u : Key → Bool). list_any (λ k. p k && (name_eq k.name f.name || (u k && takes_any_name f.category))) seen) (λ i k. unnamed k.name i)
    ∙ split p (λ k. name_eq k.name f.name) (λ k. name_eq k.name []) (takes_any_name f.category) seen
    ∙ (λ i. sym (kept f.category seen f.name) i || (takes_any_name f.category && sym (kept f.category seen []) i)))

-- whether a field is met, by the names that are kept for its category
pub met_by_kept : (seen : List Key) (names : SeenNames) (f : FieldView) (keys : List (Bor Name)) → AreSeenNames seen names → keys ≡ of_category names f.category
    → is_met seen f ≡ (not f.is_required || (set.contains (names_view keys) f.name || (takes_any_name f.category && set.contains (names_view keys) [])))
met_by_kept seen names f keys are same =
    met_by_names seen f
    ∙ ap (λ (kept : set.FinSet (slice_cmp nat_cmp)). not f.is_required || (set.contains kept f.name || (takes_any_name f.category && set.contains kept [])))
    (sym (ap names_view same ∙ are f.category))

module _ (required named rest : Bool) (is_required : required ≡ true) where
  -- a name that is kept decides
  pub met_by_name : named ≡ true → true ≡ (not required || (named || rest))
  met_by_name is = sym (λ i. not (is_required i) || (is i || rest))

  -- and where it is not, the rest does
  pub met_by_rest : named ≡ false → rest ≡ (not required || (named || rest))
  met_by_rest is = sym (λ i. not (is_required i) || (is i || rest))

-- the names of the keys that may match fields of a category
abbrev pub names_left : FieldCategory → List FieldKey → List Name
names_left category keys = map (λ (k : Key). k.name) (filter (λ (k : Key). may_match k.dom category) (map key_of keys))

module _ (category : FieldCategory) (key : FieldKey) (rest : List FieldKey) where
  -- a key that may
  pub name_kept : may_match (key_of key).dom category ≡ true → names_left category (key ∷ rest) ≡ (key_of key).name ∷ names_left category rest
  name_kept is = rw is refl

  -- and one that may not
  pub name_passed : may_match (key_of key).dom category ≡ false → names_left category (key ∷ rest) ≡ names_left category rest
  name_passed is = rw is refl
