-- Pairs of resolutions that some keys leave both viable, and the keys that two resolutions share.
use Rattle.std.proofs.Common.{◌≡◌, ◌≢◌, ℕ, cond, zero, suc, ◌<◌, get_or, length, ◌+◌, ◌++◌, ◌⊎◌, inl, inr, Bool, true, false, ◌&&◌, ◌||◌, not, List, [], ◌∷◌, Option, Some, None, find, is_some, refl, ap, sym, subst, ◌∙◌, ⊎_elim, append_assoc, arith}
use lib.Pointwise.{bytes_decides}
use Rattle.std.specs.Prelude.{slice_get}
use Rattle.std.specs.FinMap as finite
use Rattle.std.specs.List.{AllByRecursion, list_all, list_any}
use Rattle.std.specs.Option.{option_map}
use Rattle.std.proofs.lemmas.Bool.{and_from, and_parts, false≢true, or_cases, or_left, or_right}
use Rattle.std.proofs.lemmas.Bool.Decides.{Decides-eqb}
use Rattle.std.proofs.lemmas.Option.{none-some, same_Some, slice_get-get_or, slice_get-map}
use Rattle.facet_solver.specs.solver.Failure.{is_met}
use Rattle.facet_solver.specs.Fields.{FieldView, category_eq, has_name, is_unnamed, matches, means, takes_any_name}
use Rattle.facet_solver.specs.Keys.{Key, category_index, dom_key, flat_key, key_of}
use Rattle.facet_solver.specs.Names.{Name, name_eq}
use Rattle.facet_solver.specs.solver.Pairs.{CanBothBeViable, HasKeyFor, HasKeysRequiredBy, LeavesBothViable}
use Rattle.facet_solver.specs.Resolved.{Resolved, field_by_name, nothing}
use Rattle.facet_solver.specs.schema.Schema.{SchemaView}
use Rattle.facet_solver.specs.Resolutions.{has_key}
use Rattle.facet_solver.specs.solver.Told.{has_keys}
use Rattle.facet_solver.specs.solver.Report.{is_viable}
use Rattle.facet_solver.specs.declared.FieldCategory.{FieldCategory}
use Rattle.facet_solver.specs.declared.FieldCategory.TheVariants.{Flat, Attribute, Element, Text, Tag, Elements}
use Rattle.facet_solver.specs.declared.FieldKey.{FieldKey}
use Rattle.facet_solver_uses.specs.AmbiguousPairs.{AddsKeys, AreShared, IsPairAt, IsPairOf, PairsIfAny, ListsPairs, MeetsMore, keys_for, pairs_with, serves}
use Rattle.facet_solver_uses.specs.KeysToChoice.{keys_of}
use Rattle.facet_solver_uses.specs.declared.ambiguous_pairs.AmbiguousPair.{AmbiguousPair}

-- ---- one key more
pushed_any : (p : Key → Bool) (keys : List Key) (key : Key) → list_any p keys ≡ true → list_any p (keys ++ key ∷ []) ≡ true
pushed_any p [] key h = absurd (false≢true h)
pushed_any p (k ∷ keys) key h =
    ⊎_elim
    (λ here. or_left (p k) (list_any p (keys ++ key ∷ [])) here)
    (λ later. or_right (p k) (list_any p (keys ++ key ∷ [])) (pushed_any p keys key later))
    (or_cases (p k) (list_any p keys) h)

last_any : (p : Key → Bool) (keys : List Key) (key : Key) → p key ≡ true → list_any p (keys ++ key ∷ []) ≡ true
last_any p [] key h = or_left (p key) false h
last_any p (k ∷ keys) key h = or_right (p k) (list_any p (keys ++ key ∷ [])) (last_any p keys key h)

pushed_all : (p : Key → Bool) (keys : List Key) (key : Key) → list_all p keys ≡ true → p key ≡ true → list_all p (keys ++ key ∷ []) ≡ true
pushed_all p [] key h last = and_from (p key) true last refl
pushed_all p (k ∷ keys) key h last =
    let parts = and_parts (p k) (list_all p keys) h in
    and_from (p k) (list_all p (keys ++ key ∷ [])) parts.0 (pushed_all p keys key parts.1 last)

-- each test that one of some keys passes, one of others passes
abbrev Keeps : List Key → List Key → Type 0
Keeps keys others = (p : Key → Bool) → list_any p keys ≡ true → list_any p others ≡ true

-- more keys meet what fewer do
one_still_met : (keys others : List Key) → Keeps keys others → (f : FieldView) → is_met keys f ≡ true → is_met others f ≡ true
one_still_met keys others keeps f h = go (not f.is_required) h
  where
    go : (b : Bool) → (b || list_any (λ key. matches key f) keys) ≡ true → (b || list_any (λ key. matches key f) others) ≡ true
    go true h = refl
    go false h = keeps (λ key. matches key f) h

still_met : (keys others : List Key) → Keeps keys others → (fs : List FieldView) → list_all (is_met keys) fs ≡ true → list_all (is_met others) fs ≡ true
still_met keys others keeps [] h = refl
still_met keys others keeps (f ∷ fs) h =
    let each = and_parts (is_met keys f) (list_all (is_met keys) fs) h in
    and_from (is_met others f) (list_all (is_met others) fs) (one_still_met keys others keeps f each.0) (still_met keys others keeps fs each.1)

-- ---- keys for required fields, under way: some fields are left
pub record UnderWay (r s : Resolved) (before keys : List Key) (rest : List FieldView) : Type 0 where
  pub of_first : has_keys before r ≡ true → has_keys keys r ≡ true
  pub of_second : has_keys before s ≡ true → has_keys keys s ≡ true
  pub keeps : Keeps before keys
  pub own : (key : Key) → list_any (matches key) rest ≡ true → has_key key r ≡ true
  pub required : HasKeysRequiredBy r s → AllByRecursion (λ f. f.is_required ≡ true → HasKeyFor s f) rest
  pub met : (later : List Key) → Keeps keys later → list_all (is_met later) rest ≡ true → is_viable later r ≡ true

module _ (r s : Resolved) (before : List Key) where
  module _ (keys : List Key) (f : FieldView) (rest : List FieldView) (so_far : UnderWay r s before keys (f ∷ rest)) where
    own_rest : (key : Key) → list_any (matches key) rest ≡ true → has_key key r ≡ true
    own_rest key h = so_far.own key (or_right (matches key f) (list_any (matches key) rest) h)

    -- another one has a key that both have
    pub given : (key : Key) → matches key f ≡ true → has_key key s ≡ true → UnderWay r s before (keys ++ key ∷ []) rest
    given key means has =
        let more : Keeps keys (keys ++ key ∷ []) = λ p h. pushed_any p keys key h in
        let own = so_far.own key (or_left (matches key f) (list_any (matches key) rest) means) in
        record {
          of_first = λ h. pushed_all (λ k. has_key k r) keys key (so_far.of_first h) own;
          of_second = λ h. pushed_all (λ k. has_key k s) keys key (so_far.of_second h) has;
          keeps = λ p h. more p (so_far.keeps p h);
          own = own_rest;
          required = λ h. (so_far.required h).1;
          met = λ later keeps h. so_far.met later (λ p h. keeps p (more p h))
              (and_from (is_met later f) (list_all (is_met later) rest)
              (or_right (not f.is_required) (list_any (λ k. matches k f) later) (keeps (λ k. matches k f) (last_any (λ k. matches k f) keys key means))) h);
        }

  pub finished : (keys : List Key) → UnderWay r s before keys [] → MeetsMore r s before keys
  finished keys done = record {
    of_first = done.of_first;
    of_second = done.of_second;
    meets = done.met keys (λ p h. h) refl;
    keeps = λ q h. still_met before keys done.keeps (finite.values q.fields) h;
  }

-- ---- keys that may mean a field
any_at : (p : Key → Bool) (keys : List Key) (i : ℕ) (key : Key) → slice_get keys i ≡ Some key → p key ≡ true → list_any p keys ≡ true
any_at p [] i key at h = absurd (none-some key at)
any_at p (k ∷ keys) zero key at h = or_left (p k) (list_any p keys) (ap p (same_Some k key at) ∙ h)
any_at p (k ∷ keys) (suc i) key at h = or_right (p k) (list_any p keys) (any_at p keys i key at h)

module _ (p : Key → Bool) (name : Name) where
  named : (dom : Option FieldCategory) → p record { dom = dom; name = name } ≡ true → list_any p (keys_for name) ≡ true
  named None h = any_at p (keys_for name) 0 (flat_key name) refl h
  named (Some Flat) h = any_at p (keys_for name) 1 (dom_key Flat name) refl h
  named (Some Attribute) h = any_at p (keys_for name) 2 (dom_key Attribute name) refl h
  named (Some Element) h = any_at p (keys_for name) 3 (dom_key Element name) refl h
  named (Some Text) h = any_at p (keys_for name) 4 (dom_key Text name) refl h
  named (Some Tag) h = any_at p (keys_for name) 5 (dom_key Tag name) refl h
  named (Some Elements) h = any_at p (keys_for name) 6 (dom_key Elements name) refl h

  unnamed : (d : FieldCategory) → takes_any_name d ≡ true → p (dom_key d []) ≡ true → list_any p (keys_for name) ≡ true
  unnamed Flat takes h = absurd (false≢true takes)
  unnamed Attribute takes h = absurd (false≢true takes)
  unnamed Element takes h = absurd (false≢true takes)
  unnamed Text takes h = any_at p (keys_for name) 7 (dom_key Text []) refl h
  unnamed Tag takes h = any_at p (keys_for name) 8 (dom_key Tag []) refl h
  unnamed Elements takes h = any_at p (keys_for name) 9 (dom_key Elements []) refl h

-- a key that means a field bears its name, or no name and a category that takes any
abbrev Bears : Option FieldCategory → Name → Name → Type 0
Bears dom asked name =
    (name_eq asked name ≡ true) ⊎ ((d : FieldCategory) × (dom ≡ Some d) × (takes_any_name d ≡ true) × (is_unnamed asked ≡ true))

-- of the last three categories, by their indices
abbrev is_late : ℕ → Bool
is_late zero = false
is_late (suc zero) = false
is_late (suc (suc zero)) = false
is_late (suc (suc (suc k))) = true

late : (c : FieldCategory) → takes_any_name c ≡ is_late (category_index c)
late Flat = refl
late Attribute = refl
late Element = refl
late Text = refl
late Tag = refl
late Elements = refl

same_takes : (d c : FieldCategory) → category_eq d c ≡ true → takes_any_name c ≡ true → takes_any_name d ≡ true
same_takes d c same takes =
    late d ∙ ap is_late ((Decides-eqb (category_index d) (category_index c)).0 same) ∙ sym (late c) ∙ takes

in_category : (d : FieldCategory) (asked : Name) (c : FieldCategory) (name : Name) → (category_eq d c && (name_eq asked name || (is_unnamed asked && takes_any_name c))) ≡ true → Bears (Some d) asked name
in_category d asked c name h =
    let parts = and_parts (category_eq d c) (name_eq asked name || (is_unnamed asked && takes_any_name c)) h in
    ⊎_elim
    (λ same. inl same)
    (λ other.
    let each = and_parts (is_unnamed asked) (takes_any_name c) other in
    inr (d, refl, same_takes d c parts.0 each.1, each.0))
    (or_cases (name_eq asked name) (is_unnamed asked && takes_any_name c) parts.1)

in_flat : (asked : Name) (c : FieldCategory) (name : Name) → (name_eq asked name && category_eq c Element) ≡ true → Bears None asked name
in_flat asked c name h = inl (and_parts (name_eq asked name) (category_eq c Element) h).0

bears : (dom : Option FieldCategory) (asked : Name) (c : FieldCategory) (name : Name) → means dom asked c name ≡ true → Bears dom asked name
bears dom asked Flat name h = inl h
bears None asked Attribute name h = in_flat asked Attribute name h
bears None asked Element name h = in_flat asked Element name h
bears None asked Text name h = in_flat asked Text name h
bears None asked Tag name h = in_flat asked Tag name h
bears None asked Elements name h = in_flat asked Elements name h
bears (Some d) asked Attribute name h = in_category d asked Attribute name h
bears (Some d) asked Element name h = in_category d asked Element name h
bears (Some d) asked Text name h = in_category d asked Text name h
bears (Some d) asked Tag name h = in_category d asked Tag name h
bears (Some d) asked Elements name h = in_category d asked Elements name h

no_name : (asked : Name) → is_unnamed asked ≡ true → asked ≡ []
no_name [] h = refl
no_name (b ∷ bs) h = absurd (false≢true h)

-- where some key does, one of these does
pub one_serves : (r : Resolved) (f : FieldView) → HasKeyFor r f → list_any (serves r f) (keys_for f.name) ≡ true
one_serves r f h =
    let both : serves r f h.key ≡ true = and_from (matches h.key f) (has_key h.key r) h.means h.has in
    ⊎_elim
    (λ same.
    named (serves r f) f.name h.key.dom
    (ap (λ (n : Name). serves r f record { dom = h.key.dom; name = n }) (sym ((bytes_decides h.key.name f.name).0 same)) ∙ both))
    (λ other.
    unnamed (serves r f) f.name other.0 other.2
    (ap (λ (n : Name). serves r f (dom_key other.0 n)) (sym (no_name h.key.name other.3))
    ∙ ap (λ (dom : Option FieldCategory). serves r f record { dom = dom; name = h.key.name }) (sym other.1) ∙ both))
    (bears h.key.dom h.key.name f.category f.name h.means)

pub none_serves : (r : Resolved) (f : FieldView) → list_any (serves r f) (keys_for f.name) ≡ false → ¬ HasKeyFor r f
none_serves r f none h = false≢true (sym none ∙ one_serves r f h)

-- a key of a name, which is not empty, means no field where none has the name
no_named : (dom : Option FieldCategory) (name : Name) (fs : List FieldView) → is_unnamed name ≡ false → find (has_name name) fs ≡ None
    → is_some (find (λ f. means dom name f.category f.name) fs) ≡ false
no_named dom name [] has none = refl
no_named dom name (f ∷ fs) has none = go (no_named dom name fs has) (has_name name f) refl (means dom name f.category f.name) refl none
  where
    go : (find (has_name name) fs ≡ None → is_some (find (λ f. means dom name f.category f.name) fs) ≡ false) → (b : Bool) → has_name name f ≡ b → (m : Bool) → means dom name f.category f.name ≡ m
        → cond b (Some f) (find (has_name name) fs) ≡ None → is_some (cond m (Some f) (find (λ f. means dom name f.category f.name) fs)) ≡ false
    go later true is m of e = absurd (cc)
    go later false is true of e =
        ⊎_elim
        (λ same. absurd (false≢true (sym is ∙ same)))
        (λ other. absurd (false≢true (sym has ∙ other.3)))
        (bears dom name f.category f.name of)
    go later false is false of e = later e

pub is_named : (name : Name) → name ≢ [] → is_unnamed name ≡ false
is_named [] has = absurd (has refl)
is_named (b ∷ bs) has = refl

-- a flat field of a name, which is not empty, has no key in a resolution without that name
pub no_key : (r : Resolved) (f : FieldView) → f.category ≡ Flat → is_unnamed f.name ≡ false → field_by_name f.name r ≡ None → ¬ HasKeyFor r f
no_key r f flat has none h =
    let same : h.key.name ≡ f.name = (bytes_decides h.key.name f.name).0 (subst (λ c. means h.key.dom h.key.name c f.name ≡ true) flat h.means) in
    let lacks = no_named h.key.dom f.name (finite.values r.fields) has none in
    let there : is_some (find (λ g. means h.key.dom f.name g.category g.name) (finite.values r.fields)) ≡ true =
    subst (λ (n : Name). is_some (find (λ g. means h.key.dom n g.category g.name) (finite.values r.fields)) ≡ true) same h.has in
    false≢true (sym lacks ∙ there)

-- ---- pairs, one after another
module _ (schema : SchemaView) (indices : ℕ × ℕ) where
  pub listed : (all : List (ℕ × ℕ)) (pairs : List AmbiguousPair) (pair : AmbiguousPair) → ListsPairs schema all pairs → IsPairAt schema indices pair → ListsPairs schema (all ++ indices ∷ []) (pairs ++ pair ∷ [])
  listed [] pairs pair none is = subst (λ (ps : List AmbiguousPair). ListsPairs schema (indices ∷ []) (ps ++ pair ∷ [])) (sym none) (inl (is, refl))
  listed (x ∷ all) [] pair h is = inr (h.0, listed all [] pair h.1 is)
  listed (x ∷ all) (p ∷ pairs) pair h is =
      let taken = listed all pairs pair in
      let left = listed all (p ∷ pairs) pair in
      ⊎_elim (λ here. inl (here.0, taken here.1 is)) (λ later. inr (later.0, left later.1 is)) h

  pub left_out : (all : List (ℕ × ℕ)) (pairs : List AmbiguousPair) → ListsPairs schema all pairs → ¬ CanBothBeViable schema indices.0 indices.1 → ListsPairs schema (all ++ indices ∷ []) pairs
  left_out [] pairs none apart = subst (λ (ps : List AmbiguousPair). ListsPairs schema (indices ∷ []) ps) (sym none) (apart, refl)
  left_out (x ∷ all) [] h apart = (h.0, left_out all [] h.1 apart)
  left_out (x ∷ all) (p ∷ pairs) h apart =
      let taken = left_out all pairs in
      let left = left_out all (p ∷ pairs) in
      ⊎_elim (λ here. inl (here.0, taken here.1 apart)) (λ later. inr (later.0, left later.1 apart)) h

-- one pair of indices more, behind others
pub one_more : (schema : SchemaView) (all : List (ℕ × ℕ)) (second first : ℕ) (pairs : List AmbiguousPair)
    → ListsPairs schema ((all ++ pairs_with second first) ++ (first, second) ∷ []) pairs → ListsPairs schema (all ++ pairs_with second (first + 1)) pairs
one_more schema all second first pairs h =
    let next : first + 1 ≡ suc first = omega arith in
    subst (λ (xs : List (ℕ × ℕ)). ListsPairs schema xs pairs)
    (append_assoc all (pairs_with second first) ((first, second) ∷ []) ∙ ap (λ (n : ℕ). all ++ pairs_with second n) (sym next)) h

-- a key of a list meets a field
pub met_at : (keys : List FieldKey) (i : ℕ) (d : FieldKey) (f : FieldView) → i < length keys → matches (key_of (get_or keys i d)) f ≡ true → is_met (keys_of keys) f ≡ true
met_at keys i d f low means =
    let p : Key → Bool = λ key. matches key f in
    let at = slice_get-map key_of keys i ∙ ap (option_map key_of) (slice_get-get_or keys i d low) in
    or_right (not f.is_required) (list_any p (keys_of keys)) (any_at p (keys_of keys) i (key_of (get_or keys i d)) at means)

-- ---- a pair
pub there_at : (rs : List Resolved) (i : ℕ) (r : Resolved) → i < length rs → r ≡ get_or rs i r → slice_get rs i ≡ Some r
there_at rs i r low is = slice_get-get_or rs i r low ∙ ap (λ q. Some q) (sym is)

-- keys for the one and then for the other are shared
pub shared_by : (r s : Resolved) (none first both : List Key) (found more : Bool) → none ≡ [] → found ≡ true → more ≡ true
    → AddsKeys (r, s) none found first → AddsKeys (s, r) first more both → AreShared r s both
shared_by r s none first both false more empty is_found is_more one two = absurd (false≢true is_found)
shared_by r s none first both true false empty is_found is_more one two = absurd (false≢true is_more)
shared_by r s none first both true true empty is_found is_more one two =
    let start : (q : Resolved) → has_keys none q ≡ true = λ q. ap (λ (keys : List Key). has_keys keys q) empty in
    record {
      of_first = two.of_second (one.of_first (start r));
      of_second = two.of_first (one.of_second (start s));
      meets_first = two.keeps r one.meets;
      meets_second = two.meets;
    }

module _ (schema : SchemaView) (rs : List Resolved) (same : rs ≡ schema.resolutions) (first second : ℕ) where
  -- there, for the law of pairs
  there : (i : ℕ) (r : Resolved) → slice_get rs i ≡ Some r → slice_get schema.resolutions i ≡ Some r
  there i r at = ap (λ (qs : List Resolved). slice_get qs i) (sym same) ∙ at

  pub at_pair : (pair : AmbiguousPair) → IsPairOf rs first second pair
      → ((keys : List Key) (i j : ℕ) (r s : Resolved) → slice_get schema.resolutions i ≡ Some r → slice_get schema.resolutions j ≡ Some s
      → has_keys keys r ≡ true → has_keys keys s ≡ true → is_viable keys r ≡ true → is_viable keys s ≡ true → LeavesBothViable schema keys i j)
      → IsPairAt schema (first, second) pair
  at_pair pair is by_keys = record {
    pair_of = subst (λ (qs : List Resolved). IsPairOf qs first second pair) same is;
    leaves = by_keys (keys_of pair.keys.items) first second is.r is.s (there first is.r is.first_there) (there second is.s is.second_there)
        is.shared.of_first is.shared.of_second is.shared.meets_first is.shared.meets_second;
  }

  pub no_pair : first < length rs → second < length rs → PairsIfAny rs first second None
      → ((i j : ℕ) (r s : Resolved) → slice_get schema.resolutions i ≡ Some r → slice_get schema.resolutions j ≡ Some s → CanBothBeViable schema i j → HasKeysRequiredBy r s × HasKeysRequiredBy s r)
      → ¬ CanBothBeViable schema first second
  no_pair low lower none exactly can =
      let r = get_or rs first nothing in
      let s = get_or rs second nothing in
      let at_r = slice_get-get_or rs first nothing low in
      let at_s = slice_get-get_or rs second nothing lower in
      none r s at_r at_s (exactly first second r s (there first r at_r) (there second s at_s) can)
