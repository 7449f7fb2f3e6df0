-- Pairs of resolutions that some keys leave both viable.
use Rattle.std.proofs.Common.{◌≡◌, ℕ, zero, suc, Bool, true, false, cond, ◌||◌, not, List, [], ◌∷◌, Some, Contains, filter, length, refl, ap, sym, subst, ◌∙◌, ⊎_elim, arith}
use Rattle.std.specs.Prelude.{◌↔◌, find, fold, is_some, slice_get}
use Rattle.std.specs.FinMap as finite
use Rattle.std.specs.List.{AllByRecursion, list_all, list_any}
use Rattle.std.specs.Option.{option_map_or}
use Rattle.std.proofs.lemmas.Bool.{and_from, and_parts, false≢true, or_cases, or_left, or_right}
use Rattle.facet_solver_shape.specs.Fields.{FieldView, matches}
use Rattle.facet_solver_shape.specs.Keys.{Key}
use Rattle.facet_solver_shape.specs.Resolved.{Resolved}
use Rattle.facet_solver.specs.solver.Failure.{is_met}
use Rattle.facet_solver.specs.set.IndexSet.{upto}
use Rattle.facet_solver.specs.solver.Pairs.{CanBothBeViable, HasKeyFor, HasKeysRequiredBy, LeavesBothViable}
use Rattle.facet_solver.specs.schema.Schema.{SchemaView}
use Rattle.facet_solver.specs.solver.State.{new_solver}
use Rattle.facet_solver.specs.Resolutions.{has_key, is_known, passes}
use Rattle.facet_solver.specs.solver.Told.{accept, accepted_keys, has_keys, known_keys, see_keys}
use Rattle.facet_solver.specs.solver.Report.{is_viable, viable}
use Rattle.facet_solver.proofs.Told.{accepted_left, at_index, one_viable, same_schema, viable_told}

-- ---- what both have that are left
-- what is in a list that a test left was in it before, and passes
of_filter : (p : ℕ → Bool) (is : List ℕ) (i : ℕ) → Contains (filter p is) i → (p i ≡ true) × Contains is i
of_filter p [] i (k, low, same) = absurd (omega arith)
of_filter p (x ∷ xs) i h = go (of_filter p xs i) (p x) refl h
  where
    later : (p i ≡ true) × Contains xs i → (p i ≡ true) × Contains (x ∷ xs) i
    later r = (r.0, (suc r.1.0, omega (arith, r.1.1), r.1.2))

    go : (Contains (filter p xs) i → (p i ≡ true) × Contains xs i) → (b : Bool) → p x ≡ b → Contains (cond b (x ∷ filter p xs) (filter p xs)) i → (p i ≡ true) × Contains (x ∷ xs) i
    go rest true is (zero, low, same) = (ap p (sym same) ∙ is, (0, omega arith, same))
    go rest true is (suc k, low, same) = later (rest (k, omega arith, same))
    go rest false is h = later (rest h)

-- the resolution at an index passes where the index does
at_passes : (test : Resolved → Bool) (rs : List Resolved) (i : ℕ) (r : Resolved) → slice_get rs i ≡ Some r → passes test rs i ≡ true → test r ≡ true
at_passes test rs i r at h = sym (ap (λ o. option_map_or test o false) at) ∙ h

-- a viable resolution has all accepted keys, and the told ones meet what it requires
viable_parts : (schema : SchemaView) (keys : List Key) (i : ℕ) (r : Resolved) → slice_get schema.resolutions i ≡ Some r → Contains (viable (see_keys keys (new_solver schema))) i
    → (has_keys (accepted_keys schema.resolutions keys) r ≡ true) × (is_viable keys r ≡ true)
viable_parts schema keys i r at h =
    let rs = schema.resolutions in
    let s = see_keys keys (new_solver schema) in
    let accepted = has_keys (accepted_keys rs keys) in
    let kept = of_filter (passes (is_viable s.seen) s.schema.resolutions) s.candidates i h in
    let seen : passes (is_viable s.seen) rs i ≡ true =
    ap (λ (v : SchemaView). passes (is_viable s.seen) v.resolutions i) (sym (same_schema keys (new_solver schema))) ∙ kept.0 in
    let left = of_filter (passes accepted rs) (upto (length rs)) i (subst (λ (is : List ℕ). Contains is i) (accepted_left schema keys) kept.1) in (
      at_passes accepted rs i r at left.0,
      sym (viable_told schema keys r) ∙ at_passes (is_viable s.seen) rs i r at seen,
    )

-- what was accepted before stays accepted
before_has : (rs : List Resolved) (keys before : List Key) (q : Resolved) → has_keys (fold (accept rs) before keys) q ≡ true → has_keys before q ≡ true
before_has rs [] before q h = h
before_has rs (key ∷ keys) before q h = go (list_any (has_keys (key ∷ before)) rs) (before_has rs keys (accept rs before key) q h)
  where
    go : (b : Bool) → has_keys (cond b (key ∷ before) before) q ≡ true → has_keys before q ≡ true
    go true h = (and_parts (has_key key q) (has_keys before q) h).1
    go false h = h

-- a key that passes a test, and that a resolution has
abbrev Passing : (Key → Bool) → Resolved → Type 0
Passing p q = (key : Key) × (p key ≡ true) × (has_key key q ≡ true)

-- a told key that one resolution has which is left, each one has that is left
shared : (rs : List Resolved) (i : ℕ) (r q : Resolved) → slice_get rs i ≡ Some r
    → (p : Key → Bool) → ((key : Key) → p key ≡ true → has_key key r ≡ true)
    → (keys before : List Key) → has_keys (fold (accept rs) before keys) r ≡ true → has_keys (fold (accept rs) before keys) q ≡ true
    → list_any p keys ≡ true → Passing p q
shared rs i r q at p own [] before of_r of_q some = absurd (false≢true some)
shared rs i r q at p own (x ∷ keys) before of_r of_q some =
    ⊎_elim
    (λ here.
    let more : has_keys (x ∷ before) r ≡ true = and_from (has_key x r) (has_keys before r) (own x here) (before_has rs (x ∷ keys) before r of_r) in
    let accepted : accept rs before x ≡ x ∷ before = ap (λ b. cond b (x ∷ before) before) (at_index (has_keys (x ∷ before)) rs i r at more) in
    let has : has_keys (x ∷ before) q ≡ true = ap (λ (ks : List Key). has_keys ks q) (sym accepted) ∙ before_has rs keys (accept rs before x) q of_q in
    (x, here, (and_parts (has_key x q) (has_keys before q) has).0))
    (λ later. shared rs i r q at p own keys (accept rs before x) of_r of_q later)
    (or_cases (p x) (list_any p keys) some)

-- ---- fields and the keys that mean them
-- something is found exactly where something passes
pub found_any : (p : FieldView → Bool) (fs : List FieldView) → is_some (find p fs) ≡ list_any p fs
found_any p [] = refl
found_any p (f ∷ fs) = go (p f) (found_any p fs)
  where
    go : (b : Bool) → is_some (find p fs) ≡ list_any p fs → is_some (cond b (Some f) (find p fs)) ≡ (b || list_any p fs)
    go true rest = refl
    go false rest = rest

-- each key that means one of these fields is one that the resolution has
abbrev AreFieldsOf : Resolved → List FieldView → Type 0
AreFieldsOf r fs = (key : Key) → list_any (matches key) fs ≡ true → has_key key r ≡ true

own_fields : (r : Resolved) → AreFieldsOf r (finite.values r.fields)
own_fields r key h = found_any (matches key) (finite.values r.fields) ∙ h

here_of : (r : Resolved) (f : FieldView) (fs : List FieldView) → AreFieldsOf r (f ∷ fs) → (key : Key) → matches key f ≡ true → has_key key r ≡ true
here_of r f fs own key h = own key (or_left (matches key f) (list_any (matches key) fs) h)

rest_of : (r : Resolved) (f : FieldView) (fs : List FieldView) → AreFieldsOf r (f ∷ fs) → AreFieldsOf r fs
rest_of r f fs own key h = own key (or_right (matches key f) (list_any (matches key) fs) h)

-- where keys leave two viable, the other has keys for what the one requires
pub has_required : (schema : SchemaView) (keys : List Key) (i j : ℕ) (r q : Resolved) → slice_get schema.resolutions i ≡ Some r → slice_get schema.resolutions j ≡ Some q
    → Contains (viable (see_keys keys (new_solver schema))) i → Contains (viable (see_keys keys (new_solver schema))) j → HasKeysRequiredBy r q
has_required schema keys i j r q at_r at_q viable_r viable_q = go (finite.values r.fields) (own_fields r) parts.1
  where
    rs : List Resolved
    rs = schema.resolutions

    parts : (has_keys (accepted_keys rs keys) r ≡ true) × (is_viable keys r ≡ true)
    parts = viable_parts schema keys i r at_r viable_r

    of_q : has_keys (accepted_keys rs keys) q ≡ true
    of_q = (viable_parts schema keys j q at_q viable_q).0

    go : (fs : List FieldView) → AreFieldsOf r fs → list_all (is_met keys) fs ≡ true → AllByRecursion (λ f. f.is_required ≡ true → HasKeyFor q f) fs
    go [] own h = tt
    go (f ∷ fs) own h =
        let each = and_parts (is_met keys f) (list_all (is_met keys) fs) h in (
          λ required.
              let met : list_any (λ key. matches key f) keys ≡ true = sym (ap (λ b. not b || list_any (λ key. matches key f) keys) required) ∙ each.0 in
              let found = shared rs i r q at_r (λ key. matches key f) (here_of r f fs own) keys [] parts.0 of_q met in
              record { key = found.0; means = found.1; has = found.2 },
          go fs (rest_of r f fs own) each.1,
        )

-- ---- keys that leave both
known_of_all : (rs : List Resolved) (keys : List Key) (r : Resolved) → has_keys keys r ≡ true → has_keys (known_keys rs keys) r ≡ true
known_of_all rs [] r h = refl
known_of_all rs (x ∷ keys) r h =
    let parts = and_parts (has_key x r) (has_keys keys r) h in
    go (is_known rs x) parts.0 (known_of_all rs keys r parts.1)
  where
    go : (b : Bool) → has_key x r ≡ true → has_keys (known_keys rs keys) r ≡ true → has_keys (cond b (x ∷ known_keys rs keys) (known_keys rs keys)) r ≡ true
    go true here rest = and_from (has_key x r) (has_keys (known_keys rs keys) r) here rest
    go false here rest = rest

-- keys that a resolution has, and that meet what it requires, leave it viable
stays_viable : (schema : SchemaView) (keys : List Key) (i : ℕ) (r : Resolved) → slice_get schema.resolutions i ≡ Some r → has_keys keys r ≡ true → is_viable keys r ≡ true
    → Contains (viable (see_keys keys (new_solver schema))) i
stays_viable schema keys i r at has met =
    one_viable schema keys i r record { present = at; has_known = known_of_all schema.resolutions keys r has } met

-- and both where both have them
pub leaves_both : (schema : SchemaView) (keys : List Key) (i j : ℕ) (r q : Resolved) → slice_get schema.resolutions i ≡ Some r → slice_get schema.resolutions j ≡ Some q
    → has_keys keys r ≡ true → has_keys keys q ≡ true → is_viable keys r ≡ true → is_viable keys q ≡ true
    → LeavesBothViable schema keys i j
leaves_both schema keys i j r q at_r at_q of_r of_q met_r met_q = record {
  first_viable = stays_viable schema keys i r at_r of_r met_r;
  second_viable = stays_viable schema keys j q at_q of_q met_q;
}

-- more keys than some others
abbrev Keeps : List Key → List Key → Type 0
Keeps keys others = (p : Key → Bool) → list_any p keys ≡ true → list_any p others ≡ true

-- more keys meet what fewer do
still_met : (keys others : List Key) → Keeps keys others → (fs : List FieldView) → list_all (is_met keys) fs ≡ true → list_all (is_met others) fs ≡ true
still_met keys others keeps [] h = refl
still_met keys others keeps (f ∷ fs) h =
    let each = and_parts (is_met keys f) (list_all (is_met keys) fs) h in
    and_from (is_met others f) (list_all (is_met others) fs) (go (not f.is_required) each.0) (still_met keys others keeps fs each.1)
  where
    go : (b : Bool) → (b || list_any (λ key. matches key f) keys) ≡ true → (b || list_any (λ key. matches key f) others) ≡ true
    go true h = refl
    go false h = keeps (λ key. matches key f) h

-- keys that two resolutions have, and that meet fields, beside keys that are there
record Gathered (start : List Key) (r q : Resolved) (fs : List FieldView) : Type 0 where
  keys : List Key
  of_first : has_keys keys r ≡ true
  of_second : has_keys keys q ≡ true
  met : list_all (is_met keys) fs ≡ true
  keeps : Keeps start keys

gather : (start : List Key) (r q : Resolved) → has_keys start r ≡ true → has_keys start q ≡ true
    → (fs : List FieldView) → AreFieldsOf r fs → AllByRecursion (λ f. f.is_required ≡ true → HasKeyFor q f) fs → Gathered start r q fs
gather start r q of_r of_q [] own each = record { keys = start; of_first = of_r; of_second = of_q; met = refl; keeps = λ p h. h }
gather start r q of_r of_q (f ∷ fs) own each =
    go f.is_required refl (gather start r q of_r of_q fs (rest_of r f fs own) each.1)
  where
    go : (b : Bool) → f.is_required ≡ b → Gathered start r q fs → Gathered start r q (f ∷ fs)
    go false required rest = record {
      keys = rest.keys;
      of_first = rest.of_first;
      of_second = rest.of_second;
      met = and_from (is_met rest.keys f) (list_all (is_met rest.keys) fs) (ap (λ b. not b || list_any (λ key. matches key f) rest.keys) required) rest.met;
      keeps = rest.keeps;
    }
    go true required rest =
        let one = each.0 required in
        let more : Keeps rest.keys (one.key ∷ rest.keys) = λ p h. or_right (p one.key) (list_any p rest.keys) h in
        let meets = or_left (matches one.key f) (list_any (λ key. matches key f) rest.keys) one.means in
        record {
          keys = one.key ∷ rest.keys;
          of_first = and_from (has_key one.key r) (has_keys rest.keys r) (here_of r f fs own one.key one.means) rest.of_first;
          of_second = and_from (has_key one.key q) (has_keys rest.keys q) one.has rest.of_second;
          met = and_from (is_met (one.key ∷ rest.keys) f) (list_all (is_met (one.key ∷ rest.keys)) fs)
              (or_right (not f.is_required) (list_any (λ key. matches key f) (one.key ∷ rest.keys)) meets)
              (still_met rest.keys (one.key ∷ rest.keys) more fs rest.met);
          keeps = λ p h. more p (rest.keeps p h);
        }

-- where each has keys for what the other requires, these leave both
pub both_can : (schema : SchemaView) (i j : ℕ) (r q : Resolved) → slice_get schema.resolutions i ≡ Some r → slice_get schema.resolutions j ≡ Some q
    → HasKeysRequiredBy r q → HasKeysRequiredBy q r → CanBothBeViable schema i j
both_can schema i j r q at_r at_q for_r for_q =
    let first = gather [] r q refl refl (finite.values r.fields) (own_fields r) for_r in
    let both = gather first.keys q r first.of_second first.of_first (finite.values q.fields) (own_fields q) for_q in
    record {
      keys = both.keys;
      leaves = leaves_both schema both.keys i j r q at_r at_q both.of_second both.of_first
          (still_met first.keys both.keys both.keeps (finite.values r.fields) first.met) both.met;
    }

pub both_exactly : (schema : SchemaView) (i j : ℕ) (r q : Resolved) → slice_get schema.resolutions i ≡ Some r → slice_get schema.resolutions j ≡ Some q
    → CanBothBeViable schema i j ↔ (HasKeysRequiredBy r q × HasKeysRequiredBy q r)
both_exactly schema i j r q at_r at_q = (
  λ can. (
    has_required schema can.keys i j r q at_r at_q can.leaves.first_viable can.leaves.second_viable,
    has_required schema can.keys j i q r at_q at_r can.leaves.second_viable can.leaves.first_viable,
  ),
  λ each. both_can schema i j r q at_r at_q each.0 each.1,
)
