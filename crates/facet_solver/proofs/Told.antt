-- What keys leave of a new solver that are seen one after another.
use Rattle.std.proofs.Common.{◌≡◌, ℕ, zero, suc, ◌<◌, Bool, true, false, cond, ◌&&◌, ◌||◌, not, List, [], ◌∷◌, Option, Some, None, Contains, filter, length, refl, ap, sym, subst, ◌∙◌, ⊎_elim, arith}
use Rattle.std.specs.Prelude.{fold, slice_get, nat_eq}
use Rattle.std.specs.BTreeSet.{insert_key}
use Rattle.std.specs.FinMap as finite
use Rattle.std.specs.List.{AllZip, filter_map, list_all, list_any, cons_option}
use Rattle.std.specs.Option.{option_map, option_map_or}
use Rattle.std.specs.Ordering.{match_ordering}
use Rattle.std.specs.declared.cmp.Ordering.{Ordering}
use Rattle.std.specs.declared.cmp.Ordering.TheVariants.{Less, Equal, Greater}
use Rattle.std.proofs.lemmas.Bool.{and_from, and_parts, cases_Bool, false≢true, or_cases, or_left, or_parts, or_right}
use Rattle.std.proofs.lemmas.Bool.Decides.{Decides-eqb}
use Rattle.std.proofs.lemmas.List.Elements.{filter_agree}
use Rattle.std.proofs.lemmas.Option.{none-some, same_Some, slice_get-get_or, slice_get-map, slice_get_within}
use Rattle.std.proofs.Math.Bool.{and-true, or-false, or_self_left}
use Rattle.facet_solver_shape.proofs.Finite.{or_swap}
use Rattle.facet_solver_shape.specs.Fields.{FieldView, matches}
use Rattle.facet_solver_shape.specs.Keys.{Key, key_cmp}
use Rattle.facet_solver_shape.specs.Resolved.{description, Resolved}
use Rattle.facet_solver_shape.proofs.Keys.{key_cmp_same}
use Rattle.facet_solver.specs.build.Choice.{IsResolution, ListsChoices}
use Rattle.facet_solver.specs.set.IndexSet.{has_index, how_many, upto}
use Rattle.facet_solver.specs.solver.KeyResult.{distinct_fields, key_result, of_fields, solved_or, unknown}
use Rattle.facet_solver.specs.schema.Schema.{IsOwnBuild, SchemaView}
use Rattle.facet_solver.specs.solver.State.{State, mark_seen, narrow, new_solver, or_all, passing, retain, see_key, state_of}
use Rattle.facet_solver.specs.Resolutions.{has_key, is_known, passes}
use Rattle.facet_solver.specs.solver.Told.{accept, accepted_keys, EndsWithOrNames, has_keys, HasAllKnown, HaveSameKeys, indices_with, known_keys, see_keys, LeavesSome, TellsChoice}
use Rattle.facet_solver.specs.solver.Report.{is_viable, viable}
use Rattle.facet_solver.proofs.Choice.{one_list, resolution-one}
use Rattle.facet_solver.proofs.IndexSet.{filter_all, filter_filter, filter_none, has_inside}
use Rattle.facet_solver.proofs.Kept.{or_all_some}
use Rattle.facet_solver.proofs.Verdict.{same_test}

-- ---- indices of the resolutions that pass a test
-- where no resolution passes, none of an index does
none_passes : (test : Resolved → Bool) (rs : List Resolved) (i : ℕ) → list_any test rs ≡ false → passes test rs i ≡ false
none_passes test [] i h = refl
none_passes test (r ∷ rs) zero h = (or_parts (test r) (list_any test rs) h).0
none_passes test (r ∷ rs) (suc i) h = none_passes test rs i (or_parts (test r) (list_any test rs) h).1

-- where one passes, it stands at an index
one_passes : (test : Resolved → Bool) (rs : List Resolved) → list_any test rs ≡ true → (i : ℕ) × (r : Resolved) × (slice_get rs i ≡ Some r) × (test r ≡ true)
one_passes test [] h = absurd (false≢true h)
one_passes test (r ∷ rs) h =
    ⊎_elim
    (λ here. (0, r, refl, here))
    (λ later. let k = one_passes test rs later in (suc k.0, k.1, k.2, k.3))
    (or_cases (test r) (list_any test rs) h)

-- and what stands at an index is one of them
pub at_index : (test : Resolved → Bool) (rs : List Resolved) (i : ℕ) (r : Resolved) → slice_get rs i ≡ Some r → test r ≡ true → list_any test rs ≡ true
at_index test [] i r at h = absurd (none-some r at)
at_index test (x ∷ rs) zero r at h = or_left (test x) (list_any test rs) (ap test (same_Some x r at) ∙ h)
at_index test (x ∷ rs) (suc i) r at h = or_right (test x) (list_any test rs) (at_index test rs i r at h)

abbrev indices_of : (Resolved → Bool) → List Resolved → List ℕ
indices_of test rs = filter (passes test rs) (upto (length rs))

passes_at : (test : Resolved → Bool) (rs : List Resolved) (i : ℕ) (r : Resolved) → slice_get rs i ≡ Some r → test r ≡ true → passes test rs i ≡ true
passes_at test rs i r at h = ap (λ o. option_map_or test o false) at ∙ h

-- an index is among those that pass
has_index-kept : (p : ℕ → Bool) (rs : List Resolved) (i : ℕ) (r : Resolved) → slice_get rs i ≡ Some r → p i ≡ true → has_index (filter p (upto (length rs))) i ≡ true
has_index-kept p rs i r at h =
    let low : i < length rs = slice_get_within rs i r at in
    has_inside p 0 (length rs) i (omega arith) (omega arith) ∙ h

-- where no resolution passes, all candidates stay
kept_or_all : (test : Resolved → Bool) (rs : List Resolved) (all : List ℕ) → or_all (indices_of test rs) all ≡ cond (list_any test rs) (indices_of test rs) all
kept_or_all test rs all =
    ⊎_elim
    (λ known.
    let one = one_passes test rs known in
    let member = has_index-kept (passes test rs) rs one.0 one.1 one.2 (passes_at test rs one.0 one.1 one.2 one.3) in
    or_all_some (indices_of test rs) all (λ none. false≢true (sym (ap (λ is. has_index is one.0) none) ∙ member))
    ∙ ap (λ b. cond b (indices_of test rs) all) (sym known))
    (λ absent.
    let none : indices_of test rs ≡ [] = filter_none (passes test rs) 0 (length rs) (λ i low high. none_passes test rs i absent) in
    ap (λ is. or_all is all) none ∙ ap (λ b. cond b (indices_of test rs) all) (sym absent))
    (cases_Bool (list_any test rs))

-- ---- keys that are accepted
both_pass : (p q : Resolved → Bool) (rs : List Resolved) (i : ℕ) → (passes p rs i && passes q rs i) ≡ passes (λ r. q r && p r) rs i
both_pass p q rs i = go (slice_get rs i)
  where
    swapped : (a b : Bool) → (a && b) ≡ (b && a)
    swapped true true = refl
    swapped true false = refl
    swapped false true = refl
    swapped false false = refl

    go : (o : Option Resolved) → (option_map_or p o false && option_map_or q o false) ≡ option_map_or (λ r. q r && p r) o false
    go None = refl
    go (Some r) = swapped (p r) (q r)

-- those that have a key, of those that have some others
one_more : (rs : List Resolved) (before : List Key) (key : Key) → filter (passes (has_key key) rs) (indices_of (has_keys before) rs) ≡ indices_of (has_keys (key ∷ before)) rs
one_more rs before key =
    filter_filter (passes (has_keys before) rs) (passes (has_key key) rs) (upto (length rs))
    ∙ filter_agree (λ i. passes (has_keys before) rs i && passes (has_key key) rs i) (passes (has_keys (key ∷ before)) rs) (both_pass (has_keys before) (has_key key) rs) (upto (length rs))

moved : (rs : List Resolved) (b : Bool) (xs ys : List Key) → cond b (indices_of (has_keys xs) rs) (indices_of (has_keys ys) rs) ≡ indices_of (has_keys (cond b xs ys)) rs
moved rs true xs ys = refl
moved rs false xs ys = refl

-- what one key leaves of those that have the keys that were accepted before
left : (rs : List Resolved) (before : List Key) (key : Key) → or_all (filter (passes (has_key key) rs) (indices_of (has_keys before) rs)) (indices_of (has_keys before) rs) ≡ indices_of (has_keys (accept rs before key)) rs
left rs before key =
    ap (λ is. or_all is (indices_of (has_keys before) rs)) (one_more rs before key)
    ∙ kept_or_all (has_keys (key ∷ before)) rs (indices_of (has_keys before) rs)
    ∙ moved rs (list_any (has_keys (key ∷ before)) rs) (key ∷ before) before

left_after : (schema : SchemaView) (keys before seen : List Key)
    → (see_keys keys record { schema = schema; candidates = indices_of (has_keys before) schema.resolutions; seen = seen }).candidates
    ≡ indices_of (has_keys (fold (accept schema.resolutions) before keys)) schema.resolutions
left_after schema [] before seen = refl
left_after schema (key ∷ keys) before seen =
    ap (λ is. (see_keys keys record { schema = schema; candidates = is; seen = insert_key key_cmp seen key }).candidates) (left schema.resolutions before key)
    ∙ left_after schema keys (accept schema.resolutions before key) (insert_key key_cmp seen key)

there : (rs : List Resolved) (i : ℕ) → i < length rs → passes (has_keys []) rs i ≡ true
there [] i h = absurd (omega arith)
there (r ∷ rs) zero h = refl
there (r ∷ rs) (suc i) h = there rs i (omega arith)

-- all have the keys of an empty list
all_have_none : (rs : List Resolved) → upto (length rs) ≡ indices_of (has_keys []) rs
all_have_none rs = sym (filter_all (passes (has_keys []) rs) 0 (length rs) (λ i low high. there rs i (omega arith)))

-- the resolutions that have every accepted key are left
pub accepted_left : (schema : SchemaView) (keys : List Key) → (see_keys keys (new_solver schema)).candidates ≡ indices_with (accepted_keys schema.resolutions keys) schema
accepted_left schema keys =
    ap (λ is. (see_keys keys (state_of schema is)).candidates) (all_have_none schema.resolutions) ∙ left_after schema keys [] []

-- ---- keys of one resolution
none_of_both : (key : Key) (before : List Key) (rs : List Resolved) → list_any (has_key key) rs ≡ false → list_any (has_keys (key ∷ before)) rs ≡ false
none_of_both key before [] h = refl
none_of_both key before (r ∷ rs) h =
    let parts = or_parts (has_key key r) (list_any (has_key key) rs) h in
    ap (λ b. (b && has_keys before r) || list_any (has_keys (key ∷ before)) rs) parts.0 ∙ none_of_both key before rs parts.1

regrouped : (a b c : Bool) → ((a && b) && c) ≡ (b && (a && c))
regrouped true true c = refl
regrouped true false c = refl
regrouped false true c = refl
regrouped false false c = refl

module _ (rs : List Resolved) (index : ℕ) (r : Resolved) (at : slice_get rs index ≡ Some r) where
  -- where one resolution has all known keys, they are the accepted ones
  accepted_known : (keys before : List Key) → has_keys before r ≡ true → has_keys (known_keys rs keys) r ≡ true
      → (q : Resolved) → has_keys (fold (accept rs) before keys) q ≡ (has_keys before q && has_keys (known_keys rs keys) q)
  accepted_known [] before has_before has_known q = sym (and-true (has_keys before q))
  accepted_known (key ∷ keys) before has_before has_known q =
      let later = known_keys rs keys in
      ⊎_elim
      (λ known.
      let of_all : has_keys (key ∷ later) r ≡ true = ap (λ b. has_keys (cond b (key ∷ later) later) r) (sym known) ∙ has_known in
      let parts = and_parts (has_key key r) (has_keys later r) of_all in
      let has_more : has_keys (key ∷ before) r ≡ true = and_from (has_key key r) (has_keys before r) parts.0 has_before in
      let accepted : accept rs before key ≡ key ∷ before = ap (λ b. cond b (key ∷ before) before) (at_index (has_keys (key ∷ before)) rs index r at has_more) in
      ap (λ ks. has_keys (fold (accept rs) ks keys) q) accepted
      ∙ accepted_known keys (key ∷ before) has_more parts.1 q
      ∙ regrouped (has_key key q) (has_keys before q) (has_keys later q)
      ∙ ap (λ b. has_keys before q && has_keys (cond b (key ∷ later) later) q) (sym known))
      (λ absent.
      let of_all : has_keys later r ≡ true = ap (λ b. has_keys (cond b (key ∷ later) later) r) (sym absent) ∙ has_known in
      let accepted : accept rs before key ≡ before = ap (λ b. cond b (key ∷ before) before) (none_of_both key before rs absent) in
      ap (λ ks. has_keys (fold (accept rs) ks keys) q) accepted
      ∙ accepted_known keys before has_before of_all q
      ∙ ap (λ b. has_keys before q && has_keys (cond b (key ∷ later) later) q) (sym absent))
      (cases_Bool (is_known rs key))

pass_alike : (p q : Resolved → Bool) → ((r : Resolved) → p r ≡ q r) → (rs : List Resolved) → indices_of p rs ≡ indices_of q rs
pass_alike p q same rs = filter_agree (passes p rs) (passes q rs) (λ i. go (slice_get rs i)) (upto (length rs))
  where
    go : (o : Option Resolved) → option_map_or p o false ≡ option_map_or q o false
    go None = refl
    go (Some r) = same r

-- the resolutions that have all known keys are left
pub known_left : (schema : SchemaView) (keys : List Key) (index : ℕ) (r : Resolved) → HasAllKnown schema keys index r
    → (see_keys keys (new_solver schema)).candidates ≡ indices_with (known_keys schema.resolutions keys) schema
known_left schema keys index r h =
    let rs = schema.resolutions in
    accepted_left schema keys
    ∙ pass_alike (has_keys (accepted_keys rs keys)) (has_keys (known_keys rs keys)) (accepted_known rs index r h.present keys [] refl h.has_known) rs

contains_has : (is : List ℕ) (i : ℕ) → has_index is i ≡ true → Contains is i
contains_has [] i h = absurd (false≢true h)
contains_has (j ∷ is) i h =
    ⊎_elim
    (λ here. (0, omega arith, (Decides-eqb j i).0 here))
    (λ later. let k = contains_has is i later in (suc k.0, omega arith, k.2))
    (or_cases (nat_eq j i) (has_index is i) h)

-- and the one that has them is among them
pub one_left : (schema : SchemaView) (keys : List Key) (index : ℕ) (r : Resolved) → HasAllKnown schema keys index r → Contains (see_keys keys (new_solver schema)).candidates index
one_left schema keys index r h =
    let rs = schema.resolutions in
    let test = has_keys (known_keys rs keys) in
    contains_has (see_keys keys (new_solver schema)).candidates index
    (ap (λ is. has_index is index) (known_left schema keys index r h) ∙ has_index-kept (passes test rs) rs index r h.present (passes_at test rs index r h.present h.has_known))

-- ---- whatever the order
known_has : (rs : List Resolved) (keys : List Key) (q : Resolved) → has_keys (known_keys rs keys) q ≡ true → (key : Key) → Contains keys key → is_known rs key ≡ true → has_key key q ≡ true
known_has rs [] q h key (k, low, same) known = absurd (omega arith)
known_has rs (x ∷ keys) q h key (zero, low, same) known =
    let here : is_known rs x ≡ true = ap (is_known rs) same ∙ known in
    let all : has_keys (x ∷ known_keys rs keys) q ≡ true = ap (λ b. has_keys (cond b (x ∷ known_keys rs keys) (known_keys rs keys)) q) (sym here) ∙ h in
    ap (λ k. has_key k q) (sym same) ∙ (and_parts (has_key x q) (has_keys (known_keys rs keys) q) all).0
known_has rs (x ∷ keys) q h key (suc k, low, same) known =
    known_has rs keys q (go (is_known rs x) h) key (k, omega arith, same) known
  where
    go : (b : Bool) → has_keys (cond b (x ∷ known_keys rs keys) (known_keys rs keys)) q ≡ true → has_keys (known_keys rs keys) q ≡ true
    go true all = (and_parts (has_key x q) (has_keys (known_keys rs keys) q) all).1
    go false all = all

has_known : (rs : List Resolved) (keys : List Key) (q : Resolved) → ((key : Key) → Contains keys key → is_known rs key ≡ true → has_key key q ≡ true) → has_keys (known_keys rs keys) q ≡ true
has_known rs [] q each = refl
has_known rs (x ∷ keys) q each =
    let later = has_known rs keys q (λ key at known. each key (suc at.0, omega (arith, at.1), at.2) known) in
    go (is_known rs x) refl later
  where
    go : (b : Bool) → is_known rs x ≡ b → has_keys (known_keys rs keys) q ≡ true → has_keys (cond b (x ∷ known_keys rs keys) (known_keys rs keys)) q ≡ true
    go true known later = and_from (has_key x q) (has_keys (known_keys rs keys) q) (each x (0, omega arith, refl) known) later
    go false absent later = later

alike : (rs : List Resolved) (keys others : List Key) → HaveSameKeys keys others → (q : Resolved) → has_keys (known_keys rs keys) q ≡ has_keys (known_keys rs others) q
alike rs keys others same q =
    same_test (has_keys (known_keys rs keys) q) (has_keys (known_keys rs others) q)
    (λ h. has_known rs others q (λ key at known. known_has rs keys q h key (same.in_keys key at) known))
    (λ h. has_known rs keys q (λ key at known. known_has rs others q h key (same.in_others key at) known))

-- ---- keys that are seen

module _ (p : Key → Bool) where
  -- a key is put in, and is one more
  one_put : (k : Key) (ks : List Key) → list_any p (insert_key key_cmp ks k) ≡ (p k || list_any p ks)
  one_put k [] = refl
  one_put k (x ∷ xs) = go (key_cmp k x) refl (one_put k xs)
    where
      go : (o : Ordering) → key_cmp k x ≡ o → list_any p (insert_key key_cmp xs k) ≡ (p k || list_any p xs)
          → list_any p (match_ordering o (k ∷ x ∷ xs) (x ∷ xs) (x ∷ insert_key key_cmp xs k)) ≡ (p k || (p x || list_any p xs))
      go Less is later = refl
      go Equal is later = sym (or_self_left (p x) (list_any p xs)) ∙ ap (λ (y : Key). p y || (p x || list_any p xs)) (sym (key_cmp_same k x is))
      go Greater is later = ap (λ b. p x || b) later ∙ or_swap (p x) (p k) (list_any p xs)

  -- so the seen keys are those that were seen before and those that are told
  all_put : (keys : List Key) (s : State) → list_any p (see_keys keys s).seen ≡ (list_any p keys || list_any p s.seen)
  all_put [] s = refl
  all_put (key ∷ keys) s =
      all_put keys (see_key key s)
      ∙ ap (λ b. list_any p keys || b) (one_put key s.seen)
      ∙ grouped (list_any p keys) (p key) (list_any p s.seen)
    where
      grouped : (a b c : Bool) → (a || (b || c)) ≡ ((b || a) || c)
      grouped true true c = refl
      grouped true false c = refl
      grouped false true c = refl
      grouped false false c = refl

  told : (schema : SchemaView) (keys : List Key) → list_any p (see_keys keys (new_solver schema)).seen ≡ list_any p keys
  told schema keys = all_put keys (new_solver schema) ∙ or-false (list_any p keys)

-- a resolution is viable by the told keys where it is by the seen ones
pub viable_told : (schema : SchemaView) (keys : List Key) (r : Resolved) → is_viable (see_keys keys (new_solver schema)).seen r ≡ is_viable keys r
viable_told schema keys r = λ i. list_all (λ (f : FieldView). not f.is_required || told (λ (key : Key). matches key f) schema keys i) (finite.values r.fields)

-- ---- the end
-- the resolution of an index that passes stands at its place
found_at : (test : Resolved → Bool) (rs : List Resolved) (is : List ℕ) (place index : ℕ) (r : Resolved) → slice_get (filter (passes test rs) is) place ≡ Some index → slice_get rs index ≡ Some r
    → slice_get (filter_map (slice_get rs) (filter (passes test rs) is)) place ≡ Some r
found_at test rs [] place index r at here = absurd (none-some index at)
found_at test rs (i ∷ is) place index r at here = go (slice_get rs i) refl (λ k later. found_at test rs is k index r later here) at
  where
    kept : (b : Bool) (q : Resolved) (place : ℕ) → slice_get rs i ≡ Some q → ((k : ℕ) → slice_get (filter (passes test rs) is) k ≡ Some index → slice_get (filter_map (slice_get rs) (filter (passes test rs) is)) k ≡ Some r)
        → slice_get (cond b (i ∷ filter (passes test rs) is) (filter (passes test rs) is)) place ≡ Some index
        → slice_get (filter_map (slice_get rs) (cond b (i ∷ filter (passes test rs) is) (filter (passes test rs) is))) place ≡ Some r
    kept false q place is_q later at = later place at
    kept true q zero is_q later at =
        ap (λ o. slice_get (cons_option o (filter_map (slice_get rs) (filter (passes test rs) is))) 0) (ap (slice_get rs) (same_Some i index at) ∙ here)
    kept true q (suc k) is_q later at =
        ap (λ o. slice_get (cons_option o (filter_map (slice_get rs) (filter (passes test rs) is))) (suc k)) is_q ∙ later k at

    go : (o : Option Resolved) → slice_get rs i ≡ o → ((k : ℕ) → slice_get (filter (passes test rs) is) k ≡ Some index → slice_get (filter_map (slice_get rs) (filter (passes test rs) is)) k ≡ Some r)
        → slice_get (cond (option_map_or test o false) (i ∷ filter (passes test rs) is) (filter (passes test rs) is)) place ≡ Some index
        → slice_get (filter_map (slice_get rs) (cond (option_map_or test o false) (i ∷ filter (passes test rs) is) (filter (passes test rs) is))) place ≡ Some r
    go None is_none later at = later place at
    go (Some q) is_q later at = kept (test q) q place is_q later at

alone_at : (is : List ℕ) (place index : ℕ) → slice_get is place ≡ Some index → length is ≡ 1 → is ≡ index ∷ []
alone_at [] place index at one = absurd (none-some index at)
alone_at (i ∷ []) zero index at one = ap (λ k. k ∷ []) (same_Some i index at)
alone_at (i ∷ []) (suc place) index at one = absurd (none-some index at)
alone_at (i ∷ j ∷ is) place index at one = absurd (omega arith)

-- a viable candidate is the answer or is named
pub ends_with : (s : State) (index : ℕ) (r : Resolved) → Contains (viable s) index → slice_get s.schema.resolutions index ≡ Some r → EndsWithOrNames s index (description r.selections)
ends_with s index r (place, low, same) here =
    let rs = s.schema.resolutions in
    let at : slice_get (viable s) place ≡ Some index = slice_get-get_or (viable s) place index low ∙ ap (λ i. Some i) same in
    let found = found_at (is_viable s.seen) rs s.candidates place index r at here in
    record {
      alone = λ one. alone_at (viable s) place index at one;
      place = place;
      at_place = at;
      described = slice_get-map (λ (q : Resolved). description q.selections) (filter_map (slice_get rs) (viable s)) place ∙ ap (option_map (λ (q : Resolved). description q.selections)) found;
    }

-- keys leave the schema
pub same_schema : (keys : List Key) (s : State) → (see_keys keys s).schema ≡ s.schema
same_schema [] s = refl
same_schema (key ∷ keys) s = same_schema keys (see_key key s)

-- with all its required names told, a resolution that has all known keys is viable
pub one_viable : (schema : SchemaView) (keys : List Key) (index : ℕ) (r : Resolved) → HasAllKnown schema keys index r → is_viable keys r ≡ true → Contains (viable (see_keys keys (new_solver schema))) index
one_viable schema keys index r h required =
    let rs = schema.resolutions in
    let s = see_keys keys (new_solver schema) in
    let having = passes (has_keys (known_keys rs keys)) rs in
    let seen : is_viable s.seen r ≡ true = viable_told schema keys r ∙ required in
    let fit = passes (is_viable s.seen) s.schema.resolutions in
    let fits : fit index ≡ true =
    ap (λ (v : SchemaView). passes (is_viable s.seen) v.resolutions index) (same_schema keys (new_solver schema)) ∙ passes_at (is_viable s.seen) rs index r h.present seen in
    contains_has (viable s) index
    (ap (λ is. has_index (filter fit is) index) (known_left schema keys index r h)
    ∙ ap (λ is. has_index is index) (filter_filter having fit (upto (length rs)))
    ∙ has_index-kept (λ i. having i && fit i) rs index r h.present
    (and_from (having index) (fit index) (passes_at (has_keys (known_keys rs keys)) rs index r h.present h.has_known) fits))

-- and the end comes to it
pub one_ends : (schema : SchemaView) (keys : List Key) (index : ℕ) (r : Resolved) → HasAllKnown schema keys index r → is_viable keys r ≡ true
    → EndsWithOrNames (see_keys keys (new_solver schema)) index (description r.selections)
one_ends schema keys index r h required =
    ends_with (see_keys keys (new_solver schema)) index r (one_viable schema keys index r h required)
    (ap (λ (v : SchemaView). slice_get v.resolutions index) (same_schema keys (new_solver schema)) ∙ h.present)

-- whatever the order
pub any_order : (schema : SchemaView) (keys others : List Key) (index : ℕ) (r : Resolved) → HasAllKnown schema keys index r → HaveSameKeys keys others
    → (see_keys keys (new_solver schema)).candidates ≡ (see_keys others (new_solver schema)).candidates
any_order schema keys others index r h same =
    let rs = schema.resolutions in
    let other : HasAllKnown schema others index r = record { present = h.present; has_known = sym (alike rs keys others same r) ∙ h.has_known } in
    known_left schema keys index r h
    ∙ pass_alike (has_keys (known_keys rs keys)) (has_keys (known_keys rs others)) (alike rs keys others same) rs
    ∙ sym (known_left schema others index r other)

-- ---- the keys of a choice
-- the resolution of a choice stands at its index
at_choice : (schema : SchemaView) → IsOwnBuild schema → (choices : List (List ℕ)) → ListsChoices schema.build schema.root choices → AllZip (IsResolution schema.build schema.root) choices schema.resolutions
at_choice schema built choices listed =
    let own = built.enumerates in
    subst (λ (cs : List (List ℕ)). AllZip (IsResolution schema.build schema.root) cs schema.resolutions)
    (one_list schema.build schema.root own.choices choices own.listed listed) own.resolved

-- what stands at one index of two lists that belong together
second_at : {A B : Type 0} (R : A → B → Type 0) (xs : List A) (ys : List B) (i : ℕ) (x : A) → AllZip R xs ys → slice_get xs i ≡ Some x → (y : B) × (slice_get ys i ≡ Some y) × R x y
second_at R [] ys i x zipped at = absurd (none-some x at)
second_at R (z ∷ xs) [] i x zipped at = absurd zipped
second_at R (z ∷ xs) (y ∷ ys) zero x zipped at = (y, refl, subst (λ w. R w y) (same_Some z x at) zipped.0)
second_at R (z ∷ xs) (y ∷ ys) (suc i) x zipped at = second_at R xs ys i x zipped.1 at

first_at : {A B : Type 0} (R : A → B → Type 0) (xs : List A) (ys : List B) (i : ℕ) (y : B) → AllZip R xs ys → slice_get ys i ≡ Some y → (x : A) × R x y
first_at R xs [] i y zipped at = absurd (none-some y at)
first_at R [] (z ∷ ys) i y zipped at = absurd zipped
first_at R (x ∷ xs) (z ∷ ys) zero y zipped at = (x, subst (R x) (same_Some z y at) zipped.0)
first_at R (x ∷ xs) (z ∷ ys) (suc i) y zipped at = first_at R xs ys i y zipped.1 at

-- told its keys, a choice has all that are known
pub choice_has_all : (schema : SchemaView) → IsOwnBuild schema → (choices : List (List ℕ)) → ListsChoices schema.build schema.root choices
    → (index : ℕ) (choice : List ℕ) → slice_get choices index ≡ Some choice
    → (keys : List Key) (r : Resolved) → TellsChoice schema.build schema.root choice keys r → HasAllKnown schema keys index r
choice_has_all schema built choices listed index choice at keys r told =
    let rs = schema.resolutions in
    let Of = IsResolution schema.build schema.root in
    let zipped = at_choice schema built choices listed in
    let own = second_at Of choices rs index choice zipped at in
    record {
      present = own.1 ∙ ap (λ q. Some q) (resolution-one schema.build schema.root choice own.0 r own.2 told.resolved);
      has_known = has_known rs keys r (λ key among known.
          let one = one_passes (has_key key) rs known in
          let other = first_at Of choices rs one.0 one.1 zipped one.2 in
          told.has_known key among other.0 record { resolution = one.1; of_choice = other.1; has = one.3 });
    }

-- told its keys, a new solver ends with a choice or names it
pub choice_ends : (schema : SchemaView) → IsOwnBuild schema → (choices : List (List ℕ)) → ListsChoices schema.build schema.root choices
    → (index : ℕ) (choice : List ℕ) → slice_get choices index ≡ Some choice
    → (keys : List Key) (r : Resolved) → TellsChoice schema.build schema.root choice keys r
    → EndsWithOrNames (see_keys keys (new_solver schema)) index (description r.selections)
choice_ends schema built choices listed index choice at keys r told =
    one_ends schema keys index r (choice_has_all schema built choices listed index choice at keys r told) told.has_required

-- ---- what calls leave
-- all stay where none has to go
pub all_stay : (is : List ℕ) → is ≡ filter (λ i. true) is
all_stay [] = refl
all_stay (i ∷ is) = ap (λ rest. i ∷ rest) (all_stay is)

some_or_all : (p : ℕ → Bool) (is some : List ℕ) → some ≡ filter p is → (stays : ℕ → Bool) × (or_all some is ≡ filter stays is)
some_or_all p is [] same = ((λ i. true), all_stay is)
some_or_all p is (i ∷ some) same = (p, same)

-- nothing is added where only those stay that pass
pub retain_leaves : (test : Resolved → Bool) (s : State) → LeavesSome s.candidates (retain test s).candidates
retain_leaves test s = record { stays = passes test s.schema.resolutions; left = refl }

-- nor where all stay if none does
pub narrow_leaves : (test : Resolved → Bool) (s : State) → LeavesSome s.candidates (narrow test s).candidates
narrow_leaves test s =
    let some = some_or_all (passes test s.schema.resolutions) s.candidates (passing test s) refl in
    record { stays = some.0; left = some.1 }

-- a key that no candidate has is seen, and that is all
pub unknown_seen : (key : Key) (s : State) → passing (has_key key) s ≡ [] → see_key key s ≡ mark_seen key s
unknown_seen key s none = ap (λ is. record (mark_seen key s) { candidates = or_all is s.candidates }) none

pub unknown_answered : (key : Key) (s : State) → passing (has_key key) s ≡ [] → key_result key s ≡ unknown
unknown_answered key s none = ap (λ is. solved_or (of_fields (distinct_fields key s.schema s.candidates)) (how_many is)) none
