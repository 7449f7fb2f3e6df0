-- The variant of a rank is the last one whose choices begin no later, and the starts of variants
-- are found one after another.
use Rattle.std.proofs.Common.{◌≡◌, ◌⊎◌, inl, inr, ◌+◌, ◌-◌, ◌<◌, ◌≤◌, ◌^◌, ◌∷◌, ◌++◌, ◌∙◌, ℕ, zero, suc, List, [], Option, Some, None, Bool, true, false, ap, arith, drop, get_or, leb, length, map, refl, slice_get, subst, sum_by, sym, take, get_or-append-add}
use Rattle.std.specs.Prelude.{Vec}
use Rattle.std.specs.List.{AllWithin}
use Rattle.std.specs.List.Sorted.{IsNonDecreasing}
use Rattle.std.specs.declared.alloc.Global.{Global}
use Rattle.std.proofs.lemmas.Bool.{cases_lt, leb-false, leb-true}
use Rattle.std.proofs.lemmas.List.{length_push, take_all}
use Rattle.std.proofs.lemmas.List.Sums.{sum_by-cons, sum_by-take-le, sum_by_more}
use Rattle.std.proofs.lemmas.Option.{slice_get-get_or, slice_get_within}
use Rattle.facet_solver_shape.specs.declared.shape.Field.{Field}
use Rattle.facet_solver_shape.specs.declared.shape.Shape.{Shape}
use Rattle.facet_solver_shape.specs.declared.shape.ShapeKind.{ShapeKind}
use Rattle.facet_solver_shape.specs.declared.shape.ShapeKind.TheVariants.{Enum}
use Rattle.facet_solver_shape.specs.declared.shape.Variant.{Variant}
use Rattle.facet_solver.specs.build.Build.{Build, kind_of, repr_for}
use Rattle.facet_solver.specs.build.ChoiceParts.{IsRank, choice_at}
use Rattle.facet_solver.specs.build.Content.{content_of}
use Rattle.facet_solver.specs.build.Count.{count_content, count_fields, count_variant, count_variants}
use Rattle.facet_solver.specs.build.Counts.{CountsTo}
use Rattle.facet_solver.specs.build.Listing.{Choices, choices_of_fields, choices_of_variant, choices_of_variants, indexed}
use Rattle.facet_solver_shape.specs.Representation.{is_walked}
use Rattle.facet_solver_shape.specs.Roles.{alternatives, role_of}
use Rattle.facet_solver.specs.build.Starts.{AreStarts, AreStartsOf, HasStarts, HasWalkedStarts, IsLastStart, IsMoreStarts, count_before, starts_at}
use Rattle.facet_solver.specs.declared.build.count.saturating.SaturatingCount.{SaturatingCount}
use Rattle.facet_solver_shape.specs.declared.role.Target.{Target}
use Rattle.facet_solver.proofs.ChoiceParts.{at_variant, content_count, few_at_variant}
use Rattle.facet_solver.proofs.Count.{length-map'}
use Rattle.facet_solver.proofs.Outcome.{get_push}
use Rattle.facet_solver.proofs.Serving.{role_of-target}

-- ---- the choices of a variant and of those behind it begin where those before it end
module _ (choices : Variant → Choices) (count : Variant → ℕ) (long : (v : Variant) → length (choices v) ≡ count v) where
  from_start : (k : ℕ) (vs : List Variant) (i r : ℕ) → choice_at (indexed k choices vs) (sum_by count (take i vs) + r) ≡ choice_at (indexed (k + i) choices (drop i vs)) r
  unfolding indexed
  from_start k vs zero r = ap (λ (n : ℕ). choice_at (indexed k choices vs) n) (omega arith) ∙ ap (λ (n : ℕ). choice_at (indexed n choices vs) r) (omega arith)
  from_start k [] (suc i) r = refl
  from_start k (v ∷ vs) (suc i) r =
      let first = map (λ c. k ∷ c) (choices v) in
      let all : length first ≡ count v = length-map' (λ c. k ∷ c) (choices v) ∙ long v in
      let whole = sum_by-cons count v (take i vs) in
      ap (λ (n : ℕ). choice_at (first ++ indexed (suc k) choices vs) n) (omega (arith, whole, all))
      ∙ get_or-append-add first (indexed (suc k) choices vs) (sum_by count (take i vs) + r) []
      ∙ from_start (suc k) vs i r
      ∙ ap (λ (n : ℕ). choice_at (indexed n choices (drop i vs)) r) (omega arith)

before_rises : (count : Variant → ℕ) (vs : List Variant) (i j : ℕ) → i ≤ j → sum_by count (take i vs) ≤ sum_by count (take j vs)
before_rises count vs zero j h = omega arith
before_rises count vs (suc i) zero h = absurd (omega arith)
before_rises count [] (suc i) (suc j) h = omega arith
before_rises count (v ∷ vs) (suc i) (suc j) h =
    let one = sum_by-cons count v (take i vs) in
    let other = sum_by-cons count v (take j vs) in
    let rest = before_rises count vs i j (omega arith) in
    omega arith

some_variant : (count : Variant → ℕ) (vs : List Variant) → 0 < sum_by count vs → 0 < length vs
some_variant count [] h = absurd (omega (arith, h))
some_variant count (v ∷ vs) h = omega arith

-- a rank stands among the choices of the variant at an index
pub record StandsAt (build : Build) (vs : List Variant) (i k : ℕ) : Type 0 where
  pub within : i < length vs
  pub from : count_before build vs i ≤ k
  pub before : k < count_before build vs (i + 1)

-- ---- the last start that is not above a rank stands before the point where starts pass it
module _ (starts : List ℕ) (k : ℕ) (some : 0 < length starts) (first : get_or starts 0 0 ≤ k) where
  some_no_later : (p : ℕ) → AllWithin (λ start. leb start k ≡ false) starts p (length starts) → 0 < p
  some_no_later zero later = let one = leb-false _ _ (later 0 0 (omega arith) some) in absurd (omega (arith, one))
  some_no_later (suc p) later = omega arith

  pub before_point : (p : ℕ) → p ≤ length starts → AllWithin (λ start. leb start k ≡ true) starts 0 p × AllWithin (λ start. leb start k ≡ false) starts p (length starts) → (0 < p) × IsLastStart starts k (p - 1)
  before_point p le point =
      let one = some_no_later p point.1 in (
        one,
        record {
          within = omega arith;
          from = leb-true _ _ (point.0 (p - 1) 0 (omega arith) (omega arith));
          next = λ j after lt. leb-false _ _ (point.1 j 0 (omega arith) lt);
        },
      )

-- ---- and is that of the rank's variant
module _ (build : Build) (vs : List Variant) (starts : List ℕ) (are : AreStarts build vs starts) (k : ℕ) (rank : IsRank k (count_variants build true vs)) where
  abbrev count : Variant → ℕ
  count = count_variant (count_fields build) build.catalogue true

  -- below the count of all each start is exact
  pub exact_start : (i d : ℕ) → i < length vs → get_or starts i d ≡ count_before build vs i
  exact_start i d h =
      let le = sum_by-take-le count vs i in
      are.each i (get_or starts i d) (slice_get-get_or starts i d (omega (arith, are.all))) (omega (arith, le, rank.1))

  -- so they rise
  pub starts_rise : IsNonDecreasing starts
  starts_rise i j d le within =
      let one = exact_start i d (omega (arith, are.all)) in
      let other = exact_start j d (omega (arith, are.all)) in
      let rise = before_rises count vs i j le in
      omega (arith, one, other, rise)

  -- from 0 on
  pub some_start : 0 < length starts
  some_start = let some = some_variant count vs (omega (arith, rank.0)) in omega (arith, are.all)

  pub first_start : get_or starts 0 0 ≤ k
  first_start = let first = exact_start 0 0 (omega (arith, are.all, some_start)) in omega (arith, first)

  next_start : (i : ℕ) → IsLastStart starts k i → (i + 1 < length starts) ⊎ (length starts ≤ i + 1) → k < count_before build vs (i + 1)
  next_start i last (inl lt) =
      let next = exact_start (i + 1) 0 (omega (arith, are.all)) in
      let later = last.next (i + 1) (omega arith) lt in
      omega (arith, next, later)
  next_start i last (inr past) = subst (λ (ws : List Variant). k < count_variants build true ws) (sym (take_all (i + 1) vs (omega (arith, are.all)))) rank.0

  pub last_stands : (i : ℕ) → IsLastStart starts k i → StandsAt build vs i k
  last_stands i last =
      let within : i < length vs = omega (arith, are.all, last.within) in
      let start = exact_start i 0 within in
      record {
        within = within;
        from = omega (arith, start, last.from);
        before = next_start i last (cases_lt (i + 1) (length starts));
      }

-- ---- what a rank is among the choices of its variant
module _ (build : Build) (vs : List Variant) (i k : ℕ) (v : Variant) (rank : IsRank k (count_variants build true vs)) (stands : StandsAt build vs i k) (is : v ≡ get_or vs i v) where
  pub rank_in_content : IsRank (k - count_before build vs i) (count_content build v)
  rank_in_content =
      let count = count_variant (count_fields build) build.catalogue true in
      let more = sum_by_more count vs i v stands.within in
      let same = ap count is in
      (omega (arith, more, same, stands.from, stands.before), few_at_variant build vs i v k stands.within is rank)

  pub choice_in_content : choice_at (choices_of_variants build true vs) k ≡ i ∷ choice_at (choices_of_fields build (content_of build.catalogue v).fields) (k - count_before build vs i)
  unfolding choices_of_variants
  choice_in_content =
      let choices = choices_of_variant (choices_of_fields build) build.catalogue true in
      let r = k - count_before build vs i in
      let whole : k ≡ count_before build vs i + r = omega (arith, stands.from) in
      ap (λ (n : ℕ). choice_at (indexed 0 choices vs) n) whole
      ∙ from_start choices (count_variant (count_fields build) build.catalogue true) (content_count build) 0 vs i r
      ∙ ap (λ (n : ℕ). choice_at (indexed n choices (drop i vs)) r) (omega arith)
      ∙ at_variant choices i vs i v (count_content build v) r stands.within is (content_count build v) rank_in_content.0

-- ---- the starts of variants, one after another
pub record AreFirstStarts (build : Build) (vs : List Variant) (n : ℕ) (starts : List ℕ) : Type 0 where
  pub all : length starts ≡ n
  pub within : n ≤ length vs
  pub each : (i start : ℕ) → slice_get starts i ≡ Some start → count_before build vs i < 2 ^ 64 → start ≡ count_before build vs i

module _ (build : Build) (vs : List Variant) where
  pub one_more_start : (n start : ℕ) (starts : List ℕ) → n < length vs → AreFirstStarts build vs n starts → (count_before build vs n < 2 ^ 64 → start ≡ count_before build vs n) → AreFirstStarts build vs (n + 1) (starts ++ start ∷ [])
  one_more_start n start starts lt first is = record {
    all = let longer = length_push starts start in omega (arith, longer, first.all);
    within = omega arith;
    each = λ i s e few. entry i s few (get_push starts start s i e);
  }
    where
      entry : (i s : ℕ) → count_before build vs i < 2 ^ 64 → (slice_get starts i ≡ Some s) ⊎ ((i ≡ length starts) × (start ≡ s)) → s ≡ count_before build vs i
      entry i s few (inl before) = first.each i s before few
      entry i s few (inr last) =
          let at : i ≡ n = last.0 ∙ first.all in
          sym last.1 ∙ is (subst (λ (j : ℕ). count_before build vs j < 2 ^ 64) at few) ∙ ap (count_before build vs) (sym at)

  pub counted_more : (n : ℕ) (v : Variant) (t : SaturatingCount) → n < length vs → v ≡ get_or vs n v → CountsTo t (count_before build vs n + count_content build v) → CountsTo t (count_before build vs (n + 1))
  counted_more n v t lt is h =
      let count = count_variant (count_fields build) build.catalogue true in
      subst (CountsTo t) (ap (λ (u : Variant). count_before build vs n + count u) is ∙ sym (sum_by_more count vs n v lt)) h

  pub all_starts : (n : ℕ) (starts : List ℕ) → length vs ≤ n → AreFirstStarts build vs n starts → AreStarts build vs starts
  all_starts n starts past first = record { all = omega (arith, first.all, first.within); each = first.each }

-- ---- a table of starts, enum by enum
pub past_end : (table : List (Vec ℕ Global)) (id : ℕ) → length table ≤ id → starts_at table id ≡ []
past_end [] id h = refl
past_end (t ∷ table) zero h = absurd (omega arith)
past_end (t ∷ table) (suc id) h = past_end table id (omega arith)

pub before_last : (table : List (Vec ℕ Global)) (t : Vec ℕ Global) (id : ℕ) → id < length table → starts_at (table ++ t ∷ []) id ≡ starts_at table id
before_last [] t id h = absurd (omega arith)
before_last (u ∷ table) t zero h = refl
before_last (u ∷ table) t (suc id) h = before_last table t id (omega arith)

at_last : (table : List (Vec ℕ Global)) (t : Vec ℕ Global) → starts_at (table ++ t ∷ []) (length table) ≡ t.items
at_last [] t = refl
at_last (u ∷ table) t = at_last table t

pub with_none : (table : List (Vec ℕ Global)) (t : Vec ℕ Global) (id : ℕ) → t.items ≡ [] → starts_at (table ++ t ∷ []) id ≡ starts_at table id
with_none [] t zero e = e
with_none [] t (suc id) e = refl
with_none (u ∷ table) t zero e = refl
with_none (u ∷ table) t (suc id) e = with_none table t id e

-- a table that only got empty entries gets one behind them
pub pushed_at : (old table : List (Vec ℕ Global)) (t : Vec ℕ Global) (index : ℕ) → length table ≡ index → ((id : ℕ) → starts_at table id ≡ starts_at old id) → IsMoreStarts index t.items old (table ++ t ∷ [])
pushed_at old table t index at same = record {
  ends = let longer = length_push table t in omega (arith, longer, at);
  earlier = λ id lt. before_last table t id (omega (arith, lt, at)) ∙ same id;
  here = subst (λ (i : ℕ). starts_at (table ++ t ∷ []) i ≡ t.items) at (at_last table t);
}

-- the starts of those that were asked for among the first shapes
pub record AreFirstTables (build : Build) (root n : ℕ) (table : List (Vec ℕ Global)) : Type 0 where
  pub ends : length table ≤ n
  pub each : (id : ℕ) (s : Shape) → id < n → slice_get build.catalogue id ≡ Some s → (id ≡ root) ⊎ (is_walked (repr_for build s) ≡ true) → AreStartsOf build s.kind (starts_at table id)

module _ (build : Build) (root : ℕ) where
  pub no_table : AreFirstTables build root 0 []
  no_table = record { ends = omega arith; each = λ id s lt here asked. absurd (omega (arith, lt)) }

  module _ (n : ℕ) (old new : List (Vec ℕ Global)) (starts : List ℕ) (s : Shape) (asked : Bool) (here : slice_get build.catalogue n ≡ Some s) (first : AreFirstTables build root n old) where
    pub one_more_table : IsMoreStarts n starts old new → (n ≡ root → asked ≡ true) → (is_walked (repr_for build s) ≡ true → asked ≡ true) → (asked ≡ true → AreStartsOf build s.kind starts) → AreFirstTables build root (n + 1) new
    one_more_table more by_root by_walk has = record {
      ends = more.ends;
      each = λ id r lt at of. entry id r at of (cases_lt id n) lt;
    }
      where
        entry : (id : ℕ) (r : Shape) → slice_get build.catalogue id ≡ Some r → (id ≡ root) ⊎ (is_walked (repr_for build r) ≡ true) → (id < n) ⊎ (n ≤ id) → id < n + 1 → AreStartsOf build r.kind (starts_at new id)
        entry id r at of (inl before) lt = subst (AreStartsOf build r.kind) (sym (more.earlier id before)) (first.each id r before at of)
        entry id r at of (inr past) lt =
            let last : id ≡ n = omega (arith, past, lt) in
            let same : s ≡ r = (let both : Some s ≡ Some r = sym here ∙ ap (slice_get build.catalogue) (sym last) ∙ at in cc) in
            let is_asked : asked ≡ true = elim of [
              | inl e ↦ by_root (sym last ∙ e)
              | inr e ↦ by_walk (subst (λ (u : Shape). is_walked (repr_for build u) ≡ true) (sym same) e)
            ] in
            subst (λ (u : Shape). AreStartsOf build u.kind (starts_at new id)) same
            (subst (AreStartsOf build s.kind) (sym (ap (starts_at new) last ∙ more.here)) (has is_asked))

  -- where nothing is added there are none
  pub none_added : (n : ℕ) (table : List (Vec ℕ Global)) → length table ≤ n → IsMoreStarts n [] table table
  none_added n table ends = record { ends = omega (arith, ends); earlier = λ id lt. refl; here = past_end table n ends }

  module _ (n : ℕ) (table : List (Vec ℕ Global)) (first : AreFirstTables build root n table) (all : length build.catalogue ≤ n) where
    asked_starts : (id : ℕ) (s : Shape) → slice_get build.catalogue id ≡ Some s → (id ≡ root) ⊎ (is_walked (repr_for build s) ≡ true) → AreStartsOf build s.kind (starts_at table id)
    asked_starts id s here asked = let lt = slice_get_within build.catalogue id s here in first.each id s (omega (arith, lt, all)) here asked

    pub walked_starts : HasWalkedStarts build table
    walked_starts id s here walked =
        subst (λ (k : ShapeKind). AreStartsOf build k (starts_at table id)) (sym (ap kind_of here)) (asked_starts id s here (inr walked))

    pub root_starts : HasStarts build table root
    root_starts = go (slice_get build.catalogue root) refl
      where
        go : (o : Option Shape) → slice_get build.catalogue root ≡ o → AreStartsOf build (kind_of o) (starts_at table root)
        go None here = tt
        go (Some s) here = asked_starts root s here (inl refl)

-- ---- what a table has for an enum
module _ (build : Build) (table : List (Vec ℕ Global)) where
  -- at the root
  pub enum_starts : (id : ℕ) (s : Shape) (ws : Vec Variant Global) → HasStarts build table id → slice_get build.catalogue id ≡ Some s → s.kind ≡ Enum ws → AreStarts build ws.items (starts_at table id)
  enum_starts id s ws has here is = subst (λ (k : ShapeKind). AreStartsOf build k (starts_at table id)) (ap kind_of here ∙ is) has

  -- at a flattened field
  pub field_starts : (f : Field) (target : Target) (s : Shape) (vs : List Variant) → HasWalkedStarts build table → alternatives target s vs ≡ role_of build.catalogue f → is_walked (repr_for build s) ≡ true → AreStarts build vs (starts_at table target.shape)
  field_starts f target s vs has is walked =
      let role = role_of-target build.catalogue f (alternatives target s vs) is in
      subst (λ (us : List Variant). AreStarts build us (starts_at table target.shape)) role.1.1.1
      (enum_starts target.shape s role.1.0 (has target.shape s role.0 walked) role.0 role.1.1.0)
