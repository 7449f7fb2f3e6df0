-- The choice of a rank: among products, variants and what may be absent, and by parts that are
-- taken from the end.
use Rattle.std.proofs.Common.{◌≡◌, ◌+◌, ◌*◌, ◌/◌, ◌%◌, ◌^◌, ◌<◌, ◌≤◌, ℕ, zero, suc, List, [], ◌∷◌, ◌++◌, map, reverse, flat_map, sum_by, Some, None, Bool, true, false, ap, append-nil, append_assoc, arith, drop, get_or, length, refl, subst, sym, ◌∙◌, suc-mul, zero-mul, mul-zero, mul_comm, slice_get, get_or-append-add}
use Rattle.std.specs.List.{AllByRecursion}
use Rattle.std.proofs.lemmas.List.{get_or_append_left}
use Rattle.std.proofs.lemmas.List.Concat.{flat_map-append}
use Rattle.std.proofs.lemmas.List.Sums.{sum_by-append, sum_by-cons, get_or-le-sum_by}
use Rattle.std.proofs.lemmas.Nat.{div-add-mod', div_below, mod_below}
use Rattle.std.proofs.lemmas.Option.{same_Some, slice_get-get_or}
use Rattle.facet_solver_shape.specs.declared.shape.Field.{Field}
use Rattle.facet_solver_shape.specs.declared.shape.Variant.{Variant}
use Rattle.facet_solver_shape.specs.Catalogues.{FieldsBelow, NamesEarlier}
use Rattle.facet_solver.specs.declared.build.choices.Part.{Part}
use Rattle.facet_solver.specs.build.Build.{Build, repr_for}
use Rattle.facet_solver_shape.specs.Representation.{is_walked}
use Rattle.facet_solver_shape.specs.declared.role.Target.{Target}
use Rattle.facet_solver_shape.specs.declared.shape.Shape.{Shape}
use Rattle.facet_solver.specs.build.Emissions.{IsPlain}
use Rattle.facet_solver_shape.specs.Roles.{Role, alternatives, block, catch_all, leaf, may_be_absent, regular, role_of}
use Rattle.facet_solver.specs.build.Work.{work_of_field, work_of_fields, work_of_role, work_of_variant, work_of_variants}
use Rattle.facet_solver.specs.build.Count.{count_content, count_field, count_fields, count_of_root, count_optional, count_present, count_role, count_variant, count_variants}
use Rattle.facet_solver.specs.build.Listing.{Choices, choices_of_field, choices_of_fields, choices_of_fields_step, choices_of_optional, choices_of_present, choices_of_role, choices_of_root, choices_of_variant, choices_of_variants, indexed, no_choice, product}
use Rattle.facet_solver.specs.build.ChoiceParts.{Adds, IsPart, IsRank, StandFor, choice_at, indices_of, presence, present_rank, work_of_part}
use Rattle.facet_solver.specs.build.Counts.{CountsTo}
use Rattle.facet_solver.specs.declared.build.count.saturating.SaturatingCount.{SaturatingCount}
use Rattle.facet_solver.proofs.Count.{below_count, length-map', length-product, present_count, role_count, root_count}
use Rattle.facet_solver.proofs.Listing.{indexed-more, product-one_left, product-one_right, product_assoc}
use Rattle.facet_solver.proofs.WalkSteps.{choices_of_fields-step}
use Rattle.facet_solver.proofs.Work.{FieldsBelow-last}

-- where there is nothing to choose the one choice has no index
pub only_choice : (cs : Choices) (k : ℕ) → no_choice ≡ cs → k < length cs → choice_at cs k ≡ []
only_choice cs k e h = ap (λ (ds : Choices). choice_at ds k) (sym e) ∙ first k (subst (λ (ds : Choices). k < length ds) (sym e) h)
  where
    first : (k : ℕ) → k < length no_choice → choice_at no_choice k ≡ []
    first zero h = refl
    first (suc k) h = absurd (omega (arith, h))

-- ---- ranks in a product
pub at_map : (f : List ℕ → List ℕ) (cs : Choices) (k : ℕ) → k < length cs → choice_at (map f cs) k ≡ f (choice_at cs k)
at_map f [] k h = absurd (omega arith)
at_map f (c ∷ cs) zero h = refl
at_map f (c ∷ cs) (suc k) h = at_map f cs k (omega arith)

at_product : (cs ds : Choices) (q r : ℕ) → q < length cs → r < length ds → choice_at (product cs ds) (q * length ds + r) ≡ choice_at cs q ++ choice_at ds r
unfolding product
at_product [] ds q r h k = absurd (omega arith)
at_product (c ∷ cs) ds zero r h k =
    let first = map (λ d. c ++ d) ds in
    let none = zero-mul (length ds) in
    let long : length first ≡ length ds = length-map' (λ d. c ++ d) ds in
    ap (λ (n : ℕ). choice_at (first ++ product cs ds) n) (omega (arith, none))
    ∙ get_or_append_left first (product cs ds) [] r (omega (arith, long, k))
    ∙ at_map (λ d. c ++ d) ds r k
at_product (c ∷ cs) ds (suc q) r h k =
    let first = map (λ d. c ++ d) ds in
    let one_more = suc-mul q (length ds) in
    let long : length first ≡ length ds = length-map' (λ d. c ++ d) ds in
    ap (λ (n : ℕ). choice_at (first ++ product cs ds) n) (omega (arith, one_more, long))
    ∙ get_or-append-add first (product cs ds) (q * length ds + r) []
    ∙ at_product cs ds q r (omega arith) k

-- the second factor's choices follow one another where that of the first stays
at_product_rank : (cs ds : Choices) (k n : ℕ) → n ≡ length ds → 0 < n → k < length cs * n → choice_at (product cs ds) k ≡ choice_at cs (k / n) ++ choice_at ds (k % n)
at_product_rank cs ds k n e some h =
    ap (choice_at (product cs ds)) (sym (div-add-mod' k n) ∙ ap (λ (m : ℕ). k / n * m + k % n) e)
    ∙ at_product cs ds (k / n) (k % n) (div_below k n (length cs) some h) (subst (λ (m : ℕ). k % n < m) e (mod_below k n some))

-- where a product has a rank, both factors have some choices, and no more than it
pub record AreFactors (m n : ℕ) : Type 0 where
  pub some : 0 < n
  pub first : m < 2 ^ 64
  pub second : n < 2 ^ 64

factors : (m n k : ℕ) → IsRank k (m * n) → AreFactors m n
factors zero n k h = let none = zero-mul n in absurd (omega (arith, none, h.0))
factors (suc m) zero k h = let none = mul-zero (suc m) in absurd (omega (arith, none, h.0))
factors (suc m) (suc n) k h =
    let by_second = suc-mul m (suc n) in
    let by_first = mul_comm (suc m) (suc n) ∙ suc-mul n (suc m) in
    record { some = omega arith; first = omega (arith, by_first, h.1); second = omega (arith, by_second, h.1) }

-- ---- the rank at the last of some fields, and at those before it
module _ (build : Build) (checked : NamesEarlier build.catalogue) where
  step-last : (fs : List Field) (f : Field) → choices_of_fields_step (choices_of_fields build) build (fs ++ f ∷ []) ≡ product (choices_of_fields_step (choices_of_fields build) build fs) (choices_of_role (choices_of_fields build) build (role_of build.catalogue f))
  unfolding choices_of_fields_step
  step-last [] f = product-one_right _ ∙ sym (product-one_left _)
  step-last (g ∷ fs) f =
      ap (λ (cs : Choices). product (choices_of_role (choices_of_fields build) build (role_of build.catalogue g)) cs) (step-last fs f)
      ∙ sym (product_assoc (choices_of_role (choices_of_fields build) build (role_of build.catalogue g)) (choices_of_fields_step (choices_of_fields build) build fs) (choices_of_role (choices_of_fields build) build (role_of build.catalogue f)))

  pub choices_of_fields-last : (fs : List Field) (f : Field) → FieldsBelow (length build.catalogue) (fs ++ f ∷ []) → choices_of_fields build (fs ++ f ∷ []) ≡ product (choices_of_fields build fs) (choices_of_field build f)
  unfolding choices_of_field
  choices_of_fields-last fs f b =
      choices_of_fields-step build checked (fs ++ f ∷ []) b
      ∙ step-last fs f
      ∙ ap (λ (cs : Choices). product cs (choices_of_role (choices_of_fields build) build (role_of build.catalogue f))) (sym (choices_of_fields-step build checked fs (FieldsBelow-last (length build.catalogue) fs f b).0))

  field_count : (f : Field) → length (choices_of_field build f) ≡ count_field build f
  unfolding choices_of_field
  field_count f = role_count build (choices_of_fields build) (count_fields build) (role_of build.catalogue f) (below_count build)

  count-last : (fs : List Field) (f : Field) → FieldsBelow (length build.catalogue) (fs ++ f ∷ []) → count_fields build (fs ++ f ∷ []) ≡ count_fields build fs * count_field build f
  count-last fs f b =
      sym (below_count build (fs ++ f ∷ []))
      ∙ ap length (choices_of_fields-last fs f b)
      ∙ length-product (choices_of_fields build fs) (choices_of_field build f)
      ∙ ap (λ (n : ℕ). n * length (choices_of_field build f)) (below_count build fs)
      ∙ ap (λ (n : ℕ). count_fields build fs * n) (field_count f)

  -- equal choices are as many
  pub as_many : (fs gs : List Field) → choices_of_fields build fs ≡ choices_of_fields build gs → count_fields build fs ≡ count_fields build gs
  as_many fs gs e = sym (below_count build fs) ∙ ap length e ∙ below_count build gs

  -- what a rank at fields says of the last one, and of those before it
  pub record AreRanks (fs : List Field) (f : Field) (k n : ℕ) : Type 0 where
    pub some : 0 < n
    pub before : IsRank (k / n) (count_fields build fs)
    pub last : IsRank (k % n) (count_field build f)
    pub choice : choice_at (choices_of_fields build (fs ++ f ∷ [])) k ≡ choice_at (choices_of_fields build fs) (k / n) ++ choice_at (choices_of_field build f) (k % n)

  few_at_last : (fs : List Field) (f : Field) (k : ℕ) → FieldsBelow (length build.catalogue) (fs ++ f ∷ []) → IsRank k (count_fields build (fs ++ f ∷ [])) → count_field build f < 2 ^ 64
  few_at_last fs f k b h = (factors (count_fields build fs) (count_field build f) k (subst (IsRank k) (count-last fs f b) h)).second

  ranks : (fs : List Field) (f : Field) (k n : ℕ) → n ≡ count_field build f → FieldsBelow (length build.catalogue) (fs ++ f ∷ []) → IsRank k (count_fields build (fs ++ f ∷ [])) → AreRanks fs f k n
  ranks fs f k n e b h =
      let of_both = subst (IsRank k) (count-last fs f b ∙ ap (λ (m : ℕ). count_fields build fs * m) (sym e)) h in
      let parts = factors (count_fields build fs) n k of_both in
      record {
        some = parts.some;
        before = (div_below k n (count_fields build fs) parts.some of_both.0, parts.first);
        last = subst (IsRank (k % n)) e (mod_below k n parts.some, parts.second);
        choice =
            ap (λ (cs : Choices). choice_at cs k) (choices_of_fields-last fs f b)
            ∙ at_product_rank (choices_of_fields build fs) (choices_of_field build f) k n (e ∙ sym (field_count f)) parts.some
            (subst (λ (m : ℕ). k < m * n) (sym (below_count build fs)) of_both.0);
      }

  -- the same of fields that have the choices of others, by a count that is exact below 2^64
  pub last_ranks : (all kept fs : List Field) (f : Field) (k n : ℕ) (t : SaturatingCount) → choices_of_fields build kept ≡ choices_of_fields build all → IsRank k (count_fields build all) → kept ≡ fs ++ f ∷ [] → FieldsBelow (length build.catalogue) kept
      → CountsTo t (count_field build f) → ((m : ℕ) → CountsTo t m → m < 2 ^ 64 → n ≡ m) → AreRanks fs f k n
  last_ranks all kept fs f k n t same rank e b counts exact =
      let below = subst (FieldsBelow (length build.catalogue)) e b in
      let long = sym (as_many kept all same) ∙ ap (count_fields build) e in
      let whole = subst (IsRank k) long rank in
      ranks fs f k n (exact _ counts (few_at_last fs f k below whole)) below whole

  -- a last field with nothing to choose changes nothing
  pub without_last : (fs : List Field) (f : Field) → FieldsBelow (length build.catalogue) (fs ++ f ∷ []) → choices_of_field build f ≡ no_choice → choices_of_fields build (fs ++ f ∷ []) ≡ choices_of_fields build fs
  without_last fs f b none =
      choices_of_fields-last fs f b
      ∙ ap (λ (cs : Choices). product (choices_of_fields build fs) cs) none
      ∙ product-one_right (choices_of_fields build fs)

  -- no fields have one choice, of no index
  nothing : no_choice ≡ choices_of_fields build []
  unfolding choices_of_fields_step
  nothing = sym (choices_of_fields-step build checked [] tt)

  pub no_fields : (fs : List Field) (k : ℕ) → length fs ≡ 0 → IsRank k (count_fields build fs) → choice_at (choices_of_fields build fs) k ≡ []
  no_fields [] k e h = only_choice (choices_of_fields build []) k nothing (subst (λ (n : ℕ). k < n) (sym (below_count build [])) h.0)
  no_fields (f ∷ fs) k e h = absurd (omega (arith, e))

-- ---- what may be absent
module _ (build : Build) where
  pub at_present : (b : Bool) (cs : Choices) (k j n : ℕ) → length cs ≡ n → IsRank k (count_optional b n) → Some j ≡ present_rank b k → IsRank j n × (choice_at (choices_of_optional b cs) k ≡ flat_map (indices_of build) (presence b k) ++ choice_at cs j)
  at_present false cs k j n e h is =
      let same : j ≡ k = same_Some j k is in
      (subst (λ (i : ℕ). IsRank i n) (sym same) h, ap (choice_at cs) (sym same))
  at_present true cs zero j n e h is = absurd (cc)
  at_present true cs (suc k) j n e h is =
      let same : j ≡ k = same_Some j k is in
      let below : k < length cs = omega (arith, e, h.0) in
      ((omega (arith, same, h.0), omega (arith, h.1)), at_map (λ c. 1 ∷ c) cs k below ∙ ap (λ (i : ℕ). 1 ∷ choice_at cs i) (sym same))

  pub at_absent : (b : Bool) (cs : Choices) (k : ℕ) → None ≡ present_rank b k → choice_at (choices_of_optional b cs) k ≡ flat_map (indices_of build) (presence b k)
  at_absent false cs k is = absurd (cc)
  at_absent true cs zero is = refl
  at_absent true cs (suc k) is = absurd (cc)

-- ---- variants
module _ (choices : Variant → Choices) where
  -- before the choices of a variant's content its index
  pub at_variant : (k : ℕ) (vs : List Variant) (i : ℕ) (v : Variant) (n r : ℕ) → i < length vs → v ≡ get_or vs i v → length (choices v) ≡ n → r < n → choice_at (indexed k choices (drop i vs)) r ≡ k ∷ choice_at (choices v) r
  at_variant k vs i v n r within is long h =
      let first = map (λ c. k ∷ c) (choices v) in
      let all : length first ≡ length (choices v) = length-map' (λ c. k ∷ c) (choices v) in
      ap (λ (cs : Choices). choice_at cs r)
      (indexed-more choices k vs i v within ∙ ap (λ (u : Variant). map (λ c. k ∷ c) (choices u) ++ indexed (suc k) choices (drop (i + 1) vs)) (sym is))
      ∙ get_or_append_left first (indexed (suc k) choices (drop (i + 1) vs)) [] r (omega (arith, all, long, h))
      ∙ at_map (λ c. k ∷ c) (choices v) r (omega (arith, long, h))

module _ (build : Build) where
  -- variants whose contents are not walked have a choice each, the index
  at_unwalked : (i : ℕ) (vs : List Variant) (r : ℕ) → r < sum_by (count_variant (count_fields build) build.catalogue false) vs → choice_at (indexed i (choices_of_variant (choices_of_fields build) build.catalogue false) vs) r ≡ (i + r) ∷ []
  unfolding indexed
  at_unwalked i [] r h = absurd (omega (arith, h))
  at_unwalked i (v ∷ vs) zero h = ap (λ (n : ℕ). n ∷ []) (omega arith)
  at_unwalked i (v ∷ vs) (suc r) h =
      let count = sum_by-cons (count_variant (count_fields build) build.catalogue false) v vs in
      at_unwalked (suc i) vs r (omega (arith, count, h)) ∙ ap (λ (n : ℕ). n ∷ []) (omega arith)

  pub at_index : (vs : List Variant) (r : ℕ) (walked : Bool) → walked ≡ false → IsRank r (count_variants build walked vs) → choice_at (choices_of_variants build walked vs) r ≡ r ∷ []
  unfolding choices_of_variants
  at_index vs r true e h = absurd (cc)
  at_index vs r false e h = at_unwalked 0 vs r h.0 ∙ ap (λ (n : ℕ). n ∷ []) (omega arith)

  -- each has as many choices as are counted, which are no more than those of all
  pub content_count : (v : Variant) → length (choices_of_variant (choices_of_fields build) build.catalogue true v) ≡ count_content build v
  content_count v = below_count build _

  pub few_at_variant : (vs : List Variant) (i : ℕ) (v : Variant) (k : ℕ) → i < length vs → v ≡ get_or vs i v → IsRank k (count_variants build true vs) → count_content build v < 2 ^ 64
  few_at_variant vs i v k within is h =
      let one = get_or-le-sum_by (count_variant (count_fields build) build.catalogue true) vs i v within in
      let same = ap (λ (u : Variant). count_content build u) is in
      omega (arith, one, same, h.1)

-- ---- parts, one after another
module _ (build : Build) where
  each_part : (ps qs : List Part) → AllByRecursion (IsPart build) ps → AllByRecursion (IsPart build) qs → AllByRecursion (IsPart build) (ps ++ qs)
  each_part [] qs h k = k
  each_part (p ∷ ps) qs h k = (h.0, each_part ps qs h.1 k)

  before_part : (ps qs : List Part) → AllByRecursion (IsPart build) (ps ++ qs) → AllByRecursion (IsPart build) ps × AllByRecursion (IsPart build) qs
  before_part [] qs h = (tt, h)
  before_part (p ∷ ps) qs h = let r = before_part ps qs h.1 in ((h.0, r.0), r.1)

  stand-then : (ps qs : List Part) (c d : List ℕ) → StandFor build ps c → StandFor build qs d → StandFor build (ps ++ qs) (c ++ d)
  stand-then ps qs c d h k = record {
    are = each_part ps qs h.are k.are;
    stand = flat_map-append (indices_of build) ps qs ∙ ap (λ (x : List ℕ). x ++ flat_map (indices_of build) qs) h.stand ∙ ap (λ (x : List ℕ). c ++ x) k.stand;
  }

  -- a part alone
  pub stand-one : (p : Part) (c : List ℕ) → IsPart build p → indices_of build p ≡ c → StandFor build (p ∷ []) c
  stand-one p c h e = record { are = (h, tt); stand = append-nil (indices_of build p) ∙ e }

  pub stand-none : (c : List ℕ) → c ≡ [] → StandFor build [] c
  stand-none c e = record { are = tt; stand = sym e }

  -- parts are added that are known, and none, and some after others
  pub adds : (old new added : List Part) (c : List ℕ) (n : ℕ) → new ≡ old ++ added → StandFor build added c → sum_by (work_of_part build) added ≤ n → Adds build old new c n
  adds old new added c n e h le = record { added = added; is = e; stand = h; within = le }

  pub adds-none : (old new : List Part) (c : List ℕ) (n : ℕ) → new ≡ old → c ≡ [] → Adds build old new c n
  adds-none old new c n e none = record { added = []; is = e ∙ sym (append-nil old); stand = stand-none c none; within = omega arith }

  pub adds-then : (old mid new : List Part) (c d whole : List ℕ) (m n all : ℕ) → whole ≡ c ++ d → m + n ≤ all → Adds build old mid c m → Adds build mid new d n → Adds build old new whole all
  adds-then old mid new c d whole m n all e le h k =
      let work = sum_by-append (work_of_part build) h.added k.added in
      record {
        added = h.added ++ k.added;
        is = k.is ∙ ap (λ (ps : List Part). ps ++ k.added) h.is ∙ append_assoc old h.added k.added;
        stand = subst (StandFor build (h.added ++ k.added)) (sym e) (stand-then h.added k.added c d h.stand k.stand);
        within = omega (arith, work, le, h.within, k.within);
      }

  -- one part
  pub adds-one : (old new : List Part) (p : Part) (c : List ℕ) (n : ℕ) → new ≡ old ++ p ∷ [] → IsPart build p → indices_of build p ≡ c → work_of_part build p ≤ n → Adds build old new c n
  adds-one old new p c n e h is le =
      let work = sum_by-cons (work_of_part build) p [] in
      adds old new (p ∷ []) c n e (stand-one p c h is) (omega (arith, work, le))

-- ---- the parts of one field, and of a root
module _ (build : Build) where
  presence_stands : (b : Bool) (k : ℕ) → StandFor build (presence b k) (flat_map (indices_of build) (presence b k))
  presence_stands false k = record { are = tt; stand = refl }
  presence_stands true zero = record { are = (tt, tt); stand = refl }
  presence_stands true (suc k) = record { are = (tt, tt); stand = refl }

  presence_work : (b : Bool) (k : ℕ) → sum_by (work_of_part build) (presence b k) ≤ 1
  presence_work false k = omega arith
  presence_work true zero = omega arith
  presence_work true (suc k) = omega arith

  some_work : (r : Role) → 1 ≤ work_of_role (work_of_fields build) build r
  some_work regular = omega arith
  some_work (block target fs) = omega arith
  some_work (alternatives target s vs) = omega arith
  some_work (catch_all target) = omega arith
  some_work (leaf target) = omega arith

  -- the choices at a field that is present are as many as are counted
  present_long : (r : Role) → length (choices_of_present (choices_of_fields build) build r) ≡ count_present (count_fields build) build r
  present_long r = present_count build (choices_of_fields build) (count_fields build) r (below_count build)

  -- what takes no index
  pub plain_choice : (r : Role) (k : ℕ) → IsPlain r → IsRank k (count_present (count_fields build) build r) → choice_at (choices_of_present (choices_of_fields build) build r) k ≡ []
  plain_choice regular k p h = only_choice no_choice k refl h.0
  plain_choice (block target fs) k p h = absurd p
  plain_choice (alternatives target s vs) k p h = absurd p
  plain_choice (catch_all target) k p h = only_choice no_choice k refl h.0
  plain_choice (leaf target) k p h = only_choice no_choice k refl h.0

  pub plain_work : (r : Role) → IsPlain r → 1 ≤ work_of_role (work_of_fields build) build r
  plain_work r p = some_work r

  -- some variants are some work
  pub variants_work : (walked : Bool) (vs : List Variant) (k : ℕ) → IsRank k (count_variants build walked vs) → 1 ≤ work_of_variants build vs
  variants_work walked [] k h = absurd (omega (arith, h.0))
  variants_work walked (v ∷ vs) k h = let work = sum_by-cons (work_of_variant (work_of_fields build) build.catalogue) v vs in omega (arith, work)

  -- the choices of variants are those of a field that leads to them
  pub variants_choice : (target : Target) (s : Shape) (vs : List Variant) (walked : Bool) → walked ≡ is_walked (repr_for build s) → (old new : List Part) (k n : ℕ) → Adds build old new (choice_at (choices_of_variants build walked vs) k) n
      → Adds build old new (choice_at (choices_of_present (choices_of_fields build) build (alternatives target s vs)) k) n
  unfolding choices_of_variants
  variants_choice target s vs walked e old new k n h = subst (λ (b : Bool). Adds build old new (choice_at (choices_of_variants build b vs) k) n) e h

module _ (build : Build) (f : Field) (r : Role) (is : r ≡ role_of build.catalogue f) (b : Bool) (optional : b ≡ may_be_absent r) (k : ℕ) (rank : IsRank k (count_field build f)) where
  by_role : choices_of_field build f ≡ choices_of_optional b (choices_of_present (choices_of_fields build) build r)
  unfolding choices_of_field
  by_role =
      ap (choices_of_role (choices_of_fields build) build) (sym is)
      ∙ ap (λ (o : Bool). choices_of_optional o (choices_of_present (choices_of_fields build) build r)) (sym optional)

  counted_by_role : IsRank k (count_optional b (count_present (count_fields build) build r))
  counted_by_role =
      subst (IsRank k)
      (ap (count_role (count_fields build) build) (sym is) ∙ ap (λ (o : Bool). count_optional o (count_present (count_fields build) build r)) (sym optional))
      rank

  -- the rank that is left where the field is present
  pub present_is_ranked : (j : ℕ) → Some j ≡ present_rank b k → IsRank j (count_present (count_fields build) build r)
  present_is_ranked j e = (at_present build b (choices_of_present (choices_of_fields build) build r) k j (count_present (count_fields build) build r) (present_long build r) counted_by_role e).0

  pub adds-absent : (old new : List Part) → None ≡ present_rank b k → new ≡ old ++ presence b k → Adds build old new (choice_at (choices_of_field build f) k) (work_of_field build f)
  adds-absent old new e added =
      let cs = choices_of_present (choices_of_fields build) build r in
      let choice = ap (λ (ds : Choices). choice_at ds k) by_role ∙ at_absent build b cs k e in
      let work = some_work build (role_of build.catalogue f) in
      let least = presence_work build b k in
      adds build old new (presence b k) _ _ added
      (subst (StandFor build (presence b k)) (sym choice) (presence_stands build b k))
      (omega (arith, work, least))

  pub adds-present : (old mid new : List Part) (j n : ℕ) → Some j ≡ present_rank b k → mid ≡ old ++ presence b k → 1 + n ≤ work_of_role (work_of_fields build) build r
      → Adds build mid new (choice_at (choices_of_present (choices_of_fields build) build r) j) n → Adds build old new (choice_at (choices_of_field build f) k) (work_of_field build f)
  adds-present old mid new j n e added le h =
      let cs = choices_of_present (choices_of_fields build) build r in
      let choice = ap (λ (ds : Choices). choice_at ds k) by_role ∙ (at_present build b cs k j _ (present_long build r) counted_by_role e).1 in
      let same = ap (work_of_role (work_of_fields build) build) is in
      adds-then build old mid new (flat_map (indices_of build) (presence b k)) (choice_at cs j) _ 1 n _ choice (omega (arith, le, same))
      (adds build old mid (presence b k) _ 1 added (presence_stands build b k) (presence_work build b k)) h

-- all parts were added
pub stand_all : (build : Build) (old new : List Part) (c : List ℕ) (n : ℕ) → old ≡ [] → Adds build old new c n → StandFor build new c
stand_all build old new c n none h =
    subst (λ (ps : List Part). StandFor build ps c) (sym (h.is ∙ ap (λ (ps : List Part). ps ++ h.added) none)) h.stand

module _ (build : Build) (root : ℕ) (k : ℕ) (rank : IsRank k (count_of_root build root)) where
  root_rank : k < length (choices_of_root build root)
  root_rank = subst (λ (n : ℕ). k < n) (sym (root_count build root)) rank.0

  -- a root with nothing to choose
  pub root_alone : no_choice ≡ choices_of_root build root → choice_at (choices_of_root build root) k ≡ []
  root_alone e = only_choice (choices_of_root build root) k e root_rank

  -- the choice of a rank is listed at it
  pub root_choice : (c : List ℕ) → c ≡ choice_at (choices_of_root build root) k → slice_get (choices_of_root build root) k ≡ Some c
  root_choice c e = slice_get-get_or (choices_of_root build root) k [] root_rank ∙ ap Some (sym e)

-- ---- a choice is put together from the end: what the parts stand for, and then the indices that
-- came out, last first
pub record IsPutTogether (build : Build) (parts : List Part) (out choice : List ℕ) : Type 0 where
  pub rest : List ℕ
  pub stand : StandFor build parts rest
  pub all : rest ++ reverse out ≡ choice

module _ (build : Build) where
  pub under_way : (parts : List Part) (out choice : List ℕ) → out ≡ [] → StandFor build parts choice → IsPutTogether build parts out choice
  under_way parts out choice e h = record {
    rest = choice;
    stand = h;
    all = ap (λ (o : List ℕ). choice ++ reverse o) e ∙ append-nil choice;
  }

  -- the last part
  pub record IsLast (parts : List Part) (p : Part) (out choice : List ℕ) : Type 0 where
    pub is : IsPart build p
    pub before : List ℕ
    pub stand : StandFor build parts before
    pub all : before ++ (indices_of build p ++ reverse out) ≡ choice

  pub last_part : (old new : List Part) (p : Part) (out choice : List ℕ) → old ≡ new ++ p ∷ [] → IsPutTogether build old out choice → IsLast new p out choice
  last_part old new p out choice e h =
      let stand = subst (λ (ps : List Part). StandFor build ps h.rest) e h.stand in
      let are = before_part build new (p ∷ []) stand.are in
      let before = flat_map (indices_of build) new in
      let rest : before ++ indices_of build p ≡ h.rest =
      ap (λ (c : List ℕ). before ++ c) (sym (append-nil (indices_of build p)))
      ∙ sym (flat_map-append (indices_of build) new (p ∷ []))
      ∙ stand.stand in
      record {
        is = are.1.0;
        before = before;
        stand = record { are = are.0; stand = refl };
        all = sym (append_assoc before (indices_of build p) (reverse out)) ∙ ap (λ (c : List ℕ). c ++ reverse out) rest ∙ h.all;
      }

  -- nothing is left
  pub all_out : (parts : List Part) (out choice : List ℕ) → length parts ≡ 0 → IsPutTogether build parts out choice → reverse out ≡ choice
  all_out [] out choice e h = ap (λ (c : List ℕ). c ++ reverse out) h.stand.stand ∙ h.all
  all_out (p ∷ parts) out choice e h = absurd (omega (arith, e))
