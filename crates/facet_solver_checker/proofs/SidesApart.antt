-- Two ways to read an enum read no value in common.
use Rattle.std.proofs.Common.{◌≡◌, ◌∙◌, ◌⊎◌, inl, inr, ⊎_elim, sym, ap, subst, refl, ℕ, zero, suc}
use Rattle.std.proofs.Common.{◌+◌, ◌<◌, ◌≤◌, List, [], ◌∷◌, All, Bool, true, false, IsTrue, Option}
use Rattle.std.proofs.Common.{Some, None, slice_get, length, arith, nat_lt, if◌then◌else◌, Vec}
use Rattle.std.proofs.Common.{Global}
use Rattle.std.specs.List.{Contains, list_any}
use Rattle.std.proofs.lemmas.List.Elements.{All-contains, All-head}
use Rattle.std.proofs.lemmas.Bool.Decides.{nat_tests}
use Rattle.std.proofs.lemmas.List.Folds.{list_any_at}
use Rattle.std.proofs.lemmas.Option.{get_or_from_slice_get, slice_get_within}
use Rattle.facet_solver_shape.specs.Names.{Name}
use Rattle.facet_solver_shape.specs.declared.shape.range.WholeRange.{WholeRange}
use Rattle.facet_solver_reader.specs.declared.plan.Plan.{Plan}
use Rattle.facet_solver_reader.specs.declared.plan.PlannedAlternative.{PlannedAlternative}
use Rattle.facet_solver_reader.specs.declared.plan.PlannedEnd.{PlannedEnd}
use Rattle.facet_solver_reader.specs.declared.plan.PlannedEnd.TheVariants as planned
use Rattle.facet_solver_reader.specs.declared.plan.PlannedKind.{PlannedKind}
use Rattle.facet_solver_reader.specs.declared.plan.PlannedKind.TheVariants as kinds
use Rattle.facet_solver_reader.specs.declared.plan.PlannedName.{PlannedName}
use Rattle.facet_solver_reader.specs.declared.plan.PlannedTarget.{PlannedTarget}
use Rattle.facet_solver_reader.specs.Choices.{Choice, Reading, a_value, an_object, a_variant}
use Rattle.facet_solver_reader.specs.Documents.{Tree, null, number, text, object, Members, member}
use Rattle.facet_solver_reader.specs.Documents.{no_members}
use Rattle.facet_solver_reader.specs.Objects.{Reads}
use Rattle.facet_solver_reader.specs.Parts.{ListId, Target, of_shape, of_content, of_tag}
use Rattle.facet_solver_reader.specs.Plans.{AreInPairs, IsNumberIfChosen, IsNumberOf}
use Rattle.facet_solver_reader.specs.Plans.{IsPlannedAlternative, IsPlannedAs, IsPlannedContent}
use Rattle.facet_solver_reader.specs.Plans.{IsPlannedEnd, IsPlannedKind, IsPlannedName}
use Rattle.facet_solver_reader.specs.Plans.{IsPlannedTarget, Meaning}
use Rattle.facet_solver_reader.specs.Rules as types
use Rattle.facet_solver_reader.specs.Rules.{Alternative, AlternativeKind, End, Content}
use Rattle.facet_solver_reader.specs.Rules.{NamedVariant, an_untagged_variant, a_named_variant}
use Rattle.facet_solver_reader.specs.Rules.{joins, a_fallback, other}
use Rattle.facet_solver_reader.specs.Values as values
use Rattle.facet_solver_reader.specs.Values.{Inner, ReadsAlone, ReadsByFallback, ReadsByKind}
use Rattle.facet_solver_reader.specs.Values.{ReadsByOne, ReadsDirectly, ReadsDown, ReadsEnd}
use Rattle.facet_solver_reader.specs.Values.{ReadsFallback, ReadsJoined, ReadsLast, ReadsNamed}
use Rattle.facet_solver_reader.specs.Values.{ReadsNamedVariant, ReadsTarget, ReadsWithin}
use Rattle.facet_solver_reader.specs.Values.{is_in_kind, is_whole_of}
use Rattle.facet_solver_checker.specs.declared.apart.Apart.{Apart}
use Rattle.facet_solver_checker.specs.declared.atoms.Atom.{Atom}
use Rattle.facet_solver_checker.specs.declared.atoms.Atom.TheVariants.{Null, Plain, Joined}
use Rattle.facet_solver_checker.specs.declared.atoms.Atoms.{Atoms}
use Rattle.facet_solver_checker.specs.Apartness.{AllApart, AtomsApart}
use Rattle.facet_solver_checker.specs.Aparts.{LeavesDown}
use Rattle.facet_solver_checker.specs.Atoms.{AsksOnward, HaveAtoms, IsPlanFor, ReadsAs, ReadsAtom}
use Rattle.facet_solver_checker.specs.Atoms.{is_null_alone, is_null_kind}
use Rattle.facet_solver_checker.specs.Differing.{Side, joined, variant}
use Rattle.facet_solver_checker.specs.Sites.{Takes, VariantsMeet}
use Rattle.facet_solver_checker.specs.VariantsApart.{AreAtomsOf, AreJoinedApart, AreNamesApart}
use Rattle.facet_solver_checker.specs.VariantsApart.{AreOnesApart, AreSidesApart, AreTwoApart}
use Rattle.facet_solver_checker.specs.VariantsApart.{AreVariantsApart, side_at, way_at, by_fallback}
use Rattle.facet_solver_checker.specs.VariantsApart.{by_float, by_whole, by_atoms, IsListApart}
use Rattle.facet_solver_checker.specs.VariantsApart.{IsReadByOne, as_null, as_content}
use Rattle.facet_solver_checker.specs.VariantsApart.{IsFloatBeside, IsFloatKindBeside, IsWholeAtom}
use Rattle.facet_solver_checker.specs.VariantsApart.{IsWholeIn, ReadsWholes, is_fallback}
use Rattle.facet_solver_checker.specs.VariantsApart.{is_fallback_kind}
use Rattle.facet_solver_checker.specs.Aparts.{LeavesAll}
use Rattle.facet_solver_reader.proofs.Pairs.{pair_at, pair_of}
use Rattle.facet_solver_checker.proofs.PlainReads.{by_list}
use Rattle.facet_solver_checker.proofs.ReadByAtom.{read_by_atom}

-- an index within a list has an item
some_within : {X : Type 0} (xs : List X) (k : ℕ) → k < length xs
    → (x : X) × (slice_get xs k ≡ Some x)
some_within [] k l = absurd (omega arith)
some_within (x ∷ xs) zero l = (x, refl)
some_within (x ∷ xs) (suc k) l = some_within xs k (omega arith)

module _ (plan : Plan) (atoms : List Atoms) (have : HaveAtoms plan atoms)
    (len : length atoms ≡ length plan.targets.items) (m : Meaning) (is : IsPlanFor m plan)
  where
    -- what an alternative reads, one of its atoms reads
    one_by_atom : (p : PlannedAlternative) (own : List Atom) → AreAtomsOf atoms p own
        → (reads : Reads) (n : ℕ) (v : Tree) → IsReadByOne m (ReadsWithin m.rules reads n) p v
        → (a : Atom) × Contains own a × ReadsAtom m plan reads a v
    one_by_atom p own are reads n v (as_null alone e) =
        (Null, are.null alone, subst (λ x. ReadsAs m reads planned.Null x) (sym e) tt)
    one_by_atom p own are reads n v (as_content on u q num h) =
        let r = read_by_atom m plan is reads n u p.content num v q h in
        let t = pair_of (IsPlannedTarget m) m.targets plan.targets.items p.content u is.each_target
        num in
        let within : p.content < length atoms =
        subst (λ k. p.content < k) (sym len)
        (slice_get_within plan.targets.items p.content t.0 t.1) in
        let l = some_within atoms p.content within in (
          r.atom,
          All-contains (Contains own) l.0.each.items r.atom (are.asked on l.0 l.1)
              (have p.content l.0 r.atom l.1 r.has),
          r.is_read,
        )

-- two alternatives whose atoms are apart
pub ones_apart : (plan : Plan) (apart : Apart) (atoms : List Atoms) → HaveAtoms plan atoms
    → length atoms ≡ length plan.targets.items → (a b : PlannedAlternative) (xs ys : List Atom)
    → AreAtomsOf atoms a xs → AreAtomsOf atoms b ys → AllApart plan apart xs ys
    → AreOnesApart plan apart a b
ones_apart plan apart atoms have len a b xs ys of_a of_b all m is depth n leaves v f g =
    let reads = ReadsDown m.rules depth in
    let p = one_by_atom plan atoms have len m is a xs of_a reads n v f in
    let q = one_by_atom plan atoms have len m is b ys of_b reads n v g in
    All-contains (AtomsApart plan apart p.0) ys q.0
    (All-contains (λ (x : Atom). All (AtomsApart plan apart x) ys) xs p.0 all p.1) q.1 m is depth
    leaves v p.2 q.2

-- the list of those that join and an alternative
pub list_apart : (plan : Plan) (apart : Apart) (atoms : List Atoms) → HaveAtoms plan atoms
    → length atoms ≡ length plan.targets.items → (list : ℕ) (b : PlannedAlternative)
    (ys : List Atom) → AreAtomsOf atoms b ys → AllApart plan apart (Joined list ∷ []) ys
    → IsListApart plan apart list b
list_apart plan apart atoms have len list b ys of_b all m is depth n leaves v f g =
    let reads = ReadsDown m.rules depth in
    let q = one_by_atom plan atoms have len m is b ys of_b reads n v g in
    All-contains (AtomsApart plan apart (Joined list)) ys q.0
    (All-head (λ (x : Atom). All (AtomsApart plan apart x) ys) (Joined list) [] all) q.1 m is depth
    leaves v f q.2

-- a variant whose atoms read whole numbers of a range alone does so
pub wholes_alone : (plan : Plan) (atoms : List Atoms) → HaveAtoms plan atoms
    → length atoms ≡ length plan.targets.items → (b : PlannedAlternative) (ys : List Atom)
    (range : WholeRange) → AreAtomsOf atoms b ys → All (IsWholeAtom plan range) ys
    → ReadsWholes plan b range
wholes_alone plan atoms have len b ys range of_b all m is depth n v g =
    let reads = ReadsDown m.rules depth in
    let q = one_by_atom plan atoms have len m is b ys of_b reads n v g in
    go q.0 (All-contains (IsWholeAtom plan range) ys q.0 all q.1) q.2
  where
    whole_read : (e : PlannedEnd) → e ≡ planned.Whole range → (w : Tree)
        → ReadsAs m (ReadsDown m.rules depth) e w → IsWholeIn range w
    whole_read e is w h =
        at w (subst (λ (p : PlannedEnd). ReadsAs m (ReadsDown m.rules depth) p w) is h)
      where
        at : (w : Tree) → ReadsAs m (ReadsDown m.rules depth) (planned.Whole range) w
            → IsWholeIn range w
        at (number x) h = h
        at w h = absurd h

    go : (a : Atom) → IsWholeAtom plan range a → ReadsAtom m plan (ReadsDown m.rules depth) a v
        → IsWholeIn range v
    go (Plain k) is_whole r = whole_read r.target.end (is_whole r.target r.target_is) v r.is_read
    go Null is_whole r = absurd is_whole
    go (Joined k) is_whole r = absurd is_whole

-- a float beside a variant of whole numbers reads none that this reads
pub no_whole : (alone : List Alternative) (k : ℕ) (a : Alternative) (range : WholeRange) (v : Tree)
    → slice_get alone k ≡ Some a → a.kind ≡ types.a_whole range → IsWholeIn range v
    → list_any (is_whole_of v) alone ≡ true
no_whole alone k a range (number n) at is h =
    list_any_at (is_whole_of (number n)) alone k a (slice_get_within alone k a at)
    (ap (is_whole_of (number n)) (get_or_from_slice_get alone k a a at)
    ∙ ap (λ (x : AlternativeKind). is_in_kind x n) is ∙ h)
no_whole alone k a range v at is h = absurd h

-- what is planned as whole numbers of a range is
whole_planned : (kind : AlternativeKind) (k : PlannedKind) (range : WholeRange)
    → IsPlannedKind kind k → k ≡ kinds.Whole range → kind ≡ types.a_whole range
whole_planned (types.a_whole r) (kinds.Whole q) range is e =
    let same : q ≡ range = cc in ap types.a_whole (sym is ∙ same)
whole_planned joins k range is e = absurd (no k is e)
  where
    no : (k : PlannedKind) → IsPlannedKind joins k → k ≡ kinds.Whole range → ⊥
    no kinds.Joins is e = absurd (cc)
    no k is e = is
whole_planned kind kinds.Joins range is e = absurd (cc)
whole_planned kind kinds.Null range is e = absurd (cc)
whole_planned kind kinds.Float range is e = absurd (cc)
whole_planned kind kinds.Fallback range is e = absurd (cc)
whole_planned kind kinds.Other range is e = absurd (cc)
whole_planned kind k range is e = absurd is

-- a fallback is planned as one, and no other is
fallback_planned : (kind : AlternativeKind) (k : PlannedKind) → IsPlannedKind kind k
    → kind ≡ a_fallback → (is_fallback_kind k ≡ true) × AsksOnward k
fallback_planned a_fallback kinds.Fallback is e = (refl, tt)
fallback_planned a_fallback k is e = absurd is
fallback_planned joins k is e = absurd (cc)
fallback_planned types.null_alone k is e = absurd (cc)
fallback_planned (types.a_whole range) k is e = absurd (cc)
fallback_planned types.a_float k is e = absurd (cc)
fallback_planned other k is e = absurd (cc)

-- a fallback is of no floats
not_float : (p : PlannedAlternative) → is_fallback p ≡ true → p.kind ≡ kinds.Float → ⊥
not_float p f e = let no : false ≡ true = sym (ap is_fallback_kind e) ∙ f in absurd (cc)

module _ (m : Meaning) (reads itself : Reads) (v : Tree) where
  abbrev inner : Inner
  inner = record { within = reads; itself = itself }

  -- an alternative reads a value by its kind
  one_kind : (p : PlannedAlternative) (content : Target) (q : Reading) (kind : AlternativeKind)
      (k : PlannedKind) → p.kind ≡ k → IsPlannedKind kind k → IsNumberOf m content p.content
      → (whole : Bool) (w : Tree) → w ≡ v → ReadsByKind kind whole w q (itself content v q)
      → (is_fallback p ≡ false) × IsReadByOne m itself p v × (p.kind ≡ kinds.Float → whole ≡ false)
  one_kind p content q joins k e is num whole w s h = absurd h
  one_kind p content q types.null_alone kinds.Null e is num whole null s h = (
    ap is_fallback_kind e,
    as_null (ap is_null_kind e) (sym s),
    λ f. let no : kinds.Null ≡ kinds.Float = sym e ∙ f in absurd (cc),
  )
  one_kind p content q types.null_alone kinds.Null e is num whole w s h = absurd h
  one_kind p content q (types.a_whole range) (kinds.Whole r) e is num whole w s h = (
    ap is_fallback_kind e,
    as_content (subst AsksOnward (sym e) tt) content q num h,
    λ f. let no : kinds.Whole r ≡ kinds.Float = sym e ∙ f in absurd (cc),
  )
  one_kind p content q types.a_float kinds.Float e is num whole w s h = (
    ap is_fallback_kind e,
    as_content (subst AsksOnward (sym e) tt) content q num h.1,
    λ f. h.0,
  )
  one_kind p content q a_fallback kinds.Fallback e is num whole w s h = absurd h
  one_kind p content q other kinds.Other e is num whole w s h = (
    ap is_fallback_kind e,
    as_content (subst AsksOnward (sym e) tt) content q num h,
    λ f. let no : kinds.Other ≡ kinds.Float = sym e ∙ f in absurd (cc),
  )
  one_kind p content q kind k e is num whole w s h = absurd is

  module _ (list : ListId) (alone : List Alternative) (o : Option ℕ)
      (ps : List PlannedAlternative) (chosen : IsNumberIfChosen m list o)
      (are : AreInPairs (IsPlannedAlternative m) alone ps)
    where
      -- an alternative reads the value, as a fallback or not; one of floats spares the whole
      -- numbers that others read
      abbrev IsTaken : PlannedAlternative → Bool → Type 0
      IsTaken p b =
          (is_fallback p ≡ b) × IsReadByOne m itself p v
          × (p.kind ≡ kinds.Float → list_any (is_whole_of v) alone ≡ false)

      -- so does that at an index
      abbrev OneAt : ℕ → Bool → Type 0
      OneAt k b = (p : PlannedAlternative) × (slice_get ps k ≡ Some p) × IsTaken p b

      abbrev Directly : Reading → Type 0
      Directly r = ReadsDirectly m.rules inner (an_untagged_variant list alone) v r

      abbrev Last : Reading → Type 0
      Last r = ReadsLast m.rules inner (an_untagged_variant list alone) v r

      abbrev Ends : Reading → Type 0
      Ends r = Directly r ⊎ Last r

      by_one_at : (k : ℕ) (a : Option Alternative) → slice_get alone k ≡ a → (q : Reading)
          → ReadsByOne itself alone a v q → OneAt k false
      by_one_at k None at q h = absurd h
      by_one_at k (Some a) at q h =
          let p = pair_of (IsPlannedAlternative m) alone ps k a are at in
          let f = one_kind p.0 a.content q a.kind p.0.kind refl p.2.kind p.2.content
          (list_any (is_whole_of v) alone) v refl h in
          (p.0, p.1, f)

      by_fallback_at : (k : ℕ) (a : Option Alternative) → slice_get alone k ≡ a → (q : Reading)
          → ReadsByFallback itself a v q → OneAt k true
      by_fallback_at k None at q h = absurd h
      by_fallback_at k (Some a) at q h =
          let p = pair_of (IsPlannedAlternative m) alone ps k a are at in
          let f = fallback_planned a.kind p.0.kind p.2.kind h.0 in (
            p.0,
            p.1,
            (f.0, as_content f.1 a.content q p.2.content h.1, λ e. absurd (not_float p.0 f.0 e)),
          )

      not_joined : (k : ℕ) (q : Reading) (w : Tree)
          → ReadsJoined m.rules reads list w (a_variant k q)
          → ⊥
      not_joined k q (object ms) h = h
      not_joined k q w h = h

      direct_at : (k : ℕ) (q : Reading) → Directly (a_variant k q) → OneAt k false
      direct_at k q h =
          ⊎_elim
          (λ (j : ReadsJoined m.rules reads list v (a_variant k q)). absurd (not_joined k q v j))
          (λ (a : ReadsAlone itself alone v (a_variant k q)).
          by_one_at k (slice_get alone k) refl q a) h

      last_at : (k : ℕ) (q : Reading) → Last (a_variant k q) → OneAt k true
      last_at k q h = by_fallback_at k (slice_get alone k) refl q h.1

      -- an object by those that join
      abbrev JoinedAt : Type 0
      JoinedAt = (n : ℕ) × (o ≡ Some n) × ReadsAs m reads (planned.Object (Some n)) v

      joined_at : (w : Tree) → w ≡ v → (n : Option ℕ) → o ≡ n → IsNumberIfChosen m list n
          → (c : Choice) → ReadsJoined m.rules reads list w (an_object c) → JoinedAt
      joined_at (object ms) s None e is c h = absurd (by_list m reads list None is ms c h)
      joined_at (object ms) s (Some n) e is c h = (
        n,
        e,
        subst (λ x. ReadsAs m reads (planned.Object (Some n)) x) s
            (by_list m reads list (Some n) is ms c h),
      )
      joined_at w s n e is c h = absurd h

      direct_joined : (c : Choice) → Directly (an_object c) → JoinedAt
      direct_joined c h =
          ⊎_elim
          (λ (j : ReadsJoined m.rules reads list v (an_object c)).
          joined_at v refl o refl chosen c j)
          (λ (a : ReadsAlone itself alone v (an_object c)). absurd a) h

      -- another variant reads by its range a whole num that a variant reads
      whole_among : (b : PlannedAlternative) (k : ℕ) (range : WholeRange)
          → slice_get ps k ≡ Some b → b.kind ≡ kinds.Whole range → IsWholeIn range v
          → list_any (is_whole_of v) alone ≡ true
      whole_among b k range at is h =
          let a = pair_at (IsPlannedAlternative m) alone ps k b are at in
          no_whole alone k a.0 range v a.1 (whole_planned a.0.kind b.kind range a.2.kind is) h

      -- two variants
      two_apart : (a b : PlannedAlternative) (j k : ℕ) → slice_get ps j ≡ Some a
          → slice_get ps k ≡ Some b → ((c : Bool) → IsTaken a c → IsTaken b c → ⊥)
          → (q r : Reading) → Ends (a_variant j q) → Ends (a_variant k r) → ⊥
      two_apart a b j k at_a at_b none q r f g =
          ⊎_elim
          (λ (d : Directly (a_variant j q)).
          ⊎_elim (λ (e : Directly (a_variant k r)). both false (direct_at j q d) (direct_at k r e))
          (λ (e : Last (a_variant k r)). e.0 (a_variant j q) d) g)
          (λ (d : Last (a_variant j q)).
          ⊎_elim (λ (e : Directly (a_variant k r)). d.0 (a_variant k r) e)
          (λ (e : Last (a_variant k r)). both true (last_at j q d) (last_at k r e)) g) f
        where
          both : (c : Bool) → OneAt j c → OneAt k c → ⊥
          both c x y =
              let same_a : x.0 ≡ a = let e : slice_get ps j ≡ Some x.0 = x.1 in cc in
              let same_b : y.0 ≡ b = let e : slice_get ps k ≡ Some y.0 = y.1 in cc in
              none c (subst (λ (p : PlannedAlternative). IsTaken p c) same_a x.2)
              (subst (λ (p : PlannedAlternative). IsTaken p c) same_b y.2)

      -- those that join and a variant
      join_apart : (a : PlannedAlternative) (j : ℕ) → slice_get ps j ≡ Some a
          → (is_fallback a ≡ false → (n : ℕ) → o ≡ Some n
          → ReadsAs m reads (planned.Object (Some n)) v → IsReadByOne m itself a v → ⊥)
          → (q : Reading) (c : Choice) → Directly (a_variant j q) ⊎ Last (a_variant j q)
          → Directly (an_object c) ⊎ Last (an_object c) → ⊥
      join_apart a j at none q c f g =
          ⊎_elim
          (λ (e : Directly (an_object c)).
          ⊎_elim (λ (d : Directly (a_variant j q)). go (direct_at j q d) (direct_joined c e))
          (λ (d : Last (a_variant j q)). d.0 (an_object c) e) f)
          (λ (e : Last (an_object c)). absurd e.1) g
        where
          go : OneAt j false → JoinedAt → ⊥
          go x y =
              let same : x.0 ≡ a = let e : slice_get ps j ≡ Some x.0 = x.1 in cc in
              none (ap is_fallback (sym same) ∙ x.2.0) y.0 y.1 y.2
              (subst (λ (p : PlannedAlternative). IsReadByOne m itself p v) same x.2.1)

module _ (m : Meaning) (reads itself : Reads) (o : Option ℕ) (ps : Vec PlannedAlternative Global)
    (v : Tree) (r s : Reading)
  where
    -- what follows of two readings as an untagged enum
    abbrev Follows : Type 0 → Type 0
    Follows G =
        (list : ListId) (alone : List Alternative) (chosen : IsNumberIfChosen m list o)
        (are : AreInPairs (IsPlannedAlternative m) alone ps.items)
        → Ends m reads itself v list alone o ps.items chosen are r
        → Ends m reads itself v list alone o ps.items chosen are s → G

    end_readings : (G : Type 0) → Follows G → (e : End) → IsPlannedEnd m e (planned.Untagged o ps)
        → ReadsEnd m.rules (inner m reads itself v) e v r
        → ReadsEnd m.rules (inner m reads itself v) e v s → G
    end_readings G f (an_untagged_variant list alone) is h g = f list alone is.0 is.1 h g
    end_readings G f e is h g = absurd is

    no_content_is : (c : Content) → IsPlannedContent m c (planned.Untagged o ps) → ⊥
    no_content_is types.no_content is = is
    no_content_is (types.as_shape s) is = is
    no_content_is (types.as_tuple ss) is = is
    no_content_is (types.as_object id) is = is

    -- two readings as a target that is an untagged enum
    target_readings : (G : Type 0) → Follows G → (t : Target)
        → IsPlannedAs m t (planned.Untagged o ps)
        → ReadsTarget m.rules (inner m reads itself v) t v r
        → ReadsTarget m.rules (inner m reads itself v) t v s → G
    target_readings G f (of_shape i) is h g = end_readings G f (m.rules.end_of i) is h g
    target_readings G f (of_content i k) is h g =
        absurd (no_content_is (m.rules.content_of i k) is)
    target_readings G f (of_tag name) is h g = absurd is

module _ (m : Meaning) (reads itself : Reads) (ps : Vec PlannedName Global) (v : Tree)
    (r s : Reading)
  where
    -- what follows of two readings as variants that a document names
    abbrev FollowsNamed : Type 0 → Type 0
    FollowsNamed G =
        (vs : List NamedVariant) → AreInPairs (IsPlannedName m) vs ps.items
        → ReadsNamedVariant reads vs v r → ReadsNamedVariant reads vs v s → G

    named_end : (G : Type 0) → FollowsNamed G → (e : End) → IsPlannedEnd m e (planned.Named ps)
        → ReadsEnd m.rules (inner m reads itself v) e v r
        → ReadsEnd m.rules (inner m reads itself v) e v s → G
    named_end G f (a_named_variant vs) is h g = f vs is h g
    named_end G f e is h g = absurd is

    not_named : (c : Content) → IsPlannedContent m c (planned.Named ps) → ⊥
    not_named types.no_content is = is
    not_named (types.as_shape s) is = is
    not_named (types.as_tuple ss) is = is
    not_named (types.as_object id) is = is

    named_readings : (G : Type 0) → FollowsNamed G → (t : Target)
        → IsPlannedAs m t (planned.Named ps)
        → ReadsTarget m.rules (inner m reads itself v) t v r
        → ReadsTarget m.rules (inner m reads itself v) t v s → G
    named_readings G f (of_shape i) is h g = named_end G f (m.rules.end_of i) is h g
    named_readings G f (of_content i k) is h g =
        absurd (not_named (m.rules.content_of i k) is)
    named_readings G f (of_tag name) is h g = absurd is

-- what a target comes to in a plan
target_is : (m : Meaning) (plan : Plan) → IsPlanFor m plan → (t : Target) (n : ℕ)
    (p : PlannedTarget) (e : PlannedEnd) → IsNumberOf m t n
    → slice_get plan.targets.items n ≡ Some p → p.end ≡ e → IsPlannedAs m t e
target_is m plan is t n p e num at end =
    let q = pair_of (IsPlannedTarget m) m.targets plan.targets.items n t is.each_target num in
    let same : q.0 ≡ p = let f : slice_get plan.targets.items n ≡ Some q.0 = q.1 in cc in
    subst (IsPlannedAs m t) (ap (λ (x : PlannedTarget). x.end) same ∙ end) q.2.end

-- the other way round
pub sides_turned : (plan : Plan) (apart : Apart) (e : PlannedEnd) (a b : Side)
    → AreSidesApart plan apart e a b → AreSidesApart plan apart e b a
sides_turned plan apart e a b h m is t n d p num at end leaves w =
    h m is t n d p num at end leaves
    (record {
      value = w.value;
      first = w.second;
      second = w.first;
      first_reads = w.second_reads;
      second_reads = w.first_reads;
      first_takes = w.second_takes;
      second_takes = w.first_takes;
    })

-- two variants of an untagged enum
pub two_sides : (plan : Plan) (apart : Apart) (o : Option ℕ) (ps : Vec PlannedAlternative Global)
    (e : PlannedEnd) (j k : ℕ) (a b : PlannedAlternative) → e ≡ planned.Untagged o ps
    → slice_get ps.items j ≡ Some a → slice_get ps.items k ≡ Some b → AreTwoApart plan apart a b
    → AreSidesApart plan apart e (variant j) (variant k)
two_sides plan apart o ps e j k a b e_is at_a at_b two m is t n d p num at end leaves w =
    go d w (target_is m plan is t n p (planned.Untagged o ps) num at (end ∙ e_is))
  where
    -- how the two are apart
    none : (d steps : ℕ) (v : Tree) (list : ListId) (alone : List Alternative)
        (chosen : IsNumberIfChosen m list o)
        (are : AreInPairs (IsPlannedAlternative m) alone ps.items) (c : Bool)
        → AreTwoApart plan apart a b
        → IsTaken m (ReadsDown m.rules d) (ReadsWithin m.rules (ReadsDown m.rules d) steps) v list
        alone o ps.items chosen are a c
        → IsTaken m (ReadsDown m.rules d) (ReadsWithin m.rules (ReadsDown m.rules d) steps) v list
        alone o ps.items chosen are b c → ⊥
    none d steps v list alone chosen are c (by_fallback ne) x y = ne (x.0 ∙ sym y.0)
    none d steps v list alone chosen are c (by_atoms h) x y =
        h m is d steps (leaves d) v x.1 y.1
    none d steps v list alone chosen are c (by_float f) x y =
        let spared : list_any (is_whole_of v) alone ≡ false = x.2 f.float in
        let read : list_any (is_whole_of v) alone ≡ true =
        whole_among m (ReadsDown m.rules d) (ReadsWithin m.rules (ReadsDown m.rules d) steps) v list
        alone o ps.items chosen are b k f.range at_b f.whole (f.wholes m is d steps v y.1) in
        absurd (cc)
    none d steps v list alone chosen are c (by_whole f) x y =
        let spared : list_any (is_whole_of v) alone ≡ false = y.2 f.float in
        let read : list_any (is_whole_of v) alone ≡ true =
        whole_among m (ReadsDown m.rules d) (ReadsWithin m.rules (ReadsDown m.rules d) steps) v list
        alone o ps.items chosen are a j f.range at_a f.whole (f.wholes m is d steps v x.1) in
        absurd (cc)

    go : (d : ℕ) → VariantsMeet (ReadsDown m.rules d) t (variant j) (variant k)
        → IsPlannedAs m t (planned.Untagged o ps) → ⊥
    go zero w as_planned = w.first_reads
    go (suc d) w as_planned =
        let steps = w.first_reads.least + w.second_reads.least in
        let reads = ReadsDown m.rules d in
        let itself = ReadsWithin m.rules (ReadsDown m.rules d) steps in
        target_readings m reads itself o ps w.value w.first w.second ⊥
        (λ list alone chosen are f g.
        let P : Reading → Type 0 = Ends m reads itself w.value list alone o ps.items chosen are in
        takes P P (λ x y. two_apart m reads itself w.value list alone o ps.items chosen are
        a b j k at_a at_b (λ c. none d steps w.value list alone chosen are c two) x y)
        w.first w.second w.first_takes w.second_takes f g)
        t as_planned (w.first_reads.holds (suc steps) (omega arith))
        (w.second_reads.holds (suc steps) (omega arith))
      where
        takes : (P Q : Reading → Type 0)
            → ((x y : Reading) → P (a_variant j x) → Q (a_variant k y) → ⊥) → (r s : Reading)
            → Takes (variant j) r → Takes (variant k) s → P r → Q s → ⊥
        takes P Q f (a_variant i x) (a_variant l y) p q g h =
            f x y (subst (λ n. P (a_variant n x)) p g) (subst (λ n. Q (a_variant n y)) q h)
        takes P Q f (a_variant i x) s p q g h = absurd q
        takes P Q f r s p q g h = absurd p

-- a variant and those that join
pub joined_sides : (plan : Plan) (apart : Apart) (o : Option ℕ) (ps : Vec PlannedAlternative Global)
    (e : PlannedEnd) (j : ℕ) (a : PlannedAlternative) → e ≡ planned.Untagged o ps
    → slice_get ps.items j ≡ Some a → AreJoinedApart plan apart o a
    → AreSidesApart plan apart e (variant j) joined
joined_sides plan apart o ps e j a e_is at_a two m is t n d p num at end leaves w =
    go d w (target_is m plan is t n p (planned.Untagged o ps) num at (end ∙ e_is))
  where
    go : (d : ℕ) → VariantsMeet (ReadsDown m.rules d) t (variant j) joined
        → IsPlannedAs m t (planned.Untagged o ps) → ⊥
    go zero w as_planned = w.first_reads
    go (suc d) w as_planned =
        let steps = w.first_reads.least + w.second_reads.least in
        let reads = ReadsDown m.rules d in
        let itself = ReadsWithin m.rules (ReadsDown m.rules d) steps in
        target_readings m reads itself o ps w.value w.first w.second ⊥
        (λ list alone chosen are f g.
        let P : Reading → Type 0 = Ends m reads itself w.value list alone o ps.items chosen are in
        takes P P (λ x c. join_apart m reads itself w.value list alone o ps.items chosen are
        a j at_a (λ no n is_n h. two no n is_n m is d steps (leaves d) w.value h) x c)
        w.first w.second w.first_takes w.second_takes f g)
        t as_planned (w.first_reads.holds (suc steps) (omega arith))
        (w.second_reads.holds (suc steps) (omega arith))
      where
        takes : (P Q : Reading → Type 0)
            → ((x : Reading) (c : Choice) → P (a_variant j x) → Q (an_object c) → ⊥)
            → (r s : Reading) → Takes (variant j) r → Takes joined s → P r → Q s → ⊥
        takes P Q f (a_variant i x) (an_object c) p q g h =
            f x c (subst (λ n. P (a_variant n x)) p g) h
        takes P Q f (a_variant i x) s p q g h = absurd q
        takes P Q f r s p q g h = absurd p

-- two variants that a document names by different names
pub named_sides : (plan : Plan) (apart : Apart) (ps : Vec PlannedName Global) (e : PlannedEnd)
    (j k : ℕ) → e ≡ planned.Named ps → AreNamesApart ps.items j k
    → AreSidesApart plan apart e (variant j) (variant k)
named_sides plan apart ps e j k e_is names m is t n d p num at end leaves w =
    go d w (target_is m plan is t n p (planned.Named ps) num at (end ∙ e_is))
  where
    -- the name of the variant at an index
    name_at : (vs : List NamedVariant) → AreInPairs (IsPlannedName m) vs ps.items → (i : ℕ)
        (q : PlannedName) → slice_get ps.items i ≡ Some q → (a : NamedVariant)
        → slice_get vs i ≡ Some a → q.text.now ≡ a.name
    name_at vs are i q at_q a at_a =
        let b = pair_of (IsPlannedName m) vs ps.items i a are at_a in
        let same : b.0 ≡ q = let f : slice_get ps.items i ≡ Some b.0 = b.1 in cc in
        ap (λ (x : PlannedName). x.text.now) (sym same) ∙ b.2.text

    -- what a text names
    unit_name : (vs : List NamedVariant) → AreInPairs (IsPlannedName m) vs ps.items → (i : ℕ)
        (q : PlannedName) → slice_get ps.items i ≡ Some q → (o : Option NamedVariant)
        → slice_get vs i ≡ o → (x : Name) → values.NamesUnit o x → q.text.now ≡ x
    unit_name vs are i q at_q None at x h = absurd h
    unit_name vs are i q at_q (Some a) at x h = name_at vs are i q at_q a at ∙ h.1

    -- what the only member of an object names
    member_name : (vs : List NamedVariant) → AreInPairs (IsPlannedName m) vs ps.items → (i : ℕ)
        (q : PlannedName) → slice_get ps.items i ≡ Some q → (reads : Reads)
        (o : Option NamedVariant) → slice_get vs i ≡ o → (x : Name) (v : Tree) (r : Reading)
        → ReadsNamed reads o (record { name = x; value = v }) r → q.text.now ≡ x
    member_name vs are i q at_q reads None at x v r h = absurd h
    member_name vs are i q at_q reads (Some a) at x v r h = name_at vs are i q at_q a at ∙ h.0

    both : (reads : Reads) (vs : List NamedVariant) → AreInPairs (IsPlannedName m) vs ps.items
        → (v : Tree) (r s : Reading) → Takes (variant j) r → Takes (variant k) s
        → ReadsNamedVariant reads vs v r → ReadsNamedVariant reads vs v s → ⊥
    both reads vs are (text x) (a_variant a a_value) (a_variant b a_value) f g h i =
        names.differ
        (unit_name vs are j names.first names.first_is (slice_get vs j) refl x
        (subst (λ c. values.NamesUnit (slice_get vs c) x) f h)
        ∙ sym (unit_name vs are k names.second names.second_is (slice_get vs k) refl x
        (subst (λ c. values.NamesUnit (slice_get vs c) x) g i)))
    both reads vs are (text x) (a_variant a a_value) s f g h i = absurd i
    both reads vs are (object (member x v no_members)) (a_variant a q) (a_variant b r) f g h i =
        names.differ
        (member_name vs are j names.first names.first_is reads (slice_get vs j) refl x v q
        (subst (λ c. ReadsNamed reads (slice_get vs c) (record { name = x; value = v }) q) f h)
        ∙ sym (member_name vs are k names.second names.second_is reads (slice_get vs k) refl x v r
        (subst (λ c. ReadsNamed reads (slice_get vs c) (record { name = x; value = v }) r) g
        i)))
    both reads vs are (object (member x v no_members)) (a_variant a q) s f g h i = absurd i
    both reads vs are v r s f g h i = absurd h

    go : (d : ℕ) → VariantsMeet (ReadsDown m.rules d) t (variant j) (variant k)
        → IsPlannedAs m t (planned.Named ps) → ⊥
    go zero w as_planned = w.first_reads
    go (suc d) w as_planned =
        let steps = w.first_reads.least + w.second_reads.least in
        let reads = ReadsDown m.rules d in
        let itself = ReadsWithin m.rules (ReadsDown m.rules d) steps in
        named_readings m reads itself ps w.value w.first w.second ⊥
        (λ vs are f g.
        both reads vs are w.value w.first w.second w.first_takes w.second_takes f g)
        t as_planned (w.first_reads.holds (suc steps) (omega arith))
        (w.second_reads.holds (suc steps) (omega arith))

-- the way of an index within the variants, and behind them
way_within : (n x : ℕ) → x < n → way_at n x ≡ variant x
way_within n x h =
    let e : nat_lt x n ≡ true = grind (arith, nat_tests) in
    ap (λ (b : Bool). if b then variant x else joined) e

way_behind : (n x : ℕ) → n ≤ x → way_at n x ≡ joined
way_behind n x h =
    let e : nat_lt x n ≡ false = grind (arith, nat_tests) in
    ap (λ (b : Bool). if b then variant x else joined) e

-- the ways of a target are those of what it comes to
pub ways_of_target : (plan : Plan) (apart : Apart) (target : ℕ) (q : PlannedTarget) (x y : ℕ)
    → slice_get plan.targets.items target ≡ Some q
    → AreSidesApart plan apart q.end (side_at q.end x) (side_at q.end y)
    → AreVariantsApart plan apart target (x, y)
ways_of_target plan apart target q x y there h m is t p d num at leaves w =
    let same : q ≡ p = cc in
    subst
    (λ (z : PlannedTarget). AreSidesApart plan apart z.end (side_at z.end x) (side_at z.end y))
    same h m is t target d p num at refl leaves w

-- two ways by names
pub named_ways : (plan : Plan) (apart : Apart) (ps : Vec PlannedName Global) (e : PlannedEnd)
    (x y : ℕ) → e ≡ planned.Named ps → AreNamesApart ps.items x y
    → AreSidesApart plan apart e (side_at e x) (side_at e y)
named_ways plan apart ps e x y is h =
    subst (λ (p : PlannedEnd). AreSidesApart plan apart p (side_at p x) (side_at p y)) (sym is)
    (named_sides plan apart ps (planned.Named ps) x y refl h)

module _ (plan : Plan) (apart : Apart) (o : Option ℕ) (ps : Vec PlannedAlternative Global)
    (e : PlannedEnd) (x y : ℕ) (is : e ≡ planned.Untagged o ps)
  where
    -- the same of ways that are known
    ways_known : (a b : Side) → way_at (length ps.items) x ≡ a → way_at (length ps.items) y ≡ b
        → AreSidesApart plan apart (planned.Untagged o ps) a b
        → AreSidesApart plan apart e (side_at e x) (side_at e y)
    ways_known a b p q h =
        subst (λ (z : PlannedEnd). AreSidesApart plan apart z (side_at z x) (side_at z y)) (sym is)
        (subst
        (λ (s : Side).
        AreSidesApart plan apart (planned.Untagged o ps) s (way_at (length ps.items) y)) (sym p)
        (subst (λ (s : Side). AreSidesApart plan apart (planned.Untagged o ps) a s) (sym q) h))

    -- two variants
    pub two_ways : (a b : PlannedAlternative) → slice_get ps.items x ≡ Some a
        → slice_get ps.items y ≡ Some b → AreTwoApart plan apart a b
        → AreSidesApart plan apart e (side_at e x) (side_at e y)
    two_ways a b at_a at_b h =
        ways_known (variant x) (variant y)
        (way_within (length ps.items) x (slice_get_within ps.items x a at_a))
        (way_within (length ps.items) y (slice_get_within ps.items y b at_b))
        (two_sides plan apart o ps (planned.Untagged o ps) x y a b refl at_a at_b h)

    -- a variant and those that join
    pub joined_second : (a : PlannedAlternative) → slice_get ps.items x ≡ Some a
        → length ps.items ≤ y → AreJoinedApart plan apart o a
        → AreSidesApart plan apart e (side_at e x) (side_at e y)
    joined_second a at past h =
        ways_known (variant x) joined
        (way_within (length ps.items) x (slice_get_within ps.items x a at))
        (way_behind (length ps.items) y past)
        (joined_sides plan apart o ps (planned.Untagged o ps) x a refl at h)

    -- those that join and a variant
    pub joined_first : (b : PlannedAlternative) → length ps.items ≤ x
        → slice_get ps.items y ≡ Some b → AreJoinedApart plan apart o b
        → AreSidesApart plan apart e (side_at e x) (side_at e y)
    joined_first b past at h =
        ways_known joined (variant y) (way_behind (length ps.items) x past)
        (way_within (length ps.items) y (slice_get_within ps.items y b at))
        (sides_turned plan apart (planned.Untagged o ps) (variant y) joined
        (joined_sides plan apart o ps (planned.Untagged o ps) y b refl at h))

-- a variant of floats beside one of whole numbers, by its atoms
pub float_beside : (plan : Plan) (atoms : List Atoms) → HaveAtoms plan atoms
    → length atoms ≡ length plan.targets.items → (a b : PlannedAlternative) (ys : List Atom)
    → AreAtomsOf atoms b ys → IsFloatKindBeside plan a.kind b.kind ys → IsFloatBeside plan a b
float_beside plan atoms have len a b ys of_b h =
    record {
      range = h.range;
      float = h.is_float;
      whole = h.is_whole;
      wholes = wholes_alone plan atoms have len b ys h.range of_b h.all;
    }
