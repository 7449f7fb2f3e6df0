-- The names that parts know, by the lists that are placed.
use Rattle.std.proofs.Common.{cond, is_eq, Less, ◌≡◌, ◌⊎◌, ◌↔◌, inl, inr, refl, sym, ap, subst, ◌∙◌, ⊎_elim, ℕ, zero, suc, ◌<◌, ◌+◌, ◌-◌, ◌≤◌, arith, List, [], ◌∷◌, ◌++◌, length, get_or, Bor, Bool, true, false, Some, slice_get, Contains, IsPermutation, IsSorted, IsTrue, bytes_eq, Option, None, take, add-one, Result, Ok, Err, IfOk, Vec, Global}
use Rattle.std.specs.declared.alloc.AllocError.{AllocError}
use Rattle.std.specs.List.{Any, dedup, dedup_from, list_any}
use Rattle.std.specs.Cmp.Lexicographic.{nat_list_cmp_total, on_texts_equal, texts_ties}
use Rattle.std.proofs.Math.Seq.{take-suc}
use Rattle.std.specs.Option.{option_map, option_map_or}
use Rattle.std.proofs.lemmas.Bool.{false≢true}
use Rattle.std.proofs.lemmas.List.{map-append, take_all, length-map}
use Rattle.std.proofs.lemmas.List.Elements.{Contains-append_left, Contains-append_right, Contains-append_cases}
use Rattle.std.proofs.lemmas.List.Folds.{Any-from_list_any, list_any-from_Any}
use Rattle.std.proofs.lemmas.List.Kept.{Contains-dedup, Contains-from_dedup, IsStrictlySortedBy-dedup}
use Rattle.std.proofs.lemmas.List.Quantifiers.{Any-push}
use Rattle.std.proofs.lemmas.List.Sorted.{Contains-permutation, IsPermutation-map, IsPermutation-sym}
use Rattle.std.proofs.lemmas.Option.{get_or_from_slice_get, slice_get-get_or, slice_get-map, slice_get_within, same_Some}
use Rattle.std.proofs.lemmas.Map.Keys.{Less-from_sorted}
use Rattle.std.proofs.lemmas.Map.Text.{is_eq-slice_cmp}
use Rattle.std.proofs.lemmas.Slice.Eq.{bytes_eq-Decides}
use Rattle.facet_solver_shape.specs.Catalogues.{RepeatsName}
use Rattle.facet_solver_shape.specs.Names.{Name, name_ref_cmp, names_of}
use Rattle.facet_solver_shape.proofs.Lists.{list_any-map}
use Rattle.facet_solver_shape.proofs.RepeatedNames.{not_back, not_repeated_sorted}
use Rattle.facet_solver_reader.specs.declared.tables.order.Ordered.{Ordered}
use Rattle.facet_solver_reader.specs.declared.part.ListId.{ListId}
use Rattle.facet_solver_reader.specs.declared.part.MemberPart as code_member
use Rattle.facet_solver_reader.specs.declared.part.Part as code_part
use Rattle.facet_solver_reader.specs.declared.part.Selection as code_selection
use Rattle.facet_solver_reader.specs.declared.tables.List.{List as ListEntry}
use Rattle.facet_solver_reader.specs.Known.{Key, named}
use Rattle.facet_solver_reader.specs.Parts as Parts
use Rattle.facet_solver_reader.specs.Parts.{Part, a_member, a_selection}
use Rattle.facet_solver_reader.specs.Places.{IsRepeated}
use Rattle.facet_solver_reader.specs.Placing.{AreNamesAdded, AreNamesOf, ArePartNames, AreThose, IsShared, entry_of, list_knows, part_knows}
use Rattle.facet_solver_reader.specs.Tables.{knows}
use Rattle.facet_solver_reader.specs.Views.{list_view, member_view, part_view, parts_view, selection_view}
use Rattle.facet_solver_reader.proofs.NodeNames.{at_contained, contains_at, name_ref_total}
use Rattle.facet_solver_reader.proofs.Opened.{at_after, at_either, at_front}
use Rattle.facet_solver_reader.proofs.Quantifiers.{any_at, any_is_at, any_of_front, any_of_last, any_upto_more}
use Rattle.facet_solver_reader.proofs.RepeatedNames.{IsRepeated-permutation}

-- an element that is there is so whatever the other answer would be
pub get_or_any : {X : Type 0} (xs : List X) (i : ℕ) (d e : X) → i < length xs → get_or xs i d ≡ get_or xs i e
get_or_any xs i d e within = get_or_from_slice_get xs i (get_or xs i e) d (slice_get-get_or xs i e within)

-- ---- names that stand twice

-- a name that stands at two places
pub repeated_at : (names : List Name) (x : Name) (i j : ℕ) → i < j
    → slice_get names i ≡ Some x → slice_get names j ≡ Some x → IsRepeated names x
repeated_at names x i j less at_i at_j = record {
  twice = record {
    name = x;
    first = i;
    second = j;
    apart = less;
    at_first = at_i;
    at_second = at_j;
  };
  name_is = refl;
}

module _ {names : List Name} {x : Name} (r : IsRepeated names x) where
  -- where it stands
  pub at_one : slice_get names r.twice.first ≡ Some x
  at_one = r.twice.at_first ∙ ap Some r.name_is

  pub at_other : slice_get names r.twice.second ≡ Some x
  at_other = r.twice.at_second ∙ ap Some r.name_is

module _ (xs ys : List Name) (x : Name) where
  -- a name that stands twice among the first ones
  pub repeated_front : IsRepeated xs x → IsRepeated (xs ++ ys) x
  repeated_front r =
      repeated_at (xs ++ ys) x r.twice.first r.twice.second r.twice.apart
      (at_front xs ys r.twice.first x (at_one r)) (at_front xs ys r.twice.second x (at_other r))

  -- one that stands among the first ones and among the others
  pub repeated_both : Contains xs x → Contains ys x → IsRepeated (xs ++ ys) x
  repeated_both c d =
      repeated_at (xs ++ ys) x c.0 (length xs + d.0) (let h : c.0 < length xs = c.1 in omega arith)
      (at_front xs ys c.0 x (at_contained xs x c)) (at_after xs ys d.0 x (at_contained ys x d))

  -- there is no other
  pub repeated_split : IsRepeated (xs ++ ys) x
      → IsRepeated xs x ⊎ (IsRepeated ys x ⊎ (Contains xs x × Contains ys x))
  repeated_split r =
      go (at_either xs ys r.twice.first x (at_one r)) (at_either xs ys r.twice.second x (at_other r))
    where
      go : (slice_get xs r.twice.first ≡ Some x)
          ⊎ ((k : ℕ) × (r.twice.first ≡ length xs + k) × (slice_get ys k ≡ Some x))
          → (slice_get xs r.twice.second ≡ Some x)
          ⊎ ((k : ℕ) × (r.twice.second ≡ length xs + k) × (slice_get ys k ≡ Some x))
          → IsRepeated xs x ⊎ (IsRepeated ys x ⊎ (Contains xs x × Contains ys x))
      go (inl a) (inl b) = inl (repeated_at xs x r.twice.first r.twice.second r.twice.apart a b)
      go (inl a) (inr b) = inr (inr (contains_at xs r.twice.first x a, contains_at ys b.0 x b.2))
      go (inr a) (inl b) =
          let within = slice_get_within xs r.twice.second x b in
          absurd (omega (arith, within, a.1, r.twice.apart))
      go (inr a) (inr b) =
          inr (inl (repeated_at ys x a.0 b.0 (omega (arith, a.1, b.1, r.twice.apart)) a.2 b.2))

-- one name does not stand twice
pub one_repeated : (n x : Name) → IsRepeated (n ∷ []) x → ⊥
one_repeated n x r =
    let within = slice_get_within (n ∷ []) r.twice.second x (at_other r) in
    omega (arith, within, r.twice.apart)

-- a name is one name if it is that
pub one_contained : (n x : Name) → Contains (n ∷ []) x ↔ IsTrue (bytes_eq n x)
one_contained n x = (
  λ c. (bytes_eq-Decides n x).1 (same c.0 c.1 c.2),
  λ e. (0, omega arith, (bytes_eq-Decides n x).0 e),
)
  where
    same : (k : ℕ) → k < 1 → get_or (n ∷ []) k x ≡ x → n ≡ x
    same zero less e = e
    same (suc k) less e = absurd (omega arith)

-- ---- keys that two parts know

module _ (o : Ordered) (x : Key) where
  abbrev Knows : Part → Type 0
  Knows p = IsTrue (part_knows o x p)

  module _ (ps : List Part) (p : Part) where
    -- a key that two of the parts before know
    pub shared_front : IsShared o ps x → IsShared o (ps ++ p ∷ []) x
    shared_front s = record {
      first = s.first;
      second = s.second;
      apart = s.apart;
      one = s.one;
      other = s.other;
      first_knows = s.first_knows;
      second_knows = s.second_knows;
      at_first = at_front ps (p ∷ []) s.first s.one s.at_first;
      at_second = at_front ps (p ∷ []) s.second s.other s.at_second;
    }

    -- one that a part before and the last know
    pub shared_last : Any (λ p. IsTrue (part_knows o x p)) ps → IsTrue (part_knows o x p)
        → IsShared o (ps ++ p ∷ []) x
    shared_last a k = record {
      first = a.0;
      second = length ps + 0;
      apart = let h : a.0 < length ps = a.2 in omega arith;
      one = a.1;
      other = p;
      at_first = at_front ps (p ∷ []) a.0 a.1 (any_is_at Knows ps a);
      at_second = at_after ps (p ∷ []) 0 p refl;
      first_knows = a.4;
      second_knows = k;
    }

    -- there is no other
    pub shared_split : IsShared o (ps ++ p ∷ []) x
        → IsShared o ps x ⊎ (Any (λ p. IsTrue (part_knows o x p)) ps × IsTrue (part_knows o x p))
    shared_split s =
        go (at_either ps (p ∷ []) s.first s.one s.at_first)
        (at_either ps (p ∷ []) s.second s.other s.at_second)
      where
        last : (k : ℕ) (q : Part) → slice_get (p ∷ []) k ≡ Some q → (k ≡ 0) × (p ≡ q)
        last zero q e = (refl, same_Some p q e)
        last (suc k) q e = absurd (cc)

        go : (slice_get ps s.first ≡ Some s.one)
            ⊎ ((k : ℕ) × (s.first ≡ length ps + k) × (slice_get (p ∷ []) k ≡ Some s.one))
            → (slice_get ps s.second ≡ Some s.other)
            ⊎ ((k : ℕ) × (s.second ≡ length ps + k) × (slice_get (p ∷ []) k ≡ Some s.other))
            → IsShared o ps x
            ⊎ (Any (λ p. IsTrue (part_knows o x p)) ps × IsTrue (part_knows o x p))
        go (inl a) (inl b) = inl (record {
          first = s.first;
          second = s.second;
          apart = s.apart;
          one = s.one;
          other = s.other;
          at_first = a;
          at_second = b;
          first_knows = s.first_knows;
          second_knows = s.second_knows;
        })
        go (inl a) (inr b) =
            inr (
              any_at Knows ps s.first s.one a s.first_knows,
              subst Knows (sym (last b.0 s.other b.2).1) s.second_knows,
            )
        go (inr a) (inl b) =
            let within = slice_get_within ps s.second s.other b in
            absurd (omega (arith, within, a.1, s.apart))
        go (inr a) (inr b) =
            absurd (omega (arith, a.1, b.1, s.apart, (last a.0 s.one a.2).0, (last b.0 s.other b.2).0))

-- ---- the names of parts

module _ (o : Ordered) where
  abbrev Know : Name → Part → Type 0
  Know x p = IsTrue (part_knows o (named x) p)

  -- the names of one part more
  pub names_of_more : (ps : List Part) (p : Part) (old new : List Name)
      → AreNamesOf o ps old → AreNamesAdded o p old new → AreNamesOf o (ps ++ p ∷ []) new
  names_of_more ps p old new h a = record {
    has = λ x. (
      λ c.
          ⊎_elim
          (λ (c : Contains old x). any_of_front (Know x) ps (p ∷ []) ((h.has x).0 c))
          (λ (c : Contains a.more x). Any-push (Know x) ps p ((a.those.has x).0 c))
          (Contains-append_cases old a.more x (subst (λ ns. Contains ns x) a.new_is c)),
      λ e.
          subst (λ ns. Contains ns x) (sym a.new_is)
          (⊎_elim
          (λ (e : Any (Know x) ps). Contains-append_left old a.more x ((h.has x).1 e))
          (λ (k : Know x p). Contains-append_right old a.more x ((a.those.has x).1 k))
          (any_of_last (Know x) ps p e)),
    );
    twice = λ x. (
      λ r.
          ⊎_elim
          (λ (r : IsRepeated old x). shared_front o (named x) ps p ((h.twice x).0 r))
          (λ (e : IsRepeated a.more x ⊎ (Contains old x × Contains a.more x)).
          ⊎_elim
          (λ (r : IsRepeated a.more x). absurd (a.those.once x r))
          (λ (b : Contains old x × Contains a.more x).
          shared_last o (named x) ps p ((h.has x).0 b.0) ((a.those.has x).0 b.1))
          e)
          (repeated_split old a.more x (subst (λ ns. IsRepeated ns x) a.new_is r)),
      λ s.
          subst (λ ns. IsRepeated ns x) (sym a.new_is)
          (⊎_elim
          (λ (s : IsShared o ps (named x)). repeated_front old a.more x ((h.twice x).1 s))
          (λ (b : Any (Know x) ps × Know x p).
          repeated_both old a.more x ((h.has x).1 b.0) ((a.those.has x).1 b.1))
          (shared_split o (named x) ps p s)),
    );
  }

  -- names of parts in another order
  pub names_moved : (ps : List Part) (names others : List (Bor Name))
      → IsPermutation names others
      → AreNamesOf o ps (names_of names) → AreNamesOf o ps (names_of others)
  names_moved ps names others moved h =
      let there = IsPermutation-map (λ (n : Bor Name). n.now) names others moved in
      let back = IsPermutation-sym (names_of names) (names_of others) there in
      record {
        has = λ x. (
          λ c. (h.has x).0 (Contains-permutation (names_of others) (names_of names) x back c),
          λ a. Contains-permutation (names_of names) (names_of others) x there ((h.has x).1 a),
        );
        twice = λ x. (
          λ r. (h.twice x).0 (IsRepeated-permutation (names_of others) (names_of names) x back r),
          λ s. IsRepeated-permutation (names_of names) (names_of others) x there ((h.twice x).1 s),
        );
      }

-- ---- sorted names

-- the name at an index, of names behind references
pub name_at : (ns : List (Bor Name)) (k : ℕ) (d : Bor Name) → k < length ns
    → slice_get (names_of ns) k ≡ Some (get_or ns k d).now
name_at ns k d within =
    slice_get-map (λ (n : Bor Name). n.now) ns k
    ∙ ap (option_map (λ (n : Bor Name). n.now)) (slice_get-get_or ns k d within)

-- each name differs from the next
abbrev pub DifferBelow : List (Bor Name) → ℕ → Type 0
DifferBelow ns n =
    (k : ℕ) (d : Bor Name) → k + 1 < n
    → bytes_eq (get_or ns k d).now (get_or ns (k + 1) d).now ≡ false

-- sorted names of which each differs from the next repeat none
pub differ_all : (ns : List (Bor Name)) → IsSorted name_ref_cmp ns → DifferBelow ns (length ns)
    → ¬ RepeatsName (names_of ns)
differ_all ns sorted differ = not_repeated_sorted ns sorted (λ k less d. differ k d less)

-- a name that is the next one too
pub repeated_here : (ns : List (Bor Name)) (later : ℕ) (d e : Bor Name)
    → 0 < later → later < length ns
    → bytes_eq (get_or ns (later - 1) d).now (get_or ns later e).now ≡ true
    → IsRepeated (names_of ns) (get_or ns later e).now
repeated_here ns later d e some within equal =
    let same = (bytes_eq-Decides (get_or ns (later - 1) d).now (get_or ns later e).now).0 equal in
    repeated_at (names_of ns) (get_or ns later e).now (later - 1) later (omega (arith, some))
    (name_at ns (later - 1) d (omega (arith, within)) ∙ ap Some same)
    (name_at ns later e within)

-- whether two names are the same, behind references
abbrev pub same_name : Bor Name → Bor Name → Bool
same_name m n = bytes_eq m.now n.now

-- what `dedup` leaves of names behind references is what it leaves of the names
names_deduped_from : (n : Bor Name) (ns : List (Bor Name))
    → names_of (dedup_from same_name n ns) ≡ dedup_from bytes_eq n.now (names_of ns)
names_deduped_from n [] = refl
names_deduped_from n (m ∷ ns) =
    go (names_deduped_from n ns) (names_deduped_from m ns) (bytes_eq m.now n.now)
  where
    go : names_of (dedup_from same_name n ns) ≡ dedup_from bytes_eq n.now (names_of ns)
        → names_of (dedup_from same_name m ns) ≡ dedup_from bytes_eq m.now (names_of ns)
        → (b : Bool)
        → names_of (cond b (dedup_from same_name n ns) (n ∷ dedup_from same_name m ns))
        ≡ cond b (dedup_from bytes_eq n.now (names_of ns))
        (n.now ∷ dedup_from bytes_eq m.now (names_of ns))
    go same other true = same
    go same other false = ap (λ xs. n.now ∷ xs) other

names_deduped : (ns : List (Bor Name))
    → names_of (dedup same_name ns) ≡ dedup bytes_eq (names_of ns)
names_deduped [] = refl
names_deduped (n ∷ ns) = names_deduped_from n ns

-- `dedup` leaves the names that there are
pub deduped_has : (ns : List (Bor Name)) (x : Name)
    → Contains (names_of (dedup same_name ns)) x ↔ Contains (names_of ns) x
deduped_has ns x = (
  λ c. Contains-from_dedup bytes_eq (names_of ns) x (subst (λ xs. Contains xs x) (names_deduped ns) c),
  λ c.
      subst (λ xs. Contains xs x) (sym (names_deduped ns))
      (Contains-dedup (on_texts_equal (λ (y : Name). y)) (λ y z. (bytes_eq-Decides y z).0)
      (names_of ns) x c),
)

module _ (ns : List (Bor Name)) (sorted : IsSorted name_ref_cmp ns) where
  -- of sorted names it leaves names that rise
  rising : (k : ℕ) (d : Bor Name) → k + 1 < length (dedup same_name ns)
      → name_ref_cmp (get_or (dedup same_name ns) k d) (get_or (dedup same_name ns) (k + 1) d)
      ≡ Less
  rising k d less =
      Less-from_sorted name_ref_cmp (dedup same_name ns) k (k + 1) d
      (IsStrictlySortedBy-dedup name_ref_total (λ m n. texts_ties m.now n.now) ns sorted)
      (omega arith) less

  -- so they are sorted
  pub deduped_sorted : IsSorted name_ref_cmp (dedup same_name ns)
  deduped_sorted k d low less =
      let ds = dedup same_name ns in
      not_back nat_list_cmp_total (get_or ds k d).now (get_or ds (k + 1) d).now (rising k d less)

  -- and each is there once
  pub deduped_once : (x : Name) → IsRepeated (names_of (dedup same_name ns)) x → ⊥
  deduped_once x r =
      let ds = dedup same_name ns in
      differ_all ds deduped_sorted
      (λ k d less.
      sym (is_eq-slice_cmp (get_or ds k d).now (get_or ds (k + 1) d).now)
      ∙ ap is_eq (rising k d less))
      r.twice

  -- so it leaves the names of a kind, each once, where there are these
  pub deduped_those : (P : Name → Type 0) → ((x : Name) → Contains (names_of ns) x ↔ P x)
      → AreThose P (names_of (dedup same_name ns))
  deduped_those P those = record {
    has = λ x. (
      λ c. (those x).0 ((deduped_has ns x).0 c),
      λ q. (deduped_has ns x).1 ((those x).1 q),
    );
    once = deduped_once;
  }

-- what is so of names is so of a vector that is made of them
pub made_of : (P : List (Bor Name) → Type 0) (names : List (Bor Name))
    (r : Result (Vec (Bor Name) Global) AllocError)
    → IfOk r (λ v. v.items ≡ names) → P names → IfOk r (λ v. P v.items)
made_of P names (Ok v) is h = subst P (sym is) h
made_of P names (Err e) is h = is

-- ---- the names of lists that are placed

-- the names that some of the lists knows
abbrev pub AreNamesOfLists : Ordered → List ListId → List Name → Type 0
AreNamesOfLists o ids names =
    (x : Name)
    → Contains names x ↔ Any (λ id. IsTrue (list_knows o (named x) (list_view id))) ids

-- a list knows the name
abbrev HasName : Ordered → Name → ListId → Type 0
HasName o x id = IsTrue (list_knows o (named x) (list_view id))

-- names hold a name where a test by bytes says so
pub knows_contained : (ns : List (Bor Name)) (x : Name)
    → Contains (names_of ns) x ↔ IsTrue (list_any (λ (n : Bor Name). bytes_eq n.now x) ns)
knows_contained ns x = (
  λ c. list_any-from_Any (λ (n : Bor Name). bytes_eq n.now x) ns (into c),
  λ k. out (Any-from_list_any (λ (n : Bor Name). bytes_eq n.now x) ns k),
)
  where
    into : Contains (names_of ns) x → Any (λ (n : Bor Name). bytes_eq n.now x ≡ true) ns
    into c =
        let blank : Bor Name = record { ref_ptr = (0, 0); now = [] } in
        let long = length-map ns (λ (n : Bor Name). n.now) in
        let within : c.0 < length ns = let h : c.0 < length (names_of ns) = c.1 in omega (arith, h, long) in
        let same : (get_or ns c.0 blank).now ≡ x = same_Some (get_or ns c.0 blank).now x (sym (name_at ns c.0 blank within) ∙ at_contained (names_of ns) x c) in (
          c.0,
          get_or ns c.0 blank,
          within,
          get_or_any ns c.0 (get_or ns c.0 blank) blank within,
          (bytes_eq-Decides (get_or ns c.0 blank).now x).1 same,
        )

    out : Any (λ (n : Bor Name). bytes_eq n.now x ≡ true) ns → Contains (names_of ns) x
    out a =
        let within : a.0 < length ns = a.2 in
        contains_at (names_of ns) a.0 x
        (name_at ns a.0 a.1 within ∙ ap (λ (n : Bor Name). Some n.now) a.3 ∙ ap Some ((bytes_eq-Decides a.1.now x).0 a.4))

-- what a list knows that is placed
pub known_of_entry : (o : Ordered) (id : Parts.ListId) (l : ListEntry) (x : Name)
    → entry_of o id ≡ Some l
    → Contains (names_of l.names.items) x ↔ IsTrue (list_knows o (named x) id)
known_of_entry o id l x e = (
  λ c. knows_is ∙ (knows_contained l.names.items x).0 c,
  λ k. (knows_contained l.names.items x).1 (sym knows_is ∙ k),
)
  where
    knows_is : list_knows o (named x) id ≡ knows l (named x)
    knows_is = ap (λ (f : Option ListEntry). option_map_or (λ l. knows l (named x)) f false) e

-- a list that is not placed knows nothing
pub known_of_no_entry : (o : Ordered) (id : Parts.ListId) (x : Name) → entry_of o id ≡ None
    → IsTrue (list_knows o (named x) id) → ⊥
known_of_no_entry o id x e k =
    let none : list_knows o (named x) id ≡ false = ap (λ (f : Option ListEntry). option_map_or (λ l. knows l (named x)) f false) e in
    false≢true (sym none ∙ k)

module _ (o : Ordered) (ids : List ListId) (i : ℕ) (d : ListId) (names : List Name) (within : i < length ids) (h : AreNamesOfLists o (take i ids) names) where
  -- the names of one list more
  pub names_of_list : (l : ListEntry) (new : List Name) → entry_of o (list_view (get_or ids i d)) ≡ Some l
      → new ≡ names ++ names_of l.names.items → AreNamesOfLists o (take (i + 1) ids) new
  names_of_list l new e is x = (
    λ c. (any_upto_more (HasName o x) ids i d within).1
        (elim (Contains-append_cases names (names_of l.names.items) x (subst (λ ns. Contains ns x) is c)) [
          | inl a ↦ inl ((h x).0 a)
          | inr b ↦ inr ((known_of_entry o (list_view (get_or ids i d)) l x e).0 b)
        ]),
    λ a. subst (λ ns. Contains ns x) (sym is)
        (elim ((any_upto_more (HasName o x) ids i d within).0 a) [
          | inl a ↦ Contains-append_left names (names_of l.names.items) x ((h x).1 a)
          | inr k ↦ Contains-append_right names (names_of l.names.items) x ((known_of_entry o (list_view (get_or ids i d)) l x e).1 k)
        ]),
  )

  -- a list that is not placed has none
  pub names_of_no_list : entry_of o (list_view (get_or ids i d)) ≡ None
      → AreNamesOfLists o (take (i + 1) ids) names
  names_of_no_list e x = (
    λ c. (any_upto_more (HasName o x) ids i d within).1 (inl ((h x).0 c)),
    λ a. elim ((any_upto_more (HasName o x) ids i d within).0 a) [
      | inl a ↦ (h x).1 a
      | inr k ↦ absurd (known_of_no_entry o (list_view (get_or ids i d)) x e k)
    ],
  )

-- the names of all lists of a selection, in whatever order, are those that it knows
pub names_of_branches : (o : Ordered) (s : code_selection.Selection) (n : ℕ)
    (names sorted : List (Bor Name)) → length s.branches.items ≤ n
    → AreNamesOfLists o (take n s.branches.items) (names_of names) → IsPermutation names sorted
    → (x : Name)
    → Contains (names_of sorted) x ↔ IsTrue (part_knows o (named x) (a_selection (selection_view s)))
names_of_branches o s n names sorted all h moved x =
    let ids = s.branches.items in
    let whole : take n ids ≡ ids = take_all n ids all in
    let there = IsPermutation-map (λ (n : Bor Name). n.now) names sorted moved in
    let back = IsPermutation-sym (names_of names) (names_of sorted) there in
    let test : ListId → Bool = λ id. list_knows o (named x) (list_view id) in
    let same = list_any-map (list_knows o (named x)) list_view ids in (
      λ c.
          same
          ∙ list_any-from_Any test ids (subst (Any (HasName o x)) whole
          ((h x).0 (Contains-permutation (names_of sorted) (names_of names) x back c))),
      λ k.
          Contains-permutation (names_of names) (names_of sorted) x there
          ((h x).1 (subst (Any (HasName o x)) (sym whole) (Any-from_list_any test ids (sym same ∙ k)))),
    )

-- a member adds its name
pub member_added : (o : Ordered) (m : code_member.MemberPart) (old new : List (Bor Name))
    → new ≡ old ++ m.name ∷ []
    → AreNamesAdded o (a_member (member_view m)) (names_of old) (names_of new)
member_added o m old new is = record {
  more = m.name.now ∷ [];
  new_is = ap names_of is ∙ map-append (λ (n : Bor Name). n.now) old (m.name ∷ []);
  those = record {
    has = λ x. one_contained m.name.now x;
    once = λ x r. one_repeated m.name.now x r;
  };
}

-- a selection adds what its branches know
pub selection_added : (o : Ordered) (s : code_selection.Selection) (old more new : List (Bor Name))
    → new ≡ old ++ more
    → AreThose (λ x. IsTrue (part_knows o (named x) (a_selection (selection_view s)))) (names_of more)
    → AreNamesAdded o (a_selection (selection_view s)) (names_of old) (names_of new)
selection_added o s old more new is those = record {
  more = names_of more;
  new_is = ap names_of is ∙ map-append (λ (n : Bor Name). n.now) old more;
  those = those;
}

-- one part more
pub parts_more : (ps : List code_part.Part) (i : ℕ) (p : code_part.Part) → i < length ps
    → p ≡ get_or ps i p
    → parts_view (take (i + 1) ps) ≡ parts_view (take i ps) ++ part_view p ∷ []
parts_more ps i p within is =
    let more : take (i + 1) ps ≡ take i ps ++ get_or ps i p ∷ [] = rw add-one (take-suc ps i p within) in
    ap parts_view more
    ∙ map-append part_view (take i ps) (get_or ps i p ∷ [])
    ∙ ap (λ (q : code_part.Part). parts_view (take i ps) ++ part_view q ∷ []) (sym is)

-- the names of all parts, sorted, of which none repeats
pub names_apart : (o : Ordered) (ps : List Part) (names : List (Bor Name))
    → IsSorted name_ref_cmp names → AreNamesOf o ps (names_of names)
    → ¬ RepeatsName (names_of names) → ArePartNames o ps names
names_apart o ps names sorted h once = record {
  sorted = sorted;
  has = h.has;
  apart = λ x s. once ((h.twice x).1 s).twice;
}
