-- Which member means a field, and where each member stands.
use Rattle.std.proofs.Common.{◌≡◌, ◌≢◌, ℕ, zero, suc, ◌+◌, ◌<◌, arith, refl, subst, sym, ◌∙◌, ap, append-nil, append_assoc, zero-add, Bor, T, Bool, true, false, cond, ◌&&◌, List, [], ◌∷◌, ◌++◌, All, Option, Some, None, filter, get_or, length, map, slice_get}
use Rattle.std.specs.Prelude.{Contains, Err}
use Rattle.std.specs.Cmp.{tied_itself, nat_cmp_total}
use Rattle.std.specs.Cmp.Lexicographic.{nat_list_cmp_total, slice_cmp}
use Rattle.std.specs.FinMap as finite
use Rattle.std.specs.FinMap.Entries.{below_all}
use Rattle.std.specs.List.{AllByRecursion}
use Rattle.std.specs.Option.{option_and_then, option_copied, option_flatten, option_map, option_or}
use Rattle.std.specs.Ordering.{is_lt, nat_cmp, ordering_then}
use Rattle.std.specs.declared.cmp.Ordering.{Ordering}
use Rattle.std.specs.declared.cmp.Ordering.TheVariants.{Equal}
use Rattle.std.proofs.lemmas.List.{map-append, map-id}
use Rattle.std.proofs.lemmas.List.Elements.{All-contains, All-push, Contains-append_right, filter-append, recursion_from_All}
use Rattle.std.proofs.lemmas.List.Folds.{find_at}
use Rattle.std.proofs.lemmas.List.FromFn.{get_or-range_with_len, length-range_with_len, map-range_with_len_more}
use Rattle.std.proofs.lemmas.Option.{slice_get-get_or, slice_get_within}
use Rattle.facet_solver.specs.Fields.{FieldView, IsStored, key_of_field, matches}
use Rattle.facet_solver.specs.set.IndexSet.{upto}
use Rattle.facet_solver.specs.Keys.{Key, key_cmp, key_of, rank, stored_key}
use Rattle.facet_solver.specs.Resolved.{Resolved, field_by_key}
use Rattle.facet_solver.specs.declared.FieldKey.{FieldKey}
use Rattle.facet_solver_uses.specs.declared.choice_to_values.FieldValue.{FieldValue}
use Rattle.facet_solver_uses.specs.declared.choice_to_values.Values.{Values}
use Rattle.facet_solver_uses.specs.declared.choice_to_values.Mismatch.{Mismatch}
use Rattle.facet_solver_uses.specs.declared.choice_to_values.Mismatch.TheVariants.{Unknown, Repeated, Missing, OutOfMemory}
use Rattle.facet_solver_uses.specs.ChoiceToValues.{AreValues, HaveOneKey, IsFieldFault, IsMemberOf, IsMismatch, IsOthersFault, IsPlaced, IsValue, Meaning, StandsAt, TellsFirstUnknown, contents_of, is_as_content, is_by_catch_all, meant_by, meant_field_at, rest_of, taker_at}
use Rattle.facet_solver_uses.specs.Taken.{AreTaken, TakerView, as_content, by_catch_all, by_field, catch_all_of, is_content, taker_of}
use Rattle.facet_solver_uses.proofs.FirstUnknown.{key_at, none_unknown, unknown_at}
use Rattle.facet_solver_uses.proofs.KeptElements.{kept, kept_passes, later}
use Rattle.facet_solver_uses.proofs.KeysToChoice.{at_place}

-- what is in a list stands at a place of it
place : {X : Type 0} (xs : List X) (x : X) → Contains xs x → (i : ℕ) × (slice_get xs i ≡ Some x)
place xs x c = (c.0, slice_get-get_or xs c.0 x c.1 ∙ ap (λ y. Some y) c.2)

first_part : (a b : Bool) → T (a && b) → T a
first_part true b h = tt
first_part false b h = absurd h

second_part : (a b : Bool) → T (a && b) → T b
second_part true b h = h
second_part false b h = absurd h

-- a key is not below itself
tied : (x : Key) → key_cmp x x ≡ Equal
tied x =
    ap (λ r. ordering_then r (slice_cmp nat_cmp x.name x.name)) (tied_itself nat_cmp_total (rank x.dom))
    ∙ tied_itself nat_list_cmp_total x.name

not_below : (x y : Key) → x ≡ y → T (is_lt (key_cmp x y)) → ⊥
not_below x y e h = subst (λ (r : Ordering). T (is_lt r)) (ap (key_cmp x) (sym e) ∙ tied x) h

-- of entries in key order no later one has the key of an earlier one
none_later : (x : Key) (es : List (Key × FieldView)) → T (below_all key_cmp x es) → AllByRecursion IsStored es → (i : ℕ) (g : FieldView) → slice_get (map (λ e. e.1) es) i ≡ Some g → x ≡ key_of_field g → ⊥
none_later x [] below stored i g at same = cc
none_later x (e ∷ es) below stored zero g at same =
    let here : e.1 ≡ g = cc in
    not_below x e.0 (same ∙ ap key_of_field (sym here) ∙ sym stored.0) (first_part _ _ below)
none_later x (e ∷ es) below stored (suc i) g at same = none_later x es (second_part _ _ below) stored.1 i g at same

-- of entries in key order two fields of one key are one
distinct : (es : List (Key × FieldView)) → T (finite.is_sorted key_cmp es) → AllByRecursion IsStored es → (i j : ℕ) (f g : FieldView)
    → slice_get (map (λ e. e.1) es) i ≡ Some f → slice_get (map (λ e. e.1) es) j ≡ Some g → key_of_field f ≡ key_of_field g → f ≡ g
distinct [] rising stored i j f g p q same = absurd (cc)
distinct (e ∷ es) rising stored zero zero f g p q same = cc
distinct (e ∷ es) rising stored zero (suc j) f g p q same =
    let here : e.1 ≡ f = cc in
    absurd (none_later e.0 es (first_part _ _ rising) stored.1 j g q (stored.0 ∙ ap key_of_field here ∙ same))
distinct (e ∷ es) rising stored (suc i) zero f g p q same =
    let here : e.1 ≡ g = cc in
    absurd (none_later e.0 es (first_part _ _ rising) stored.1 i f p (stored.0 ∙ ap key_of_field here ∙ sym same))
distinct (e ∷ es) rising stored (suc i) (suc j) f g p q same = distinct es (second_part _ _ rising) stored.1 i j f g p q same

-- two fields of a resolution that have one category and one name are one
pub same_field : (r : Resolved) → All IsStored (finite.entries r.fields) → (f g : FieldView) → Contains (finite.values r.fields) f → Contains (finite.values r.fields) g → HaveOneKey f g → f ≡ g
same_field r stored f g in_f in_g same =
    let p = place (finite.values r.fields) f in_f in
    let q = place (finite.values r.fields) g in_g in
    distinct (finite.entries r.fields) (finite.entries_sorted r.fields) (recursion_from_All IsStored (finite.entries r.fields) stored) p.0 q.0 f g p.1 q.1
    (λ i. stored_key (same.0 i) (same.1 i))

-- what a step from an element gives at a place
at_mapped : {A B : Type 0} (h : A → Option B) (xs : List A) (i : ℕ) → option_and_then h (slice_get xs i) ≡ option_flatten (slice_get (map h xs) i)
at_mapped h [] i = refl
at_mapped h (x ∷ xs) zero = refl
at_mapped h (x ∷ xs) (suc i) = at_mapped h xs i

-- fields that were found for all keys say which member means which field
pub same_meaning : (r : Resolved) (keys : List Key) (fields : List (Option (Bor FieldView))) → map option_copied fields ≡ map (λ key. field_by_key key r) keys → meant_field_at fields ≡ meant_by r keys
same_meaning r keys fields e = λ i member. (at_mapped option_copied fields member ∙ ap (λ all. option_flatten (slice_get all member)) e ∙ sym (at_mapped (λ key. field_by_key key r) keys member)) i

-- a field that a member means is one of the resolution
pub meant_among : (r : Resolved) (keys : List Key) (member : ℕ) (f : FieldView) → meant_by r keys member ≡ Some f → Contains (finite.values r.fields) f
meant_among r keys member f e = go (slice_get keys member) e
  where
    go : (o : Option Key) → option_and_then (λ key. field_by_key key r) o ≡ Some f → Contains (finite.values r.fields) f
    go None e = absurd (cc)
    go (Some key) e = at_place (finite.values r.fields) _ f (sym (find_at (matches key) (finite.values r.fields)) ∙ e)

-- what stands at a place of seen elements is one of them, seen
seen_at : {X Y : Type 0} (g : X → Y) (xs : List X) (i : ℕ) (y : Y) → slice_get (map g xs) i ≡ Some y → (x : X) × Contains xs x × (g x ≡ y)
seen_at g [] i y e = absurd (cc)
seen_at g (x ∷ xs) zero y e = (x, (0, omega arith, refl), cc)
seen_at g (x ∷ xs) (suc i) y e = let r = seen_at g xs i y e in (r.0, later x xs r.0 r.1, r.2)

index_at : (n i : ℕ) → i < n → slice_get (upto n) i ≡ Some i
index_at n i low =
    slice_get-get_or (upto n) i 0 (omega (arith, length-range_with_len 0 n))
    ∙ ap (λ (k : ℕ). Some k) (get_or-range_with_len 0 n i 0 low ∙ zero-add i)

-- a member that is taken is there
within : (r : Resolved) (keys : List Key) (member : ℕ) (taker : TakerView) → taker_at r keys member ≡ Some taker → member < length keys
within r keys member taker is = go (slice_get keys member) refl is
  where
    go : (o : Option Key) → slice_get keys member ≡ o → option_and_then (λ key. taker_of key r) o ≡ Some taker → member < length keys
    go None at is = absurd (cc)
    go (Some key) at is = slice_get_within keys member key at

-- what is taken by no field is not taken by one
not_by_field : (content : Bool) (catch_all : Option FieldView) (f : FieldView) → cond content (Some as_content) (option_map by_catch_all catch_all) ≡ Some (by_field f) → ⊥
not_by_field true catch_all f e = cc
not_by_field false None f e = cc
not_by_field false (Some g) f e = cc

-- a field takes a member exactly if the member means it
taker_meant : (r : Resolved) (o : Option Key) (f : FieldView) → option_and_then (λ key. field_by_key key r) o ≡ Some f → option_and_then (λ key. taker_of key r) o ≡ Some (by_field f)
taker_meant r None f e = absurd (cc)
taker_meant r (Some key) f e = ap (λ found. option_or (option_map by_field found) (cond (is_content key r) (Some as_content) (option_map by_catch_all (catch_all_of key r)))) e

meant_taker : (r : Resolved) (o : Option Key) (f : FieldView) → option_and_then (λ key. taker_of key r) o ≡ Some (by_field f) → option_and_then (λ key. field_by_key key r) o ≡ Some f
meant_taker r None f e = absurd (cc)
meant_taker r (Some key) f e = go (field_by_key key r) e
  where
    go : (found : Option FieldView) → option_or (option_map by_field found) (cond (is_content key r) (Some as_content) (option_map by_catch_all (catch_all_of key r))) ≡ Some (by_field f) → found ≡ Some f
    go None e = absurd (not_by_field (is_content key r) (catch_all_of key r) f e)
    go (Some g) e = cc

-- what the tests of a taker say
as_content_is : (taker : Option TakerView) → is_as_content taker ≡ true → taker ≡ Some as_content
as_content_is None e = absurd (cc)
as_content_is (Some (by_field f)) e = absurd (cc)
as_content_is (Some as_content) e = refl
as_content_is (Some (by_catch_all f)) e = absurd (cc)

by_catch_all_is : (taker : Option TakerView) → is_by_catch_all taker ≡ true → (f : FieldView) × (taker ≡ Some (by_catch_all f))
by_catch_all_is None e = absurd (cc)
by_catch_all_is (Some (by_field f)) e = absurd (cc)
by_catch_all_is (Some as_content) e = absurd (cc)
by_catch_all_is (Some (by_catch_all f)) e = (f, refl)

-- the only member that means a field is its member
module _ (r : Resolved) (keys : List Key) (values : Values) (fields : AreValues r (meant_by r keys) values.fields.items) (member : ℕ) where
  means_it : (o : Option ℕ) (f : FieldView) → IsMemberOf (meant_by r keys) f o → o ≡ Some member → meant_by r keys member ≡ Some f
  means_it None f h is = absurd (cc)
  means_it (Some other) f h is =
      let same : other ≡ member = cc in
      ap (meant_by r keys) (sym same) ∙ h.means

  its : (o : Option ℕ) (f : FieldView) → IsMemberOf (meant_by r keys) f o → meant_by r keys member ≡ Some f → o ≡ Some member
  its None f h is = absurd (h member is)
  its (Some other) f h is = ap (λ (k : ℕ). Some k) (sym (h.alone member is))

  stands_for : (f : FieldView) → StandsAt values member f → meant_by r keys member ≡ Some f
  stands_for f (v, among, of_field, has) =
      let well = All-contains (IsValue (meant_by r keys)) values.fields.items v fields.well among in
      means_it v.member v.field.now well.member has ∙ ap (λ (g : FieldView). Some g) of_field

  stands : (f : FieldView) → meant_by r keys member ≡ Some f → StandsAt values member f
  stands f is =
      let at = place (finite.values r.fields) f (meant_among r keys member f is) in
      let v = seen_at (λ (v : FieldValue). v.field.now) values.fields.items at.0 f (ap (λ fs. slice_get fs at.0) fields.fields ∙ at.1) in
      let well = All-contains (IsValue (meant_by r keys)) values.fields.items v.0 fields.well v.1 in
      (v.0, v.1, v.2, its v.0.member v.0.field.now well.member (is ∙ ap (λ g. Some g) (sym v.2)))

-- each member stands where it is taken
pub placed : (r : Resolved) (keys : List Key) (values : Values) → AreValues r (meant_by r keys) values.fields.items → values.contents.items ≡ contents_of r keys → values.rest.items ≡ rest_of r keys
    → (member : ℕ) → IsPlaced values member (taker_at r keys member)
placed r keys values fields contents rest member =
    let as_one = λ (m : ℕ). is_as_content (taker_at r keys m) in
    let by_one = λ (m : ℕ). is_by_catch_all (taker_at r keys m) in
    let low = within r keys member in
    record {
      at_field = λ f. (
        λ there. taker_meant r (slice_get keys member) f (stands_for r keys values fields member f there),
        λ is. stands r keys values fields member f (meant_taker r (slice_get keys member) f is),
      );
      in_contents = (
        λ there. as_content_is (taker_at r keys member) (kept_passes as_one (upto (length keys)) member (subst (λ (ms : List ℕ). Contains ms member) contents there)),
        λ is. subst (λ (ms : List ℕ). Contains ms member) (sym contents) (kept as_one (upto (length keys)) member member (index_at (length keys) member (low as_content is)) (ap is_as_content is)),
      );
      in_rest = (
        λ there. by_catch_all_is (taker_at r keys member) (kept_passes by_one (upto (length keys)) member (subst (λ (ms : List ℕ). Contains ms member) rest there)),
        λ w. subst (λ (ms : List ℕ). Contains ms member) (sym rest) (kept by_one (upto (length keys)) member member (index_at (length keys) member (low (by_catch_all w.0) w.1)) (ap is_by_catch_all w.1)),
      );
    }

upto_more : (n : ℕ) → upto (n + 1) ≡ upto n ++ n ∷ []
upto_more n =
    sym (map-id (upto (n + 1)))
    ∙ map-range_with_len_more (λ (x : ℕ). x) 0 n n (zero-add n)
    ∙ ap (λ (xs : List ℕ). xs ++ n ∷ []) (map-id (upto n))

-- one more index
filter_more : (test : ℕ → Bool) (n : ℕ) → filter test (upto (n + 1)) ≡ filter test (upto n) ++ cond (test n) (n ∷ []) []
filter_more test n = ap (filter test) (upto_more n) ∙ filter-append test (upto n) (n ∷ [])

-- the member at an index is taken as its key is
pub taker_here : (r : Resolved) (keys : List FieldKey) (n : ℕ) (d : FieldKey) → n < length keys → taker_at r (map key_of keys) n ≡ taker_of (key_of (get_or keys n d)) r
taker_here r keys n d low = ap (option_and_then (λ key. taker_of key r)) (key_at keys n d low)

-- the members below an index whose takers pass a test
abbrev pub Members : (Option TakerView → Bool) → Resolved → List FieldKey → ℕ → List ℕ
Members test r keys n = filter (λ m. test (taker_at r (map key_of keys) m)) (upto n)

members_more : (test : Option TakerView → Bool) (r : Resolved) (keys : List FieldKey) (n : ℕ) (taker : Option TakerView) (b : Bool) → taker_at r (map key_of keys) n ≡ taker → test taker ≡ b → Members test r keys (n + 1) ≡ Members test r keys n ++ cond b (n ∷ []) []
members_more test r keys n taker b is told =
    filter_more (λ m. test (taker_at r (map key_of keys) m)) n
    ∙ ap (λ (b : Bool). Members test r keys n ++ cond b (n ∷ []) []) (ap test is ∙ told)

-- a member whose taker fails it is none of them
pub members_same : (test : Option TakerView → Bool) (r : Resolved) (keys : List FieldKey) (n : ℕ) (taker : Option TakerView) (before : List ℕ) → taker_at r (map key_of keys) n ≡ taker → test taker ≡ false → before ≡ Members test r keys n → before ≡ Members test r keys (n + 1)
members_same test r keys n taker before is fails so_far =
    so_far ∙ sym (members_more test r keys n taker false is fails ∙ append-nil (Members test r keys n))

-- one whose taker passes it is
pub members_pushed : (test : Option TakerView → Bool) (r : Resolved) (keys : List FieldKey) (n : ℕ) (taker : Option TakerView) (before after : List ℕ) → taker_at r (map key_of keys) n ≡ taker → test taker ≡ true → before ≡ Members test r keys n → after ≡ before ++ n ∷ [] → after ≡ Members test r keys (n + 1)
members_pushed test r keys n taker before after is passes so_far pushed =
    pushed ∙ ap (λ (xs : List ℕ). xs ++ n ∷ []) so_far ∙ sym (members_more test r keys n taker true is passes)

-- the only one of the members below an index that means a field, if there is one
abbrev pub IsOnlyBelow : Meaning → FieldView → ℕ → Option ℕ → Type 0
IsOnlyBelow meaning f n None = (member : ℕ) → member < n → meaning member ≢ Some f
IsOnlyBelow meaning f n (Some found) =
    (found < n) × (meaning found ≡ Some f) × ((member : ℕ) → member < n → meaning member ≡ Some f → member ≡ found)

-- an element between others
pub in_middle : {X : Type 0} (xs ys whole : List X) (y : X) → xs ++ y ∷ ys ≡ whole → Contains whole y
in_middle {X} xs ys whole y e = subst (λ (zs : List X). Contains zs y) e (Contains-append_right xs (y ∷ ys) y (0, omega arith, refl))

-- one more before the others
pub place_more : {A B : Type 0} (g : A → B) (xs ys : List A) (x : A) (rest whole : List B) → ys ≡ xs ++ x ∷ [] → map g xs ++ g x ∷ rest ≡ whole → map g ys ++ rest ≡ whole
place_more g xs ys x rest whole pushed before =
    ap (λ zs. map g zs ++ rest) pushed
    ∙ ap (λ zs. zs ++ rest) (map-append g xs (x ∷ []))
    ∙ append_assoc (map g xs) (g x ∷ []) rest
    ∙ before

-- one more value
pub well_more : (meaning : Meaning) (xs ys : List FieldValue) (x : FieldValue) → ys ≡ xs ++ x ∷ [] → All (IsValue meaning) xs → IsValue meaning x → All (IsValue meaning) ys
well_more meaning xs ys x pushed all here =
    subst (λ (vs : List FieldValue). All (IsValue meaning) vs) (sym pushed) (All-push (IsValue meaning) xs x all here)

-- a fault of the members that no field takes is one of the whole
pub others_mismatch : (r : Resolved) (keys : List Key) (fault : Mismatch) → IsOthersFault r keys fault → IsMismatch r keys fault
others_mismatch r keys (Unknown member key) h = h
others_mismatch r keys (Repeated field first second) h = absurd h
others_mismatch r keys (Missing field) h = absurd h
others_mismatch r keys OutOfMemory h = tt

-- it tells the first unknown key
pub others_unknown : (r : Resolved) (keys : List Key) (fault : Mismatch) → IsOthersFault r keys fault → TellsFirstUnknown r keys (Err fault)
others_unknown r keys (Unknown member key) h = sym (unknown_at r keys member (key_of key) h.first h.there h.unknown)
others_unknown r keys (Repeated field first second) h = absurd h
others_unknown r keys (Missing field) h = absurd h
others_unknown r keys OutOfMemory h = tt

-- a fault of a field tells no unknown key, where each key is taken
pub field_unknown : (r : Resolved) (keys : List Key) (fault : Mismatch) → AreTaken r keys → IsFieldFault r (meant_by r keys) fault → TellsFirstUnknown r keys (Err fault)
field_unknown r keys (Unknown member key) taken h = absurd h
field_unknown r keys (Repeated field first second) taken h = sym (none_unknown r keys taken)
field_unknown r keys (Missing field) taken h = sym (none_unknown r keys taken)
field_unknown r keys OutOfMemory taken h = tt

-- a fault of a field is one of the whole, where each key is taken
pub mismatch : (r : Resolved) (keys : List Key) (fault : Mismatch) → AreTaken r keys → IsFieldFault r (meant_by r keys) fault → IsMismatch r keys fault
mismatch r keys (Unknown member key) taken h = absurd h
mismatch r keys (Repeated field first second) taken h = (taken, h)
mismatch r keys (Missing field) taken h = (taken, h)
mismatch r keys OutOfMemory taken h = tt
