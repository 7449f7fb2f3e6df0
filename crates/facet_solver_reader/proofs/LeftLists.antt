-- Lists that are left: how many, and why none of them can be placed.
use Rattle.std.proofs.Common.{◌≡◌, ◌⊎◌, inl, inr, refl, sym, ap, subst, ◌∙◌, ℕ, zero, suc, ◌<◌, ◌+◌, ◌≤◌, arith, List, [], ◌∷◌, length, Bool, true, false, cond, Option, Some, None, MatchOption, slice_get, IsTrue, count_by, not, get_or, map}
use Rattle.std.specs.Bool.{⊤}
use Rattle.std.specs.List.{All, Any}
use Rattle.std.specs.Option.{is_none, is_some, option_map}
use Rattle.std.proofs.lemmas.Bool.{cases_lt, false≢true}
use Rattle.std.proofs.lemmas.List.Sums.{sum_by-cons}
use Rattle.std.proofs.lemmas.Option.{get_or_from_slice_get, same_Some, slice_get-get_or, slice_get-map, slice_get_read, slice_get_within}
use Rattle.facet_solver_shape.specs.Catalogues.{Catalogue}
use Rattle.facet_solver_reader.specs.declared.tables.every.EveryList.{EveryList}
use Rattle.facet_solver_reader.specs.declared.tables.every.Listed.{Listed}
use Rattle.facet_solver_reader.specs.declared.tables.List.{List as ListEntry}
use Rattle.facet_solver_reader.specs.declared.tables.order.Ordered.{Ordered}
use Rattle.facet_solver_reader.specs.EveryList.{AreEveryList, IsChosen, IsNumbered}
use Rattle.facet_solver_reader.specs.OrderedLists.{AreMarksClosed, AreOrdered, BranchIsMarked, BranchesAreMarked, ComesIn, IsBranchOf, IsMarked, IsPlacedAt}
use Rattle.facet_solver_reader.specs.Parts.{ListId, Part, a_member, a_selection, a_catch_all}
use Rattle.facet_solver_reader.specs.Placing.{IsLeft, IsOneMore, IsPlacing, IsStuck, IsPlacedSoFar, IsUnplaced, IsNext, PartIsPlaced, PartIsStuck, unplaced}
use Rattle.facet_solver_reader.specs.Slots.{AreFree, HasSlot, index_of}
use Rattle.facet_solver_reader.specs.Views.{list_view, parts_view}
use Rattle.facet_solver_reader.proofs.ChosenLists.{chosen_of_catalogue}
use Rattle.facet_solver_reader.proofs.Opened.{at_either}
use Rattle.facet_solver_reader.proofs.Quantifiers.{all_at, all_from, any_at, any_is_at}

-- ---- counts

-- a test that says less counts for no more
one_less : (a b : Bool) → (b ≡ true → a ≡ true) → cond {A = ℕ} b 1 0 ≤ cond {A = ℕ} a 1 0
one_less true true w = omega arith
one_less true false w = omega arith
one_less false false w = omega arith
one_less false true w = absurd (false≢true (w refl))

-- a count of fewer is no more
count_less : {X : Type 0} (f g : X → Bool) → ((x : X) → g x ≡ true → f x ≡ true) → (xs : List X)
    → count_by g xs ≤ count_by f xs
count_less f g w [] = omega arith
count_less {X} f g w (x ∷ xs) =
    let a = sum_by-cons (λ (x : X). cond {A = ℕ} (f x) 1 0) x xs in
    let b = sum_by-cons (λ (x : X). cond {A = ℕ} (g x) 1 0) x xs in
    let here = one_less (f x) (g x) (w x) in
    let rest = count_less f g w xs in
    omega (arith, a, b, here, rest)

-- a count that lacks one is less
count_fewer : {X : Type 0} (f g : X → Bool) → ((x : X) → g x ≡ true → f x ≡ true) → (xs : List X)
    (k : ℕ) (x : X) → slice_get xs k ≡ Some x → f x ≡ true → g x ≡ false
    → count_by g xs < count_by f xs
count_fewer f g w [] k x at p q = absurd (cc)
count_fewer {X} f g w (y ∷ xs) zero x at p q =
    let same : y ≡ x = same_Some y x at in
    let a = sum_by-cons (λ (x : X). cond {A = ℕ} (f x) 1 0) y xs in
    let b = sum_by-cons (λ (x : X). cond {A = ℕ} (g x) 1 0) y xs in
    let r = count_less f g w xs in
    let some : cond {A = ℕ} (f y) 1 0 ≡ 1 = ap (λ b. cond {A = ℕ} b 1 0) (ap f same ∙ p) in
    let none : cond {A = ℕ} (g y) 1 0 ≡ 0 = ap (λ b. cond {A = ℕ} b 1 0) (ap g same ∙ q) in
    omega (arith, a, b, r, some, none)
count_fewer {X} f g w (y ∷ xs) (suc k) x at p q =
    let a = sum_by-cons (λ (x : X). cond {A = ℕ} (f x) 1 0) y xs in
    let b = sum_by-cons (λ (x : X). cond {A = ℕ} (g x) 1 0) y xs in
    let here = one_less (f y) (g y) (w y) in
    let rest = count_fewer f g w xs k x at p q in
    omega (arith, a, b, here, rest)

-- what is none, and what is not
none_told : {X : Type 0} (o : Option X) → is_none o ≡ true → o ≡ None
none_told None e = refl
none_told (Some x) e = absurd (cc)

-- ---- one more is placed

module _ (shapes : Catalogue) (every : EveryList) (marks : List Bool) (old new : Ordered) where
  module _ (id : ListId) (more : IsOneMore old new id) (slot : HasSlot old.slots id) (none : index_of old.slots id ≡ None) where
    -- a list that is not placed now was not before
    still_none : (b : ListId) → index_of new.slots b ≡ None → index_of old.slots b ≡ None
    still_none b at = go (index_of old.slots b) refl
      where
        go : (i : Option ℕ) → index_of old.slots b ≡ i → index_of old.slots b ≡ None
        go None e = e
        go (Some j) e =
            let kept : index_of new.slots b ≡ index_of old.slots b =
            more.set.others b (λ same. let s = ap (index_of old.slots) same in let f : Some j ≡ None = sym e ∙ s ∙ none in cc) in
            let f : Some j ≡ None = sym e ∙ sym kept ∙ at in
            absurd (cc)

    pub fewer_left : (number : ℕ) (l : Listed) → slice_get every.lists.items number ≡ Some l
        → list_view l.id ≡ id → unplaced every new < unplaced every old
    fewer_left number l there is_of =
        count_fewer (λ (l : Listed). is_none (index_of old.slots (list_view l.id))) (λ (l : Listed). is_none (index_of new.slots (list_view l.id)))
        (λ l e. ap is_none (still_none (list_view l.id) (none_told (index_of new.slots (list_view l.id)) e)))
        every.lists.items number l there
        (ap (λ q. is_none (index_of old.slots q)) is_of ∙ ap is_none none)
        (ap (λ q. is_none (index_of new.slots q)) is_of ∙ ap is_none (more.set.given slot))

    -- so the order is under way still
    pub under_way_more : IsPlacedSoFar shapes every marks old → IsPlacing shapes new
        → (number : ℕ) → index_of every.numbers id ≡ Some number → IsMarked marks number
        → IsPlacedSoFar shapes every marks new
    under_way_more h placing number own marked = record {
      placing = placing;
      slots_are = λ q c. (more.set.same_slots q).0 (h.slots_are q c);
      from_marked = λ index l at. go index l (at_either old.lists.items (more.entry ∷ []) index l (subst (λ ls. slice_get ls index ≡ Some l) more.lists at));
    }
      where
        only : (k : ℕ) (l : ListEntry) → slice_get (more.entry ∷ []) k ≡ Some l → more.entry ≡ l
        only zero l there = same_Some more.entry l there
        only (suc k) l there = absurd (cc)

        go : (index : ℕ) (l : ListEntry)
            → (slice_get old.lists.items index ≡ Some l)
            ⊎ ((k : ℕ) × (index ≡ length old.lists.items + k) × (slice_get (more.entry ∷ []) k ≡ Some l))
            → (number : ℕ) × (index_of every.numbers (list_view l.id) ≡ Some number) × IsMarked marks number
        go index l (inl there) = h.from_marked index l there
        go index l (inr there) =
            (number, ap (λ (l : ListEntry). index_of every.numbers (list_view l.id)) (sym (only there.0 l there.2)) ∙ ap (index_of every.numbers) more.is_of ∙ own, marked)

-- ---- the way that goes on

module _ (shapes : Catalogue) (every : EveryList) (marks : List Bool) (o : Ordered) (listed : AreEveryList shapes every) where
  -- where none is left, all are ordered
  pub ordered_all : IsPlacedSoFar shapes every marks o → ((number : ℕ) → ¬ IsLeft every marks o number)
      → AreOrdered shapes every marks o
  ordered_all h none = record {
    placed = h.placing.placed;
    at = h.placing.at;
    from_marked = h.from_marked;
    marked = λ number l there marked. go number l there marked (index_of o.slots (list_view l.id)) refl;
  }
    where
      go : (number : ℕ) (l : Listed) → slice_get every.lists.items number ≡ Some l → IsMarked marks number
          → (i : Option ℕ) → index_of o.slots (list_view l.id) ≡ i
          → (index : ℕ) × (index_of o.slots (list_view l.id) ≡ Some index)
      go number l there marked None e = absurd (none number (record { list = l; is_there = there; marked = marked; unplaced = e }))
      go number l there marked (Some i) e = (i, e)

  module _ (closed : AreMarksClosed shapes every marks) where
    -- a list that is left has a choice and is not placed
    pub unplaced_left : (number : ℕ) (l : IsLeft every marks o number) → IsUnplaced shapes o (list_view l.list.id)
    unplaced_left number l =
        ((listed.listed number l.list l.is_there).chosen.0 (closed.chosen number l.list l.is_there l.marked), l.unplaced)

    module _ (stuck : (number : ℕ) → IsStuck shapes every marks o number) where
      -- a branch that is not placed, and the mark that it has
      branch_stuck : (p : Part) → PartIsStuck shapes o p
          → (b : ListId) × IsBranchOf b p × IsUnplaced shapes o b
          × (BranchesAreMarked shapes every marks p → BranchIsMarked shapes every marks b)
      branch_stuck (a_member m) h = absurd h
      branch_stuck (a_catch_all c) h = absurd h
      branch_stuck (a_selection s) h = (
        h.1,
        (h.0, h.1, h.2, h.3, refl),
        h.4,
        λ all. all_at (BranchIsMarked shapes every marks) s.branches h.0 h.1 all (any_is_at (IsUnplaced shapes o) s.branches h),
      )

      -- the list of a number
      numbered_at : (id : ListId) (number : ℕ) → index_of every.numbers id ≡ Some number → IsNumbered every id number
      numbered_at id number e = subst (λ i. MatchOption i (IsChosen shapes id → ⊥) (IsNumbered every id)) e (listed.numbered id)

      -- from a list that is left the way goes on
      pub goes_on : (n number : ℕ) (l : IsLeft every marks o number)
          → (last : ListId) × ComesIn n shapes (list_view l.list.id) last
      goes_on zero number l = (list_view l.list.id, refl)
      goes_on (suc n) number l =
          let ps = parts_view l.list.parts.items in
          let a = stuck number l in
          let at = any_is_at (PartIsStuck shapes o) ps a in
          let b = branch_stuck a.1 a.4 in
          let marked = b.3 (all_at (BranchesAreMarked shapes every marks) ps a.0 a.1 (closed.branches number l.list l.is_there l.marked) at) b.2.0 in
          let there = numbered_at b.0 marked.0 marked.1 in
          let left : IsLeft every marks o marked.0 =
          record { list = there.list; is_there = there.is_there; marked = marked.2; unplaced = ap (index_of o.slots) there.same ∙ b.2.1 } in
          let on = goes_on n marked.0 left in (
            on.0,
            (
              b.0,
              record {
                parts = ps;
                parts_are = (listed.listed number l.list l.is_there).same;
                is_branch = any_at (IsBranchOf b.0) ps a.0 a.1 at b.1;
                chosen = b.2.0;
              },
              subst (λ q. ComesIn n shapes q on.0) there.same on.1,
            ),
          )

-- ---- rounds

-- lists before a number are placed, or stuck where none was placed
pub record AreMoreUpto (shapes : Catalogue) (every : EveryList) (marks : List Bool) (first now : Ordered) (has_more : Bool) (n : ℕ) : Type 0 where
  pub under_way : IsPlacedSoFar shapes every marks now
  pub no_more : unplaced every now ≤ unplaced every first
  pub fewer : IsTrue has_more → unplaced every now < unplaced every first
  pub stuck : has_more ≡ false → (k : ℕ) → k < n → IsStuck shapes every marks now k

module _ (shapes : Catalogue) (every : EveryList) (marks : List Bool) (first : Ordered) where
  pub upto_none : IsPlacedSoFar shapes every marks first → AreMoreUpto shapes every marks first first false 0
  upto_none h = record {
    under_way = h;
    no_more = omega arith;
    fewer = λ t. absurd (false≢true t);
    stuck = λ e k less. absurd (omega arith);
  }

  pub upto_as : (now other : Ordered) (b c : Bool) (n : ℕ) → other ≡ now → c ≡ b
      → AreMoreUpto shapes every marks first now b n → AreMoreUpto shapes every marks first other c n
  upto_as now other b c n same told h =
      subst (λ o. AreMoreUpto shapes every marks first o c n) (sym same)
      (subst (λ b. AreMoreUpto shapes every marks first now b n) (sym told) h)

  pub upto_stuck : (now : Ordered) (b : Bool) (n : ℕ) → AreMoreUpto shapes every marks first now b n
      → IsStuck shapes every marks now n → AreMoreUpto shapes every marks first now b (n + 1)
  upto_stuck now b n h s = record {
    under_way = h.under_way;
    no_more = h.no_more;
    fewer = h.fewer;
    stuck = λ e k less. elim (cases_lt k n) [
      | inl low ↦ h.stuck e k low
      | inr high ↦
          let here : n ≡ k = omega (arith, less, high) in
          subst (IsStuck shapes every marks now) here s
    ];
  }

  pub upto_placed : (now new : Ordered) (b : Bool) (n : ℕ) (l : Listed)
      → AreEveryList shapes every → AreMoreUpto shapes every marks first now b n
      → slice_get every.lists.items n ≡ Some l → IsMarked marks n
      → IsUnplaced shapes now (list_view l.id) → HasSlot now.slots (list_view l.id)
      → IsOneMore now new (list_view l.id) → IsPlacing shapes new
      → AreMoreUpto shapes every marks first new true (n + 1)
  upto_placed now new b n l listed h there marked lacking slot more placing =
      let less = fewer_left shapes every marks now new (list_view l.id) more slot lacking.1 n l there refl in
      let was = h.no_more in
      record {
        under_way = under_way_more shapes every marks now new (list_view l.id) more slot lacking.1 h.under_way placing n (listed.own n l there) marked;
        no_more = omega (arith, less, was);
        fewer = λ t. omega (arith, less, was);
        stuck = λ e k low. absurd (false≢true (sym e));
      }

  -- after the last list each is stuck that is left, where none was placed
  pub stuck_all : (now : Ordered) (b : Bool) (n : ℕ) → length every.lists.items ≤ n
      → AreMoreUpto shapes every marks first now b n
      → b ≡ false → (number : ℕ) → IsStuck shapes every marks now number
  stuck_all now b n all h e k left =
      let within = slice_get_within every.lists.items k left.list left.is_there in
      h.stuck e k (omega (arith, within, all)) left

-- ---- a list that is left

module _ (shapes : Catalogue) (every : EveryList) (marks : List Bool) (o : Ordered) (listed : AreEveryList shapes every) (closed : AreMarksClosed shapes every marks) (number : ℕ) (left : IsLeft every marks o number) (x : Listed) (there : slice_get every.lists.items number ≡ Some x) where
  same_left : left.list ≡ x
  same_left = same_Some left.list x (sym left.is_there ∙ there)

  pub unplaced_at : IsUnplaced shapes o (list_view x.id)
  unplaced_at = subst (λ (l : Listed). IsUnplaced shapes o (list_view l.id)) same_left (unplaced_left shapes every marks o listed closed number left)

  pub next_at : All (PartIsPlaced shapes o) (parts_view x.parts.items) → IsNext shapes o (list_view x.id)
  next_at ready ps e = subst (All (PartIsPlaced shapes o)) (same_Some (parts_view x.parts.items) ps (sym (listed.listed number x there).same ∙ e)) ready

  pub slot_at : IsPlacedSoFar shapes every marks o → HasSlot o.slots (list_view x.id)
  slot_at h = h.slots_are (list_view x.id) (chosen_of_catalogue shapes (list_view x.id) unplaced_at.0)

-- a list that is stuck
pub stuck_at : (shapes : Catalogue) (every : EveryList) (marks : List Bool) (o : Ordered) (number : ℕ) (x : Listed)
    → slice_get every.lists.items number ≡ Some x → Any (PartIsStuck shapes o) (parts_view x.parts.items)
    → IsStuck shapes every marks o number
stuck_at shapes every marks o number x there some left =
    let same : x ≡ left.list = same_Some x left.list (sym there ∙ left.is_there) in
    subst (λ (l : Listed). Any (PartIsStuck shapes o) (parts_view l.parts.items)) same some

-- ---- no lists

-- where no list is placed the order is under way
pub none_placed : (shapes : Catalogue) (every : EveryList) (marks : List Bool) (o : Ordered)
    → o.lists.items ≡ [] → AreFree shapes o.slots → IsPlacedSoFar shapes every marks o
none_placed shapes every marks o empty free = record {
  placing = record {
    placed = λ index l at. absurd (no_entry index l at);
    at = λ id. subst (λ i. MatchOption i ⊤ (IsPlacedAt o id)) (sym (free.free id)) tt;
    ready = λ index l at. absurd (no_entry index l at);
  };
  from_marked = λ index l at. absurd (no_entry index l at);
  slots_are = free.slots_are;
}
  where
    no_entry : (index : ℕ) (l : ListEntry) → slice_get o.lists.items index ≡ Some l → ⊥
    no_entry index l at =
        let within = slice_get_within o.lists.items index l at in
        omega (arith, within, ap (λ (ls : List ListEntry). length ls) empty)

-- ---- what is read of marks and of what is left

-- what a test for an index says
pub none_by_test : {X : Type 0} (o : Option X) (b : Bool) → is_some o ≡ not b → b ≡ true → o ≡ None
none_by_test None b e t = refl
none_by_test (Some x) b e t = let f : true ≡ not true = e ∙ ap not t in absurd (cc)

pub not_none : {X : Type 0} (o : Option X) (b : Bool) → is_some o ≡ not b → b ≡ false → o ≡ None → ⊥
not_none None b e f n = let g : false ≡ not false = e ∙ ap not f in cc
not_none (Some x) b e f n = cc

-- a mark that is read
pub marked_read : (marks : List Bool) (n m : ℕ) → length marks ≡ m → n < m → get_or marks n false ≡ true → IsMarked marks n
marked_read marks n m long within e =
    slice_get-get_or marks n false (omega (arith, long, within)) ∙ ap Some e

pub unmarked_read : (marks : List Bool) (n : ℕ) → get_or marks n false ≡ false → IsMarked marks n → ⊥
unmarked_read marks n e m = false≢true (sym e ∙ get_or_from_slice_get marks n true false m)

-- one element more
pub each_more : {X : Type 0} (P : X → Type 0) (xs : List X) (i : ℕ) (x : X) → i < length xs
    → x ≡ get_or xs i x
    → ((k : ℕ) (y : X) → k < i → slice_get xs k ≡ Some y → P y) → P x
    → (k : ℕ) (y : X) → k < i + 1 → slice_get xs k ≡ Some y → P y
each_more P xs i x within is h p k y less at = elim (cases_lt k i) [
  | inl low ↦ h k y low at
  | inr high ↦
      let here : k ≡ i = omega (arith, less, high) in
      let same : x ≡ y = same_Some x y (sym (slice_get_read xs (length xs) i x refl within is) ∙ ap (slice_get xs) (sym here) ∙ at) in
      subst P same p
]

-- each element, as it is seen
pub all_viewed : {X Y : Type 0} (see : X → Y) (P : Y → Type 0) (xs : List X) (n : ℕ) → length xs ≤ n
    → ((k : ℕ) (x : X) → k < n → slice_get xs k ≡ Some x → P (see x)) → All P (map see xs)
all_viewed {X = X} {Y = Y} see P xs n all h =
    all_from P (map see xs) (λ k y at. go k y (slice_get xs k) refl (sym (slice_get-map see xs k) ∙ at))
  where
    go : (k : ℕ) (y : Y) (o : Option X) → slice_get xs k ≡ o → option_map see o ≡ Some y → P y
    go k y None e at = absurd (cc)
    go k y (Some x) e at =
        let within = slice_get_within xs k x e in
        subst P (same_Some (see x) y at) (h k x (omega (arith, within, all)) e)
