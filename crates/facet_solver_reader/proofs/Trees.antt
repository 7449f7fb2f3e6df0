-- Values inside values: children, members and places.
use Rattle.std.proofs.Common.{◌≡◌, ℕ, zero, suc, ◌+◌, ◌<◌, Bool, true, false, cond, List, [], ◌∷◌, map, length, Some, slice_get, get_or, refl, sym, ap, ◌∙◌, arith, Contains, IsPermutation, bytes_eq, subst}
use Rattle.std.specs.Borrow.{Bor}
use Rattle.std.specs.declared.vec.Vec.{Vec}
use Rattle.std.specs.declared.alloc.Global.{Global}
use Rattle.std.specs.Option.{option_map, option_and_then}
use Rattle.std.proofs.lemmas.Option.{slice_get-map, slice_get_read, same_Some}
use Rattle.std.proofs.lemmas.List.{length-map}
use Rattle.std.proofs.lemmas.List.Sorted.{Contains-permutation, IsPermutation-map, IsPermutation-sym}
use Rattle.std.proofs.lemmas.Slice.Eq.{bytes_eq-Decides}
use Rattle.facet_solver_shape.specs.Catalogues.{RepeatsName}
use Rattle.facet_solver_shape.specs.Names.{Name, names_of}
use Rattle.facet_solver_shape.proofs.RepeatedNames.{RepeatsName-permutation}
use Rattle.facet_solver_reader.specs.declared.document.Document.{Document}
use Rattle.facet_solver_reader.specs.declared.document.Document.TheVariants as code
use Rattle.facet_solver_reader.specs.declared.document.Document.TheOpen.{Document-F}
use Rattle.facet_solver_reader.specs.declared.document.Document.TheViews.{roll-Document}
use Rattle.facet_solver_reader.specs.declared.document.Document.TheFolds.{fold-roll-Document, ind-Document, map-Document}
use Rattle.facet_solver_reader.specs.Documents.{Tree, null, truth, number, text, list, object, Member, items, members, items_of, view, view_step, items_view, members_view}
use Rattle.facet_solver_reader.specs.Objects.{find}
use Rattle.facet_solver_reader.specs.Places.{PlaceStep, to_member, to_item, inside, at, names_in}
use Rattle.facet_solver_reader.specs.Nodes.{children, members_in, numbered, entries, names_among, Named}
use Rattle.facet_solver_reader.proofs.NodeNames.{at_contained, contains_at}

-- ---- what memory says

-- a list and an object in memory
pub view-List : (ds : Vec Document Global) → view (code.List ds) ≡ list (items_view ds.items)
view-List ds = ap view (sym (code.rolls-List ds)) ∙ fold-roll-Document Tree view_step (Document-F.List ds)

pub view-Object : (ms : Vec (Bor Name × Document) Global) → view (code.Object ms) ≡ object (members_view ms.items)
view-Object ms = ap view (sym (code.rolls-Object ms)) ∙ fold-roll-Document Tree view_step (Document-F.Object ms)

-- the values of a list in memory
pub items-of : (ts : List Tree) → items (items_of ts) ≡ ts
items-of [] = refl
items-of (t ∷ ts) = ap (λ us. t ∷ us) (items-of ts)

pub items-view : (ds : List Document) → items (items_view ds) ≡ map view ds
items-view ds = items-of (map view ds)

-- the values of members in memory
pub values-view : (ms : List (Bor Name × Document)) → map (λ m. m.value) (members (members_view ms)) ≡ map (λ m. view m.1) ms
values-view [] = refl
values-view (m ∷ ms) = ap (λ us. view m.1 ∷ us) (values-view ms)

-- a member in memory
pub member-view : (ms : List (Bor Name × Document)) → members (members_view ms) ≡ map (λ m. record { name = m.0.now; value = view m.1 }) ms
member-view [] = refl
member-view (m ∷ ms) = let first : Member = record { name = m.0.now; value = view m.1 } in ap (λ us. first ∷ us) (member-view ms)

-- ---- members by name

bytes_same : (x : Name) → bytes_eq x x ≡ true
bytes_same x = (bytes_eq-Decides x x).1 refl

-- a name that stands twice among those after the first stands twice
later_repeats : (x : Name) (xs : List Name) → RepeatsName xs → RepeatsName (x ∷ xs)
later_repeats x xs twice = record {
  name = twice.name;
  first = suc twice.first;
  second = suc twice.second;
  apart = omega (arith, twice.apart);
  at_first = twice.at_first;
  at_second = twice.at_second;
}

-- the first of a list, and one after it
find_here : (n m : Member) (ms : List Member) → n ≡ m → find (n ∷ ms) m.name ≡ Some m.value
find_here n m ms same = go (bytes_eq n.name m.name) refl
  where
    go : (b : Bool) → bytes_eq n.name m.name ≡ b → cond b (Some n.value) (find ms m.name) ≡ Some m.value
    go true e = ap (λ (o : Member). Some o.value) same
    go false e = absurd (let tie = bytes_same m.name in let other : bytes_eq m.name m.name ≡ false = ap (λ (o : Member). bytes_eq o.name m.name) (sym same) ∙ e in cc)

find_later : (n m : Member) (ms : List Member) → ¬ (n.name ≡ m.name) → find ms m.name ≡ Some m.value → find (n ∷ ms) m.name ≡ Some m.value
find_later n m ms other found = go (bytes_eq n.name m.name) refl
  where
    go : (b : Bool) → bytes_eq n.name m.name ≡ b → cond b (Some n.value) (find ms m.name) ≡ Some m.value
    go true e = absurd (other ((bytes_eq-Decides n.name m.name).0 e))
    go false e = found

-- a name that stands first and later stands twice
repeats_first : (n m : Member) (ms : List Member) (k : ℕ) → slice_get ms k ≡ Some m → n.name ≡ m.name → RepeatsName (names_in (n ∷ ms))
repeats_first n m ms k there same = record {
  name = m.name;
  first = 0;
  second = suc k;
  apart = omega arith;
  at_first = ap Some same;
  at_second = slice_get-map (λ (o : Member). o.name) ms k ∙ ap (option_map (λ (o : Member). o.name)) there;
}

-- where no name stands twice, a member is the first of its name
pub find-at : (ms : List Member) (k : ℕ) (m : Member) → ¬ RepeatsName (names_in ms) → slice_get ms k ≡ Some m → find ms m.name ≡ Some m.value
find-at [] k m apart there = absurd (cc)
find-at (n ∷ ms) zero m apart there = find_here n m ms (same_Some n m there)
find-at (n ∷ ms) (suc k) m apart there =
    find_later n m ms (λ same. apart (repeats_first n m ms k there same)) (find-at ms k m (λ twice. apart (later_repeats n.name (names_in ms) twice)) there)

-- a member that is found stands at an index
abbrev pub IsNamedMember : List Member → Name → Tree → Type 0
IsNamedMember ms x v = (k : ℕ) × (m : Member) × (slice_get ms k ≡ Some m) × (m.name ≡ x) × (m.value ≡ v)

found_first : (n : Member) (ms : List Member) (x : Name) (v : Tree) → find (n ∷ ms) x ≡ Some v → (find ms x ≡ Some v → IsNamedMember ms x v) → IsNamedMember (n ∷ ms) x v
found_first n ms x v found more = go (bytes_eq n.name x) refl found
  where
    go : (b : Bool) → bytes_eq n.name x ≡ b → cond b (Some n.value) (find ms x) ≡ Some v → IsNamedMember (n ∷ ms) x v
    go true e here = (0, n, refl, (bytes_eq-Decides n.name x).0 e, same_Some n.value v here)
    go false e later = let deep = more later in (suc deep.0, deep.1, deep.2, deep.3, deep.4)

pub found_at : (ms : List Member) (x : Name) (v : Tree) → find ms x ≡ Some v → IsNamedMember ms x v
found_at [] x v found = absurd (cc)
found_at (n ∷ ms) x v found = found_first n ms x v found (found_at ms x v)

-- ---- members with the numbers of their values

pub numbered-at : (first : ℕ) (ms : List Member) (k : ℕ) (m : Member) → slice_get ms k ≡ Some m → slice_get (numbered first ms) k ≡ Some (m.name, first + k)
numbered-at first [] k m at = absurd (cc)
numbered-at first (n ∷ ms) zero m at = let here : first ≡ first + 0 = omega arith in ap Some (λ i. ((same_Some n m at i).name, here i))
numbered-at first (n ∷ ms) (suc k) m at =
    let more : (first + 1) + k ≡ first + suc k = omega arith in
    numbered-at (first + 1) ms k m at ∙ ap (λ j. Some (m.name, j)) more

pub at-numbered : (first : ℕ) (ms : List Member) (k : ℕ) (e : Name × ℕ) → slice_get (numbered first ms) k ≡ Some e → (m : Member) × (slice_get ms k ≡ Some m) × (m.name ≡ e.0) × (first + k ≡ e.1)
at-numbered first [] k e at = absurd (cc)
at-numbered first (n ∷ ms) zero e at =
    let same = same_Some (n.name, first) e at in
    (n, refl, ap (λ (d : Name × ℕ). d.0) same, let here : first ≡ e.1 = ap (λ (d : Name × ℕ). d.1) same in omega arith)
at-numbered first (n ∷ ms) (suc k) e at =
    let deep = at-numbered (first + 1) ms k e at in
    (deep.0, deep.1, deep.2, let there : (first + 1) + k ≡ e.1 = deep.3 in omega arith)

names-numbered : (first : ℕ) (ms : List Member) → map (λ e. e.0) (numbered first ms) ≡ names_in ms
names-numbered first [] = refl
names-numbered first (m ∷ ms) = ap (λ ns. m.name ∷ ns) (names-numbered (first + 1) ms)

names-entries : (es : Named) → map (λ e. e.0) (entries es) ≡ names_of (names_among es)
names-entries [] = refl
names-entries (e ∷ es) = ap (λ ns. e.0.now ∷ ns) (names-entries es)

-- names of members, in another order
module _ (ms : List Member) (first : ℕ) (es : Named) (same : IsPermutation (numbered first ms) (entries es)) where
  pub same_names : IsPermutation (names_in ms) (names_of (names_among es))
  same_names =
      let moved = IsPermutation-map (λ (e : Name × ℕ). e.0) (numbered first ms) (entries es) same in
      subst (λ ns. IsPermutation (names_in ms) ns) (names-entries es) (subst (λ ns. IsPermutation ns (map (λ (e : Name × ℕ). e.0) (entries es))) (names-numbered first ms) moved)

  -- a name stands twice in the one where it does in the other
  pub repeats_sorted : RepeatsName (names_in ms) → RepeatsName (names_of (names_among es))
  repeats_sorted twice = RepeatsName-permutation _ _ same_names twice

  pub entry_of_member : (k : ℕ) (m : Member) → slice_get ms k ≡ Some m → Contains (entries es) (m.name, first + k)
  entry_of_member k m at = Contains-permutation (numbered first ms) (entries es) (m.name, first + k) same (contains_at (numbered first ms) k (m.name, first + k) (numbered-at first ms k m at))

  pub member_of_entry : (x : Name) (n : ℕ) → Contains (entries es) (x, n) → (k : ℕ) × (m : Member) × (slice_get ms k ≡ Some m) × (m.name ≡ x) × (first + k ≡ n)
  member_of_entry x n held =
      let there = Contains-permutation (entries es) (numbered first ms) (x, n) (IsPermutation-sym (numbered first ms) (entries es) same) held in
      let one = at-numbered first ms there.0 (x, n) (at_contained (numbered first ms) (x, n) there) in
      (there.0, one.0, one.1, one.2, one.3)

-- ---- places

-- where a step leads, a child stands
pub child_inside : (v : Tree) (s : PlaceStep) (c : Tree) → inside v s ≡ Some c → (k : ℕ) × (slice_get (children v) k ≡ Some c)
child_inside (object ms) (to_member x) c e =
    let one = found_at (members ms) x c e in
    (one.0, slice_get-map (λ (m : Member). m.value) (members ms) one.0 ∙ ap (option_map (λ (m : Member). m.value)) one.2 ∙ ap Some one.4)
child_inside (list ts) (to_item k) c e = (k, e)
child_inside null s c e = absurd (cc)
child_inside (truth b) s c e = absurd (cc)
child_inside (number n) s c e = absurd (cc)
child_inside (text x) s c e = absurd (cc)
child_inside (object ms) (to_item k) c e = absurd (cc)
child_inside (list ts) (to_member x) c e = absurd (cc)

-- the value of a member is a child
pub child_of_member : (v : Tree) (k : ℕ) (m : Member) → slice_get (members_in v) k ≡ Some m
    → slice_get (children v) k ≡ Some m.value
child_of_member (object ms) k m at =
    slice_get-map (λ (m : Member). m.value) (members ms) k
    ∙ ap (option_map (λ (m : Member). m.value)) at
child_of_member null k m at = absurd (cc)
child_of_member (truth b) k m at = absurd (cc)
child_of_member (number n) k m at = absurd (cc)
child_of_member (text x) k m at = absurd (cc)
child_of_member (list ts) k m at = absurd (cc)

-- one step more, before others
pub at-step : (v w : Tree) (s : PlaceStep) (rest : List PlaceStep) → inside v s ≡ Some w → at v (s ∷ rest) ≡ at w rest
at-step v w s rest e = ap (option_and_then (λ u. at u rest)) e

-- as many members as in memory
pub long_members : (ms : List (Bor Name × Document)) → length (members (members_view ms)) ≡ length ms
long_members ms =
    ap length (member-view ms)
    ∙ length-map ms (λ (m : Bor Name × Document). let one : Member = record { name = m.0.now; value = view m.1 } in one)

pub long_object : (ms : Vec (Bor Name × Document) Global) (v : Tree) → v ≡ view (code.Object ms)
    → length (members_in v) ≡ length ms.items
long_object ms v is =
    ap (λ u. length (members_in u)) (is ∙ view-Object ms) ∙ long_members ms.items

-- the member of an index in memory
pub member_read : (ms : List (Bor Name × Document)) (k : ℕ) (m : Bor Name × Document) → k < length ms → m ≡ get_or ms k m → slice_get (members (members_view ms)) k ≡ Some (record { name = m.0.now; value = view m.1 })
member_read ms k m within is =
    let seen : Bor Name × Document → Member = λ m. record { name = m.0.now; value = view m.1 } in
    ap (λ us. slice_get us k) (member-view ms) ∙ slice_get-map seen ms k ∙ ap (option_map seen) (slice_get_read ms (length ms) k m refl within is)

-- what is no object has items, if it has children
abbrev ItemsInside : Document → Tree → Type 0
ItemsInside d v = (k : ℕ) (c : Tree) → ((ms : Vec (Bor Name × Document) Global) → d ≡ code.Object ms → ⊥) → slice_get (children v) k ≡ Some c → inside v (to_item k) ≡ Some c

items_step : (x : Document-F Document) → ItemsInside (roll-Document x) (view_step (map-Document Document Tree view x))
items_step Document-F.Null k c other there = absurd (cc)
items_step (Document-F.Bool b) k c other there = absurd (cc)
items_step (Document-F.Number n) k c other there = absurd (cc)
items_step (Document-F.Text x) k c other there = absurd (cc)
items_step (Document-F.List ds) k c other there = there
items_step (Document-F.Object ms) k c other there = absurd (other ms (code.rolls-Object ms))

pub item_inside : (d : Document) → ItemsInside d (view d)
item_inside = ind-Document (λ d. ItemsInside d (view d)) (λ x y is. subst (ItemsInside (roll-Document x)) (sym (fold-roll-Document Tree view_step x)) (items_step x))

-- what is no object has no members
abbrev HasNoMembers : Document → Tree → Type 0
HasNoMembers d v =
    ((ms : Vec (Bor Name × Document) Global) → d ≡ code.Object ms → ⊥) → members_in v ≡ []

no_members_step : (x : Document-F Document)
    → HasNoMembers (roll-Document x) (view_step (map-Document Document Tree view x))
no_members_step Document-F.Null other = refl
no_members_step (Document-F.Bool b) other = refl
no_members_step (Document-F.Number n) other = refl
no_members_step (Document-F.Text x) other = refl
no_members_step (Document-F.List ds) other = refl
no_members_step (Document-F.Object ms) other = absurd (other ms (code.rolls-Object ms))

pub no_members : (d : Document) → HasNoMembers d (view d)
no_members =
    ind-Document (λ d. HasNoMembers d (view d))
    (λ x y is.
    subst (HasNoMembers (roll-Document x)) (sym (fold-roll-Document Tree view_step x))
    (no_members_step x))

-- what is no list and no object has nothing inside it
abbrev NothingInside : Document → Tree → Type 0
NothingInside d v = ((ds : Vec Document Global) → d ≡ code.List ds → ⊥) → ((ms : Vec (Bor Name × Document) Global) → d ≡ code.Object ms → ⊥) → (children v ≡ []) × (members_in v ≡ [])

nothing_step : (x : Document-F Document) → NothingInside (roll-Document x) (view_step (map-Document Document Tree view x))
nothing_step Document-F.Null no_list no_object = (refl, refl)
nothing_step (Document-F.Bool b) no_list no_object = (refl, refl)
nothing_step (Document-F.Number n) no_list no_object = (refl, refl)
nothing_step (Document-F.Text x) no_list no_object = (refl, refl)
nothing_step (Document-F.List ds) no_list no_object = absurd (no_list ds (code.rolls-List ds))
nothing_step (Document-F.Object ms) no_list no_object = absurd (no_object ms (code.rolls-Object ms))

pub nothing_inside : (d : Document) → NothingInside d (view d)
nothing_inside = ind-Document (λ d. NothingInside d (view d)) (λ x y is. subst (NothingInside (roll-Document x)) (sym (fold-roll-Document Tree view_step x)) (nothing_step x))
