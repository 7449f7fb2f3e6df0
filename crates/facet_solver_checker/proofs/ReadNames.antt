-- How members of an object are read by the items of a choice.
use Rattle.std.proofs.Common.{◌≡◌, ◌∙◌, sym, ap, subst, refl, inl, inr, ⊎_elim, ◌⊎◌, ℕ, zero, suc}
use Rattle.std.proofs.Common.{List, [], ◌∷◌, Option, Some, None, Bool, true, false, ◌||◌, slice_get}
use Rattle.std.proofs.Common.{IsTrue, if◌then◌else◌}
use Rattle.std.specs.List.{filter_map, list_any, list_all}
use Rattle.std.specs.Option.{option_map_or}
use Rattle.std.specs.Str.{bytes_eq}
use Rattle.std.proofs.lemmas.Slice.Eq.{bytes_eq-Decides}
use Rattle.facet_solver_shape.specs.Catalogues.{Catalogue}
use Rattle.facet_solver_shape.specs.Names.{Name}
use Rattle.facet_solver_reader.specs.declared.plan.PlannedCatchAll.{PlannedCatchAll}
use Rattle.facet_solver_reader.specs.declared.plan.PlannedCatchAll.TheVariants as caught
use Rattle.facet_solver_reader.specs.declared.plan.PlannedList.{PlannedList}
use Rattle.facet_solver_reader.specs.declared.plan.PlannedPart.{PlannedPart}
use Rattle.facet_solver_reader.specs.declared.plan.PlannedPart.TheVariants as planned
use Rattle.facet_solver_reader.specs.Choices.{Item, member_of, catch_all_of, presence_of, Reading}
use Rattle.facet_solver_reader.specs.Choices.{Taken, none_left, passing, taken}
use Rattle.facet_solver_reader.specs.Documents.{Member, Tree}
use Rattle.facet_solver_reader.specs.Known.{Chooses, HasKey, IsKnown, Key, named, rest}
use Rattle.facet_solver_reader.specs.Objects.{Agrees, HasNamed, IsUnknown, Object, Reads}
use Rattle.facet_solver_reader.specs.Objects.{ReadsMember, Takes, TakesRest, find}
use Rattle.facet_solver_reader.specs.Parts.{CatchAll, of_map, of_anything, MemberPart, of_shape}
use Rattle.facet_solver_reader.specs.Plans.{IsNumberOf, IsPlannedCatchAll, Meaning}
use Rattle.facet_solver_reader.specs.Rules.{Rules}
use Rattle.facet_solver_reader.specs.Types.{is_key}
use Rattle.facet_solver_checker.specs.PlanMembers.{HasPart, HaveParts, IsIn, IsPartOf, IsReadAmong}
use Rattle.facet_solver_checker.specs.PlanMembers.{targets_below}
use Rattle.facet_solver_checker.specs.Requires.{HasRequired}
use Rattle.facet_solver_checker.specs.Ways.{taken_at, taken_below, taken_in, takes_any}
use Rattle.facet_solver_checker.specs.Ways.{takes_any_at, takes_any_below, takes_any_in}
use Rattle.facet_solver_checker.specs.Ways.{target_taken}
use Rattle.facet_solver_checker.proofs.Among.{in_filter_map, in_flat_map}
use Rattle.facet_solver_checker.proofs.PlanMembers.{target_among}

-- two names of one key are one
same_name : (x y : Name) → named x ≡ named y → x ≡ y
same_name x y e = cc

-- a test passes at some element where it passes at one
pub some_passes : {X : Type 0} (p : X → Bool) (x : X) → p x ≡ true → (xs : List X) → IsIn x xs
    → list_any p xs ≡ true
some_passes p x e [] (k, at) = absurd (cc)
some_passes p x e (y ∷ xs) (zero, at) =
    let same : y ≡ x = cc in
    ap (λ b. b || list_any p xs) (ap p same ∙ e)
some_passes p x e (y ∷ xs) (suc k, at) = or_true (p y) (some_passes p x e xs (k, at))
  where
    or_true : {b : Bool} (a : Bool) → b ≡ true → (a || b) ≡ true
    or_true true h = refl
    or_true false h = h

module _ (m : Meaning) (lists : List PlannedList) (below : List ℕ) (reads : Reads)
    (object : Object) where
  -- a member is read as a target of its name
  member_read : (x : Name) (v : Tree) → find object.members x ≡ Some v → (part : MemberPart)
      (r : Option Reading) → part.name ≡ x → HasPart m lists below (member_of part r)
      → ReadsMember reads part (find object.members part.name) r
      → IsReadAmong m reads (targets_below lists x below) v
  member_read x v found part None e have agrees =
      absurd (subst (λ (o : Option Tree). ReadsMember reads part o None)
      (ap (find object.members) e ∙ found) agrees)
  member_read x v found part (Some r) e have agrees =
      let t = target_among m lists below x part (Some r) have e in
      record {
        target = part.target;
        number = t.0;
        is_number = t.1;
        among = t.2;
        reading = r;
        reads_as = subst (λ (o : Option Tree). ReadsMember reads part o (Some r))
            (ap (find object.members) e ∙ found) agrees;
      }

  -- so is one whose name is a key of a choice
  pub read_named : (x : Name) (v : Tree) → find object.members x ≡ Some v → (items : List Item)
      → HasKey items (named x) → HaveParts m lists below items
      → Agrees m.rules reads object items → IsReadAmong m reads (targets_below lists x below) v
  read_named x v found [] key have agrees = absurd key
  read_named x v found (member_of part r ∷ items) key have agrees =
      ⊎_elim
      (λ (e : named part.name ≡ named x).
      member_read x v found part r (same_name part.name x e) have.0 agrees.0)
      (λ (k : HasKey items (named x)). read_named x v found items k have.1 agrees.1) key
  read_named x v found (catch_all_of k t ∷ items) key have agrees =
      ⊎_elim (λ (e : rest ≡ named x). absurd (cc))
      (λ (k : HasKey items (named x)). read_named x v found items k have.1 agrees.1) key
  read_named x v found (presence_of s ∷ items) key have agrees =
      read_named x v found items key have agrees.1

module _ (m : Meaning) (reads : Reads) (object : Object) where
  -- a member that is required is there
  pub required_there : (x : Name) (items : List Item) → HasRequired items x
      → Agrees m.rules reads object items → HasNamed object.members x
  required_there x [] h agrees = absurd h
  required_there x (catch_all_of k t ∷ items) h agrees = required_there x items h agrees.1
  required_there x (presence_of s ∷ items) h agrees = required_there x items h agrees.1
  required_there x (member_of part r ∷ items) h agrees =
      ⊎_elim
      (λ (e : (part.name ≡ x) × (part.required ≡ true)).
      there r (find object.members x) refl e.1
      (subst (λ (n : Name). ReadsMember reads part (find object.members n) r) e.0 agrees.0))
      (λ (k : HasRequired items x). required_there x items k agrees.1) h
    where
      there : (r : Option Reading) (o : Option Tree) → find object.members x ≡ o
          → part.required ≡ true → ReadsMember reads part o r → HasNamed object.members x
      there None None e required a = let not_so : part.required ≡ false = a in absurd (cc)
      there (Some q) None e required a = absurd a
      there r (Some v) e required a = record { value = v; found = e }

-- a member of no known name that is read, by what takes it
abbrev TakenAs : (Member → Reading → Type 0) → Name → Tree → Type 0
TakenAs takes x v =
    (member : Member) × (r : Reading) × takes member r × (member.name ≡ x) × (member.value ≡ v)

-- where the rest is taken, a member of no known name is
takes_member : (rules : Rules) (object : Object) (takes : Member → Reading → Type 0) (x : Name)
    (v : Tree) → IsUnknown rules object x → (ms : List Member) (t : Taken)
    → TakesRest rules object takes ms t → find ms x ≡ Some v → TakenAs takes x v
takes_member rules object takes x v unknown [] none_left h e = absurd (cc)
takes_member rules object takes x v unknown [] (passing t) h e = absurd h
takes_member rules object takes x v unknown [] (taken r t) h e = absurd h
takes_member rules object takes x v unknown (n ∷ ms) none_left h e = absurd h
takes_member rules object takes x v unknown (n ∷ ms) (passing t) h e =
    go (bytes_eq n.name x) refl e (λ found. takes_member rules object takes x v unknown ms t h.1
    found)
  where
    go : (b : Bool) → bytes_eq n.name x ≡ b
        → (if b then Some n.value else find ms x) ≡ Some v
        → (find ms x ≡ Some v → TakenAs takes x v) → TakenAs takes x v
    go true q found later =
        absurd (unknown (subst (λ (y : Name). IsKnown (Chooses rules.lists object.list) (named y))
        ((bytes_eq-Decides n.name x).0 q) h.0))
    go false q found later = later found
takes_member rules object takes x v unknown (n ∷ ms) (taken r t) h e =
    go (bytes_eq n.name x) refl e (λ found. takes_member rules object takes x v unknown ms t h.2
    found)
  where
    go : (b : Bool) → bytes_eq n.name x ≡ b
        → (if b then Some n.value else find ms x) ≡ Some v
        → (find ms x ≡ Some v → TakenAs takes x v) → TakenAs takes x v
    go true q found later =
        let same : n.value ≡ v = cc in (n, r, h.1, (bytes_eq-Decides n.name x).0 q, same)
    go false q found later = later found

module _ (m : Meaning) (shapes : Catalogue) (keys : (key : ℕ) (x : Name)
    → is_key shapes key x ≡ m.rules.is_key key x) (lists : List PlannedList) (below : List ℕ)
    (reads : Reads) where
  -- how the rest reads a value of the name
  abbrev RestReads : Name → Tree → Type 0
  RestReads x v =
      (takes_any_below lists below ≡ true)
      ⊎ IsReadAmong m reads (taken_below shapes lists x below) v

  -- a map takes it where the name is a key
  map_takes : (key : ℕ) (x : Name) (n : ℕ) → m.rules.is_key key x ≡ true
      → target_taken shapes x (planned.CatchAll (caught.Map key n)) ≡ Some n
  map_takes key x n e = ap (λ (b : Bool). if b then Some n else None) (keys key x ∙ e)

  -- by a part that takes the rest
  taken_by : (x : Name) (v : Tree) (k : CatchAll) (t : Taken)
      → HasPart m lists below (catch_all_of k t) → TakenAs (Takes m.rules reads k) x v
      → RestReads x v
  taken_by x v k t have by = go k have.part have.is_part have.is by
    where
      go : (k : CatchAll) (p : PlannedPart) → IsIn p have.list.parts.items
          → IsPartOf m (catch_all_of k t) p
          → (member : Member) × (r : Reading) × Takes m.rules reads k member r
          × (member.name ≡ x) × (member.value ≡ v)
          → RestReads x v
      go k (planned.Member q) at is by = absurd is
      go k (planned.Selection q) at is by = absurd is
      go (of_map key value) (planned.CatchAll caught.Anything) at is by = absurd is
      go of_anything (planned.CatchAll (caught.Map key n)) at is by = absurd is
      go of_anything (planned.CatchAll caught.Anything) at is by =
          inl (some_passes (takes_any_at lists) have.number
          (ap (λ (o : Option PlannedList). option_map_or takes_any_in o false) have.is_list
          ∙ some_passes takes_any (planned.CatchAll caught.Anything) refl have.list.parts.items at)
          below have.among)
      go (of_map key value) (planned.CatchAll (caught.Map key' n)) at is by =
          let named_key : m.rules.is_key key x ≡ true =
          subst (λ (y : Name). m.rules.is_key key y ≡ true) by.3 by.2.0 in
          let fits : m.rules.is_key key' x ≡ true =
          subst (λ (j : ℕ). m.rules.is_key j x ≡ true) (sym is.0) named_key in
          inr (record {
            target = of_shape value;
            number = n;
            is_number = is.1;
            among = in_flat_map (taken_at shapes lists x) have.number n
                (subst
                (λ (o : Option PlannedList). IsIn n (option_map_or (taken_in shapes x) o []))
                (sym have.is_list)
                (in_filter_map (target_taken shapes x) (planned.CatchAll (caught.Map key' n)) n
                (map_takes key' x n fits) have.list.parts.items at))
                below have.among;
            reading = by.1;
            reads_as = subst (λ (w : Tree). reads (of_shape value) w by.1) by.4 by.2.1;
          })

  -- a member of no known name is read by what takes the rest
  pub rest_read : (object : Object) (x : Name) (v : Tree) → find object.members x ≡ Some v
      → IsUnknown m.rules object x → (items : List Item) → HasKey items rest
      → HaveParts m lists below items → Agrees m.rules reads object items → RestReads x v
  rest_read object x v found unknown [] key have agrees = absurd key
  rest_read object x v found unknown (member_of part r ∷ items) key have agrees =
      ⊎_elim (λ (e : named part.name ≡ rest). absurd (cc))
      (λ (k : HasKey items rest). rest_read object x v found unknown items k have.1 agrees.1) key
  rest_read object x v found unknown (presence_of s ∷ items) key have agrees =
      rest_read object x v found unknown items key have agrees.1
  rest_read object x v found unknown (catch_all_of k t ∷ items) key have agrees =
      taken_by x v k t have.0
      (takes_member m.rules object (Takes m.rules reads k) x v unknown object.members t agrees.0.1
      found)
