-- Branches of a selection that read no object in common.
use Rattle.std.proofs.Common.{◌≡◌, ◌∙◌, sym, ap, subst, refl, inl, inr, ⊎_elim, ◌⊎◌, ℕ, List, []}
use Rattle.std.proofs.Common.{◌∷◌, ◌++◌, Option, Some, None, Bool, true, false, slice_get}
use Rattle.std.proofs.Common.{if◌then◌else◌, Bor, All, Vec, Global}
use Rattle.std.specs.List.{list_any}
use Rattle.std.specs.Str.{bytes_eq}
use Rattle.facet_solver_shape.specs.Names.{Name}
use Rattle.facet_solver_reader.specs.declared.plan.Plan.{Plan}
use Rattle.facet_solver_reader.specs.declared.plan.PlannedList.{PlannedList}
use Rattle.facet_solver_reader.specs.Branches.{ReadsList, ReadsPart}
use Rattle.facet_solver_reader.specs.Choices.{Choice, ChoiceAt, Item, member_of, catch_all_of}
use Rattle.facet_solver_reader.specs.Choices.{presence_of, presence, choosing}
use Rattle.facet_solver_reader.specs.Known.{Chooses, ChoosesAt, HasKey, IsKnown, IsKnownIn, Key}
use Rattle.facet_solver_reader.specs.Known.{named, rest}
use Rattle.facet_solver_reader.specs.Objects.{Agrees, Has, HasNamed, Object, Reads, Touches}
use Rattle.facet_solver_reader.specs.Parts.{ListId, Selection, a_selection}
use Rattle.facet_solver_reader.specs.Plans.{IsNumberOfList, IsPlannedList, Meaning, has_key}
use Rattle.facet_solver_reader.specs.Values.{ReadsDown}
use Rattle.facet_solver_reader.proofs.Items.{Agrees-left, Agrees-right, HasKey-right}
use Rattle.facet_solver_reader.proofs.Pairs.{pair_of}
use Rattle.facet_solver_reader.proofs.Quantifiers.{all_at}
use Rattle.facet_solver_checker.specs.declared.apart.Apart.{Apart}
use Rattle.facet_solver_checker.specs.BranchesMeet.{AgreesBy, AreApartIn, AreInnersApart, BothHave}
use Rattle.facet_solver_checker.specs.BranchesMeet.{BranchesMeet, BranchSides, IsMemberApart}
use Rattle.facet_solver_checker.specs.BranchesMeet.{ShareNone}
use Rattle.facet_solver_checker.specs.Aparts.{LeavesAll}
use Rattle.facet_solver_checker.specs.Inners.{AreInners, IsThrough, IsThroughSome}
use Rattle.facet_solver_checker.specs.PlanMembers.{AreListsOf, AreTargetsAt, IsIn, IsReadAmong}
use Rattle.facet_solver_checker.specs.PlanMembers.{targets_below}
use Rattle.facet_solver_checker.specs.Requires.{AreRequired, HasRequired, IsRequiredBy, NameLists}
use Rattle.facet_solver_checker.specs.Ways.{all_apart}
use Rattle.facet_solver_checker.proofs.ListItems.{have_below, planned_at}
use Rattle.facet_solver_checker.proofs.ReadNames.{read_named, required_there}
use Rattle.facet_solver_checker.proofs.Requires.{found_name}
use Rattle.facet_solver_checker.proofs.WaysApart.{targets_apart}

-- a presence has no key
key_behind : (s : Selection) (items : List Item) (x : Key)
    → HasKey (presence s ++ items) x → HasKey items x
key_behind s items x n = go s.optional n
  where
    go : (b : Bool) → HasKey ((if b then presence_of s ∷ [] else []) ++ items) x → HasKey items x
    go true n = n
    go false n = n

-- a required name is one
key_of_required : (x : Name) (items : List Item) → HasRequired items x → HasKey items (named x)
key_of_required x [] h = absurd h
key_of_required x (member_of part r ∷ items) h =
    ⊎_elim (λ (e : (part.name ≡ x) × (part.required ≡ true)). inl (ap named e.0))
    (λ (k : HasRequired items x). inr (key_of_required x items k)) h
key_of_required x (catch_all_of k t ∷ items) h = inr (key_of_required x items h)
key_of_required x (presence_of s ∷ items) h = key_of_required x items h

-- a member that a choice of a list has is read as a target of the name
member_among : (m : Meaning) (p : Plan) (is : AreListsOf m p) (reads : Reads) (object : Object)
    (a : ListId) (n : ℕ) (x : Name) (ts : List ℕ) → AreTargetsAt p n x ts → IsNumberOfList m a n
    → (has : HasNamed object.members x) (by : AgreesBy m.rules reads object a)
    → HasKey by.items (named x) → IsReadAmong m reads ts has.value
member_among m p is reads object a n x ts are number has by key =
    let l = pair_of (IsPlannedList m) m.lists p.lists.items n a is.each number in
    subst (λ (ns : List ℕ). IsReadAmong m reads ns has.value) (sym (are l.0 l.1))
    (read_named m p.lists.items l.0.below.items reads object x has.value has.found by.items key
    (have_below m p is a n l.0 number l.1 by.choice by.items by.chooses) by.agrees)

-- where all its targets are apart, no object has a member that choices of both lists have
pub member_is_apart : (m : Meaning) (p : Plan) (apart : Apart) (first second : ℕ) (x : Name)
    (ts us : List ℕ) → AreTargetsAt p first x ts → AreTargetsAt p second x us
    → all_apart apart ts us ≡ true → AreListsOf m p → IsMemberApart m apart first second x
member_is_apart m p apart first second x ts us firsts seconds e is leaves a b d is_a is_b both =
    let reads = ReadsDown m.rules d in
    targets_apart m apart reads (leaves d) ts us both.has.value e
    (member_among m p is reads both.object a first x ts firsts is_a both.has both.one both.one_has)
    (member_among m p is reads both.object b second x us seconds is_b both.has both.other
    both.other_has)

module _ (m : Meaning) (reads : Reads) (s : Selection) (object : Object) where
  -- the choice of a reading at a branch has what the object has
  abbrev agrees_by : (k : ℕ) (c : Choice) (n : ℕ)
      (r : ReadsPart m.rules reads object (a_selection s) (choosing k c))
      (t : IsThrough m r.chooses.of_branch n) → AgreesBy m.rules reads object t.id
  agrees_by k c n r t = record {
    choice = t.choice;
    items = r.chooses.of_branch;
    chooses = t.chooses;
    agrees = Agrees-right m.rules reads object (presence s) r.chooses.of_branch
        (subst (Agrees m.rules reads object) r.chooses.items_are r.agrees);
  }

  -- a key of the object that the selection knows is one of the choice
  pub branch_has : (k : ℕ) (c : Choice)
      (r : ReadsPart m.rules reads object (a_selection s) (choosing k c)) (x : Key)
      → Has m.rules object x → IsKnown (ChoosesAt m.rules.lists (a_selection s)) x
      → HasKey r.chooses.of_branch x
  branch_has k c r x has known =
      key_behind s r.chooses.of_branch x
      (subst (λ (is : List Item). HasKey is x) r.chooses.items_are (r.known x has known))

  -- what its branch knows the selection knows
  known_by : (k : ℕ) (c : Choice)
      (r : ReadsPart m.rules reads object (a_selection s) (choosing k c)) (x : Key)
      → HasKey r.chooses.of_branch x → IsKnown (ChoosesAt m.rules.lists (a_selection s)) x
  known_by k c r x has = record {
    choice = choosing k c;
    items = r.items;
    chooses = r.chooses;
    has = subst (λ (is : List Item). HasKey is x) (sym r.chooses.items_are)
        (HasKey-right (presence s) r.chooses.of_branch x has);
  }

  -- so is what some branch does
  pub known_of_branch : (x : Key) → IsKnownIn m.rules.lists s x
      → IsKnown (ChoosesAt m.rules.lists (a_selection s)) x
  known_of_branch x k = record {
    choice = choosing k.branch k.choice;
    items = presence s ++ k.items;
    chooses = record { of_branch = k.items; chooses = k.chooses; items_are = refl };
    has = HasKey-right (presence s) k.items x k.has;
  }

  -- a selection that may be absent and is not is touched
  pub touches_of : (k : ℕ) (c : Choice) → s.optional ≡ true
      → ReadsPart m.rules reads object (a_selection s) (choosing k c) → Touches m.rules object s
  touches_of k c e r =
      (subst (λ (b : Bool). Agrees m.rules reads object (if b then presence_of s ∷ [] else [])) e
      (Agrees-left m.rules reads object (presence s) r.chooses.of_branch
      (subst (Agrees m.rules reads object) r.chooses.items_are r.agrees))).0

-- of two branches that read one object, both have a member that one of them requires
module _ (m : Meaning) (reads : Reads) (s : Selection) (one other : ℕ)
    (sides : BranchSides m reads s one other) where
  -- what a choice of each has is as the object has it
  abbrev first_by : AgreesBy m.rules reads sides.meet.object sides.first_through.id
  first_by =
      agrees_by m reads s sides.meet.object sides.first sides.meet.first_choice one
      sides.meet.first_reads sides.first_through

  abbrev second_by : AgreesBy m.rules reads sides.meet.object sides.second_through.id
  second_by =
      agrees_by m reads s sides.meet.object sides.second sides.meet.second_choice other
      sides.meet.second_reads sides.second_through

  -- both have a key that the selection knows
  first_has : (x : Key) → Has m.rules sides.meet.object x
      → IsKnown (ChoosesAt m.rules.lists (a_selection s)) x
      → HasKey sides.meet.first_reads.chooses.of_branch x
  first_has x has known =
      branch_has m reads s sides.meet.object sides.first sides.meet.first_choice
      sides.meet.first_reads x has known

  second_has : (x : Key) → Has m.rules sides.meet.object x
      → IsKnown (ChoosesAt m.rules.lists (a_selection s)) x
      → HasKey sides.meet.second_reads.chooses.of_branch x
  second_has x has known =
      branch_has m reads s sides.meet.object sides.second sides.meet.second_choice
      sides.meet.second_reads x has known

  -- so both have a member of such a name
  both_have : (x : Name) → HasNamed sides.meet.object.members x
      → IsKnown (ChoosesAt m.rules.lists (a_selection s)) (named x)
      → BothHave m.rules reads sides.first_through.id sides.second_through.id x
  both_have x has known = record {
    object = sides.meet.object;
    has = has;
    one = first_by;
    other = second_by;
    one_has = first_has (named x) has known;
    other_has = second_has (named x) has known;
  }

  -- one that the first requires
  first_requires : (x : Name) → IsRequiredBy m one x
      → BothHave m.rules reads sides.first_through.id sides.second_through.id x
  first_requires x required =
      let t = sides.first_through in
      let items = sides.meet.first_reads.chooses.of_branch in
      let there = required t.id t.is t.choice items t.chooses in
      both_have x
      (required_there m reads sides.meet.object x items there first_by.agrees)
      (known_by m reads s sides.meet.object sides.first sides.meet.first_choice
      sides.meet.first_reads (named x) (key_of_required x items there))

  -- one that the second requires
  second_requires : (x : Name) → IsRequiredBy m other x
      → BothHave m.rules reads sides.first_through.id sides.second_through.id x
  second_requires x required =
      let t = sides.second_through in
      let items = sides.meet.second_reads.chooses.of_branch in
      let there = required t.id t.is t.choice items t.chooses in
      both_have x
      (required_there m reads sides.meet.object x items there second_by.agrees)
      (known_by m reads s sides.meet.object sides.second sides.meet.second_choice
      sides.meet.second_reads (named x) (key_of_required x items there))

  -- where the object has a member that the selection knows, both have some key of the object
  share_some : (apart : Apart) → Touches m.rules sides.meet.object s → ShareNone m apart one other
      → ((x : Name) → IsMemberApart m apart one other x
      → BothHave m.rules reads sides.first_through.id sides.second_through.id x → ⊥) → ⊥
  share_some apart touches none apart_by =
      go touches.key touches.has
      (known_of_branch m reads s sides.meet.object touches.key touches.known)
    where
      first_knows : (x : Key) → Has m.rules sides.meet.object x
          → IsKnown (ChoosesAt m.rules.lists (a_selection s)) x
          → IsKnown (Chooses m.rules.lists sides.first_through.id) x
      first_knows x has known = record {
        choice = sides.first_through.choice;
        items = sides.meet.first_reads.chooses.of_branch;
        chooses = sides.first_through.chooses;
        has = first_has x has known;
      }

      second_knows : (x : Key) → Has m.rules sides.meet.object x
          → IsKnown (ChoosesAt m.rules.lists (a_selection s)) x
          → IsKnown (Chooses m.rules.lists sides.second_through.id) x
      second_knows x has known = record {
        choice = sides.second_through.choice;
        items = sides.meet.second_reads.chooses.of_branch;
        chooses = sides.second_through.chooses;
        has = second_has x has known;
      }

      go : (x : Key) → Has m.rules sides.meet.object x
          → IsKnown (ChoosesAt m.rules.lists (a_selection s)) x → ⊥
      go (named x) has known =
          apart_by x
          (none.members sides.first_through.id x sides.first_through.is
          (first_knows (named x) has known))
          (both_have x has known)
      go rest has known =
          none.rests sides.first_through.id sides.second_through.id sides.first_through.is
          sides.second_through.is (first_knows rest has known) (second_knows rest has known)

-- two lists within branches are apart, where the first requires such a member
pub inners_by_first : (m : Meaning) (apart : Apart) (must : Bool) (one other : ℕ)
    (x : Name) → IsRequiredBy m one x → IsMemberApart m apart one other x
    → LeavesAll m apart → AreInnersApart m must one other
inners_by_first m apart must one other x required none leaves s d sides touch =
    none leaves sides.first_through.id sides.second_through.id d sides.first_through.is
    sides.second_through.is (first_requires m (ReadsDown m.rules d) s one other sides x required)

-- or the second
pub inners_by_second : (m : Meaning) (apart : Apart) (must : Bool) (one other : ℕ)
    (x : Name) → IsRequiredBy m other x → IsMemberApart m apart one other x
    → LeavesAll m apart → AreInnersApart m must one other
inners_by_second m apart must one other x required none leaves s d sides touch =
    none leaves sides.first_through.id sides.second_through.id d sides.first_through.is
    sides.second_through.is (second_requires m (ReadsDown m.rules d) s one other sides x required)

-- or the object must have a member that the selection knows, and they share none
pub inners_by_none : (m : Meaning) (apart : Apart) (must : Bool) (one other : ℕ)
    → must ≡ true → ShareNone m apart one other → LeavesAll m apart
    → AreInnersApart m must one other
inners_by_none m apart must one other is none leaves s d sides touch =
    share_some m (ReadsDown m.rules d) s one other sides apart (touch is) none
    (λ x h both.
    h leaves sides.first_through.id sides.second_through.id d sides.first_through.is
    sides.second_through.is both)

-- the choice of a reading at a branch is one of its list
branch_through : (m : Meaning) (reads : Reads) (object : Object) (s : Selection) (k : ℕ)
    (c : Choice)
    (id : ListId) (n : ℕ) → slice_get s.branches k ≡ Some id → IsNumberOfList m id n
    → (r : ReadsPart m.rules reads object (a_selection s) (choosing k c))
    → IsThrough m r.chooses.of_branch n
branch_through m reads object s k c id n at is r =
    let b = r.chooses.chooses in
    let both : Some id ≡ Some b.list = sym at ∙ b.branch_is in
    let same : id ≡ b.list = cc in
    record {
      id = b.list;
      is = subst (λ (i : ListId). IsNumberOfList m i n) same is;
      choice = c;
      chooses = b.chooses;
    }

-- branches are apart, where each two of the lists within them are
pub branches_are_apart : (m : Meaning) (must : Bool) (first second : ℕ) (ps qs : List ℕ)
    → AreInners m first ps → AreInners m second qs
    → All (λ one. All (λ other. AreInnersApart m must one other) qs) ps
    → AreApartIn m must first second
branches_are_apart m must first second ps qs firsts seconds all s a b is_a is_b d j k at_a at_b meet
    touch =
    let reads = ReadsDown m.rules d in
    let one = firsts meet.first_reads.chooses.of_branch
    (branch_through m reads meet.object s j meet.first_choice a first at_a is_a meet.first_reads) in
    let other = seconds meet.second_reads.chooses.of_branch
    (branch_through m reads meet.object s k meet.second_choice b second at_b is_b
    meet.second_reads) in
    let here = all_at (λ (n : ℕ). All (λ o. AreInnersApart m must n o) qs) ps one.among.0 one.number
    all
    one.among.1 in
    all_at (λ (o : ℕ). AreInnersApart m must one.number o) qs other.among.0 other.number here
    other.among.1 s d
    (record {
      first = j;
      second = k;
      meet = meet;
      first_through = one.through;
      second_through = other.through;
    }) touch

-- branches are apart, where their lists are as a whole
pub wholes_apart : (m : Meaning) (must : Bool) (first second : ℕ)
    → AreInnersApart m must first second → AreApartIn m must first second
wholes_apart m must first second none s a b is_a is_b d j k at_a at_b meet touch =
    let reads = ReadsDown m.rules d in
    none s d
    (record {
      first = j;
      second = k;
      meet = meet;
      first_through = branch_through m reads meet.object s j meet.first_choice a first at_a is_a
          meet.first_reads;
      second_through = branch_through m reads meet.object s k meet.second_choice b second at_b is_b
          meet.second_reads;
    }) touch

-- lists share none, where the members of all names of the first are apart, and not both take the
-- rest
pub none_shared : (m : Meaning) (p : Plan) (apart : Apart) (first second : ℕ) (l r : PlannedList)
    (names : List (Bor Name)) → AreListsOf m p → slice_get p.lists.items first ≡ Some l
    → slice_get p.lists.items second ≡ Some r → names ≡ l.names.items
    → All (λ y. IsMemberApart m apart first second y.now) names
    → (l.takes_rest ≡ true → r.takes_rest ≡ true → ⊥) → ShareNone m apart first second
none_shared m p apart first second l r names is at_l at_r same all rests = record {
  members = λ a x is_a known.
      let planned = planned_at m p is a first l is_a at_l in
      let told : list_any (λ y. bytes_eq y.now x) l.names.items ≡ true =
      (planned.known (named x)).1 known in
      let y = found_name x names
      (ap (λ (ns : List (Bor Name)). list_any (λ z. bytes_eq z.now x) ns) same ∙ told) in
      subst (λ (z : Name). IsMemberApart m apart first second z) y.1
      (all_at (λ (z : Bor Name). IsMemberApart m apart first second z.now) names y.2.0 y.0 all
      y.2.1);
  rests = λ a b is_a is_b one other.
      rests (((planned_at m p is a first l is_a at_l).known rest).1 one)
      (((planned_at m p is b second r is_b at_r).known rest).1 other);
}

-- one of the names at a number is one that the list of the number requires
pub required_member : (m : Meaning) (apart : Apart) (first second number : ℕ) (table : NameLists)
    (names : Vec (Bor Name) Global) (list : List (Bor Name)) → slice_get table number ≡ Some names
    → list ≡ names.items → AreRequired m table
    → (x : Bor Name) × IsIn x list × IsMemberApart m apart first second x.now
    → (x : Name) × IsRequiredBy m number x × IsMemberApart m apart first second x
required_member m apart first second number table names list at same are r = (
  r.0.now,
  λ id is.
      are number names id r.0 at is (subst (λ (xs : List (Bor Name)). IsIn r.0 xs) same r.1),
  r.2,
)

-- no object is read by a list that requires a member which no choice of it reads
pub none_read : (m : Meaning) (apart : Apart) (n : ℕ) (x : Name) → IsRequiredBy m n x
    → IsMemberApart m apart n n x → LeavesAll m apart → (id : ListId) → IsNumberOfList m id n
    → (d : ℕ) (object : Object) (c : Choice) → ReadsList m.rules (ReadsDown m.rules d) object id c
    → ⊥
none_read m apart n x required none leaves id is d object c r =
    let there = required id is c r.items r.chooses in
    let by : AgreesBy m.rules (ReadsDown m.rules d) object id =
    record { choice = c; items = r.items; chooses = r.chooses; agrees = r.agrees } in
    none leaves id id d is is
    (record {
      object = object;
      has = required_there m (ReadsDown m.rules d) object x r.items there r.agrees;
      one = by;
      other = by;
      one_has = key_of_required x r.items there;
      other_has = key_of_required x r.items there;
    })
