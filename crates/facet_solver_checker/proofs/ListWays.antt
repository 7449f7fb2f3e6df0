-- A list reads the member of a name in one of its ways.
use Rattle.std.proofs.Common.{◌≡◌, ◌∙◌, sym, ap, subst, refl, inl, inr, ⊎_elim, ◌⊎◌, ℕ, List}
use Rattle.std.proofs.Common.{Option, Some, None, Bool, true, false, not, ◌&&◌, ◌||◌, slice_get}
use Rattle.std.proofs.Common.{if◌then◌else◌, All, Bor, Vec, Global}
use Rattle.facet_solver_shape.specs.Names.{Name}
use Rattle.facet_solver_reader.specs.declared.plan.Plan.{Plan}
use Rattle.facet_solver_reader.specs.declared.plan.PlannedList.{PlannedList}
use Rattle.facet_solver_reader.specs.Choices.{Choice, Item}
use Rattle.facet_solver_reader.specs.Documents.{Member, Tree}
use Rattle.facet_solver_reader.specs.Known.{Chooses, HasKey, IsKnown, Key, named, rest}
use Rattle.facet_solver_reader.specs.Objects.{HasNamed, IsReading, Reads, ReadsAll, find, ignoring}
use Rattle.facet_solver_reader.specs.Objects.{taking}
use Rattle.facet_solver_reader.specs.Parts.{ListId}
use Rattle.facet_solver_reader.specs.Plans.{IsNumberOfList, IsPlannedList, Meaning, has_key}
use Rattle.facet_solver_reader.specs.Values.{ReadsDown}
use Rattle.facet_solver_reader.proofs.Pairs.{pair_of}
use Rattle.facet_solver_reader.proofs.Quantifiers.{all_at}
use Rattle.facet_solver_checker.specs.declared.apart.Apart.{Apart}
use Rattle.facet_solver_checker.specs.declared.objects.Side.{Side}
use Rattle.facet_solver_checker.specs.declared.ways.Ways.{Ways}
use Rattle.facet_solver_checker.specs.Inners.{AreInners, IsThrough, IsThroughSome}
use Rattle.facet_solver_checker.specs.ListsMeet.{AllOthersApart, AreListsApart, AreSidesApart}
use Rattle.facet_solver_checker.specs.ListsMeet.{IsNameApart, ListsMeet, MayRead, SidesMeet}
use Rattle.facet_solver_checker.specs.ListsMeet.{may_items}
use Rattle.facet_solver_checker.specs.PlanMembers.{AreListsOf, HaveParts, IsIn, IsMeaningOf}
use Rattle.facet_solver_checker.specs.PlanMembers.{IsReadAmong, targets_below}
use Rattle.facet_solver_checker.specs.Requires.{AreRequired, HasRequired, IsRequiredBy, NameLists}
use Rattle.facet_solver_checker.specs.Requires.{Requires}
use Rattle.facet_solver_checker.specs.Ways.{AreWays, AreWaysAt, IsReadIn, has_any_way, taken_below}
use Rattle.facet_solver_checker.specs.Ways.{takes_any_below, way_targets, ways_apart}
use Rattle.facet_solver_checker.proofs.ListItems.{have_below}
use Rattle.facet_solver_checker.proofs.ReadNames.{read_named, required_there, rest_read}
use Rattle.facet_solver_checker.proofs.WaysApart.{ways_exclude}

-- the second of two is true, so one of them is
or_second : (a b : Bool) → b ≡ true → (a || b) ≡ true
or_second true b h = refl
or_second false b h = h

module _ (m : Meaning) (p : Plan) (is : IsMeaningOf m p) (reads : Reads) (id : ListId)
    (l : PlannedList) (planned : IsPlannedList m id l) (left : List ℕ) (members : List Member)
    (c : Choice) (x : Name) (v : Tree) (found : find members x ≡ Some v) where
  -- the items of a reading have their parts in lists that are left
  abbrev Have : MayRead m.rules reads id members c → Type 0
  Have may = HaveParts m p.lists.items left (may_items m.rules reads id members c may)

  -- a name that the list knows
  known : has_key l (named x) ≡ true → IsKnown (Chooses m.rules.lists id) (named x)
  known e = (planned.known (named x)).0 e

  -- and one that it doesn't
  unknown : has_key l (named x) ≡ false → IsKnown (Chooses m.rules.lists id) (named x) → ⊥
  unknown e k = let yes : has_key l (named x) ≡ true = (planned.known (named x)).1 k in absurd (cc)

  -- how a reading has the member, by whether the list knows the name
  way_by : (may : MayRead m.rules reads id members c) → Have may → (b : Bool)
      → has_key l (named x) ≡ b
      → ((not b && (not p.strict || takes_any_below p.lists.items left)) ≡ true)
      ⊎ IsReadAmong m reads
      (if b then targets_below p.lists.items x left
      else taken_below p.shapes.now p.lists.items x left) v
  way_by (inl a) have true e =
      inr (read_named m p.lists.items left reads (taking members id) x v found a.reading.items
      (a.reading.known (named x) (record { value = v; found = found }) (known e)) have
      a.reading.agrees)
  way_by (inr i) have true e =
      inr (read_named m p.lists.items left reads (ignoring members id) x v found i.1.items
      (i.1.known (named x) (record { value = v; found = found }) (known e)) have i.1.agrees)
  way_by (inl a) have false e =
      let has : HasNamed members x = record { value = v; found = found } in
      ⊎_elim
      (λ (any : takes_any_below p.lists.items left ≡ true).
      inl (or_second (not p.strict) (takes_any_below p.lists.items left) any))
      (λ (r : IsReadAmong m reads (taken_below p.shapes.now p.lists.items x left) v). inr r)
      (rest_read m p.shapes.now is.keys p.lists.items left reads (taking members id) x v found
      (unknown e) a.reading.items (a.all (record { name = x; has = has; unknown = unknown e })) have
      a.reading.agrees)
  way_by (inr i) have false e =
      inl (ap (λ b. not b || takes_any_below p.lists.items left) (is.strict ∙ i.0))

  -- it is in one of the list's ways
  pub way_of : (w : Ways) → AreWays p l x left w → (may : MayRead m.rules reads id members c)
      → HaveParts m p.lists.items left (may_items m.rules reads id members c may)
      → IsReadIn m reads w v
  way_of w are may have =
      ⊎_elim
      (λ (any : has_any_way p l x left ≡ true). inl (are.any ∙ any))
      (λ (r : IsReadAmong m reads (way_targets p l x left) v).
      inr (subst (λ (ns : List ℕ). IsReadAmong m reads ns v) (sym are.targets) r))
      (way_by may have (has_key l (named x)) refl)

-- an object that is read has the names that its choice requires
pub has_required : (m : Meaning) (reads : Reads) (id : ListId) (members : List Member) (c : Choice)
    (x : Name) (may : MayRead m.rules reads id members c)
    → HasRequired (may_items m.rules reads id members c may) x → HasNamed members x
has_required m reads id members c x (inl a) required =
    required_there m reads (taking members id) x a.reading.items required a.reading.agrees
has_required m reads id members c x (inr i) required =
    required_there m reads (ignoring members id) x i.1.items required i.1.agrees

-- a side reads the member of a name in one of its ways
side_way : (m : Meaning) (p : Plan) (is : IsMeaningOf m p) (reads : Reads) (side : Side)
    (id : ListId) (members : List Member) (c : Choice) (x : Name) (w : Ways)
    → AreWaysAt p side x w → IsNumberOfList m id side.list
    → (may : MayRead m.rules reads id members c)
    → IsThrough m (may_items m.rules reads id members c may) side.inner
    → (has : HasNamed members x) → IsReadIn m reads w has.value
side_way m p is reads side id members c x w ways number may through has =
    let outer = pair_of (IsPlannedList m) m.lists p.lists.items side.list id is.lists.each number in
    let inner = pair_of (IsPlannedList m) m.lists p.lists.items side.inner through.id is.lists.each
    through.is in
    way_of m p is reads id outer.0 outer.2 inner.0.below.items members c x has.value has.found w
    (ways outer.0 inner.0 outer.1 inner.1) may
    (have_below m p is.lists through.id side.inner inner.0 through.is inner.1 through.choice
    (may_items m.rules reads id members c may) through.chooses)

-- no object that has a member of a name is read by two sides whose ways are apart
pub name_is_apart : (m : Meaning) (p : Plan) (apart : Apart) (first second : Side) (x : Name)
    (w u : Ways) → AreWaysAt p first x w → AreWaysAt p second x u → ways_apart apart w u ≡ true
    → IsMeaningOf m p → IsNameApart m apart first second x
name_is_apart m p apart first second x w u ws us e is d among sides has =
    let reads = ReadsDown m.rules d in
    let meet = sides.meet in
    ways_exclude m apart reads among w u has.value e
    (side_way m p is reads first sides.p meet.members meet.first_choice x w ws sides.is_first
    meet.first_reads sides.first_through has)
    (side_way m p is reads second sides.q meet.members meet.second_choice x u us sides.is_second
    meet.second_reads sides.second_through has)

-- two sides read no object in common, where the first requires such a name
pub sides_are_apart : (m : Meaning) (apart : Apart) (first second : Side) (x : Name)
    → IsRequiredBy m first.inner x → IsNameApart m apart first second x
    → AreSidesApart m apart first second
sides_are_apart m apart first second x required none d among sides =
    let through = sides.first_through in
    let meet = sides.meet in
    none d among sides
    (has_required m (ReadsDown m.rules d) sides.p meet.members meet.first_choice x meet.first_reads
    (required through.id through.is through.choice
    (may_items m.rules (ReadsDown m.rules d) sides.p meet.members meet.first_choice
    meet.first_reads) through.chooses))

-- or the second
pub sides_are_apart_by_second : (m : Meaning) (apart : Apart) (first second : Side) (x : Name)
    → IsRequiredBy m second.inner x → IsNameApart m apart first second x
    → AreSidesApart m apart first second
sides_are_apart_by_second m apart first second x required none d among sides =
    let through = sides.second_through in
    let meet = sides.meet in
    none d among sides
    (has_required m (ReadsDown m.rules d) sides.q meet.members meet.second_choice x
    meet.second_reads
    (required through.id through.is through.choice
    (may_items m.rules (ReadsDown m.rules d) sides.q meet.members meet.second_choice
    meet.second_reads) through.chooses))

-- the choice of a reading is one of its list
through_itself : (m : Meaning) (reads : Reads) (id : ListId) (members : List Member) (c : Choice)
    (n : ℕ) → IsNumberOfList m id n → (may : MayRead m.rules reads id members c)
    → IsThrough m (may_items m.rules reads id members c may) n
through_itself m reads id members c n is (inl a) =
    record { id = id; is = is; choice = c; chooses = a.reading.chooses }
through_itself m reads id members c n is (inr i) =
    record { id = id; is = is; choice = c; chooses = i.1.chooses }

-- one of the names at a number is one that the list of the number requires
pub required_apart : (m : Meaning) (apart : Apart) (first second : Side) (number : ℕ)
    (table : NameLists) (names : Vec (Bor Name) Global) (list : List (Bor Name))
    → slice_get table number ≡ Some names → list ≡ names.items → AreRequired m table
    → (x : Bor Name) × IsIn x list × IsNameApart m apart first second x.now
    → (x : Name) × IsRequiredBy m number x × IsNameApart m apart first second x
required_apart m apart first second number table names list at same are r = (
  r.0.now,
  λ id is.
      are number names id r.0 at is (subst (λ (xs : List (Bor Name)). IsIn r.0 xs) same r.1),
  r.2,
)

-- lists read no object in common, where each two of the lists within them are apart
pub lists_are_apart : (m : Meaning) (apart : Apart) (first second : ℕ) (ps qs : List ℕ)
    → AreInners m first ps → AreInners m second qs
    → All (λ a. AllOthersApart m apart (record { list = first; inner = a }) second qs) ps
    → AreListsApart m apart first second
lists_are_apart m apart first second ps qs firsts seconds all p q d is_p is_q among meet =
    let reads = ReadsDown m.rules d in
    let a = firsts (may_items m.rules reads p meet.members meet.first_choice meet.first_reads)
    (through_itself m reads p meet.members meet.first_choice first is_p meet.first_reads) in
    let b = seconds (may_items m.rules reads q meet.members meet.second_choice meet.second_reads)
    (through_itself m reads q meet.members meet.second_choice second is_q meet.second_reads) in
    let here = all_at
    (λ (n : ℕ). AllOthersApart m apart (record { list = first; inner = n }) second qs) ps
    a.among.0 a.number all a.among.1 in
    all_at
    (λ (n : ℕ). AreSidesApart m apart (record { list = first; inner = a.number })
    (record { list = second; inner = n })) qs b.among.0 b.number here b.among.1 d among
    (record {
      p = p;
      q = q;
      is_first = is_p;
      is_second = is_q;
      meet = meet;
      first_through = a.through;
      second_through = b.through;
    })
