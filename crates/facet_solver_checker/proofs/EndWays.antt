-- How ends that are no lists of parts read the member of a name, and what a list that requires the
-- name reads in common with them.
use Rattle.std.proofs.Common.{◌≡◌, ◌∙◌, sym, ap, subst, refl, inl, inr, ℕ, zero, suc, List, [], ◌∷◌}
use Rattle.std.proofs.Common.{All, Any, Bool, true, false, IsTrue, Option, Some, None, slice_get}
use Rattle.std.proofs.Common.{if◌then◌else◌, Vec, Global, Bor, length, get_or}
use Rattle.std.specs.List.{Contains}
use Rattle.std.specs.Str.{bytes_eq}
use Rattle.std.proofs.lemmas.Option.{slice_get-get_or}
use Rattle.std.proofs.lemmas.Slice.Eq.{bytes_eq-Decides}
use Rattle.facet_solver_shape.specs.Names.{Name}
use Rattle.facet_solver_reader.specs.declared.plan.Plan.{Plan}
use Rattle.facet_solver_reader.specs.declared.plan.PlannedEnd.{PlannedEnd}
use Rattle.facet_solver_reader.specs.declared.plan.PlannedEnd.TheVariants as planned
use Rattle.facet_solver_reader.specs.declared.plan.PlannedName.{PlannedName}
use Rattle.facet_solver_reader.specs.Choices.{Choice}
use Rattle.facet_solver_reader.specs.Documents.{Member, Members, Tree, member, members, no_members}
use Rattle.facet_solver_reader.specs.Documents.{object}
use Rattle.facet_solver_reader.specs.Known.{Chooses}
use Rattle.facet_solver_reader.specs.Objects.{HasNamed, Reads, find}
use Rattle.facet_solver_reader.specs.Parts.{ListId}
use Rattle.facet_solver_reader.specs.Plans.{Meaning}
use Rattle.facet_solver_reader.specs.Types.{is_key}
use Rattle.facet_solver_reader.specs.Values.{ReadsDown}
use Rattle.facet_solver_reader.proofs.Quantifiers.{all_at, any_is_at}
use Rattle.facet_solver_checker.specs.declared.apart.Apart.{Apart}
use Rattle.facet_solver_checker.specs.declared.end_ways.MemberWays.{MemberWays}
use Rattle.facet_solver_checker.specs.declared.ways.Ways.{Ways}
use Rattle.facet_solver_checker.specs.Apartness.{AreNamesRequired, ObjectsApart}
use Rattle.facet_solver_checker.specs.Aparts.{LeavesDown}
use Rattle.facet_solver_checker.specs.Atoms.{IsPlanFor, NamesContent, ReadsAs, ReadsByList}
use Rattle.facet_solver_checker.specs.Atoms.{ReadsNumber, ReadsValueOf}
use Rattle.facet_solver_checker.specs.EndWays.{AreContentsAmong, AreEndWays, AreMemberWays}
use Rattle.facet_solver_checker.specs.EndWays.{HasContent}
use Rattle.facet_solver_checker.specs.ListsMeet.{MayRead, may_items}
use Rattle.facet_solver_checker.specs.PlanMembers.{IsIn, IsReadAmong}
use Rattle.facet_solver_checker.specs.Requires.{AreRequired, NameLists}
use Rattle.facet_solver_checker.specs.Ways.{AreWays, IsReadIn, ways_apart}
use Rattle.facet_solver_checker.proofs.ListItems.{have_below, planned_at}
use Rattle.facet_solver_checker.proofs.ListWays.{has_required, way_of}
use Rattle.facet_solver_checker.proofs.WaysApart.{ways_exclude}

-- a member that is found stands among the members
pub record IsFound (ms : List Member) (x : Name) (v : Tree) : Type 0 where
  pub index : ℕ
  pub one : Member
  pub one_is : slice_get ms index ≡ Some one
  pub name : one.name ≡ x
  pub value : one.value ≡ v

pub is_found : (ms : List Member) (x : Name) (v : Tree) → find ms x ≡ Some v → IsFound ms x v
is_found [] x v e = absurd (cc)
is_found (a ∷ ms) x v e = go (bytes_eq a.name x) refl (is_found ms x v) e
  where
    go : (b : Bool) → bytes_eq a.name x ≡ b → (find ms x ≡ Some v → IsFound ms x v)
        → (if b then Some a.value else find ms x) ≡ Some v → IsFound (a ∷ ms) x v
    go true h rest e =
        let same : a.value ≡ v = cc in
        record {
          index = zero;
          one = a;
          one_is = refl;
          name = (bytes_eq-Decides a.name x).0 h;
          value = same;
        }
    go false h rest e =
        let r = rest e in
        record {
          index = suc r.index;
          one = r.one;
          one_is = r.one_is;
          name = r.name;
          value = r.value;
        }

-- the choice by which an object is read is one of the list
may_chooses : (m : Meaning) (reads : Reads) (id : ListId) (ms : List Member) (c : Choice)
    (may : MayRead m.rules reads id ms c)
    → Chooses m.rules.lists id c (may_items m.rules reads id ms c may)
may_chooses m reads id ms c (inl a) = a.reading.chooses
may_chooses m reads id ms c (inr i) = i.1.chooses

-- what is contained stands there
stands : {X : Type 0} (xs : List X) (x : X) → Contains xs x → IsIn x xs
stands xs x c = (c.0, slice_get-get_or xs c.0 x c.1 ∙ ap Some c.2)

-- a value that is read as a number is read in ways that have it
read_in : (m : Meaning) (reads : Reads) (w : Ways) (n : ℕ) (v : Tree) → IsIn n w.targets.items
    → ReadsNumber m reads n v → IsReadIn m reads w v
read_in m reads w n v among r =
    inr (record {
      target = r.target;
      number = n;
      is_number = r.number_is;
      among = among;
      reading = r.reading;
      reads_as = r.is_read;
    })

-- the values of a map
pub map_ways : (plan : Plan) (key n : ℕ) (x : Name) (w : Ways) (e : PlannedEnd)
    → e ≡ planned.Map key n → (is_key plan.shapes.now key x ≡ true → Contains w.targets.items n)
    → AreEndWays plan e x w
map_ways plan key n x w e e_is among =
    subst (λ (p : PlannedEnd). AreEndWays plan p x w) (sym e_is)
    (λ m is depth ms h has.
    let reads = ReadsDown m.rules depth in
    let f = is_found (members ms) x has.value has.found in
    let r = all_at (ReadsValueOf m reads key n) (members ms) f.index f.one h f.one_is in
    let k : m.rules.is_key key x ≡ true =
    subst (λ (y : Name). m.rules.is_key key y ≡ true) f.name r.0 in
    read_in m reads w n has.value (stands w.targets.items n (among (is.meaning.keys key x ∙ k)))
    (subst (ReadsNumber m reads n) f.value r.1))

-- the content of the variant that is named
pub named_ways : (plan : Plan) (ps : Vec PlannedName Global) (x : Name) (w : Ways) (e : PlannedEnd)
    → e ≡ planned.Named ps → AreContentsAmong ps.items x w.targets.items → AreEndWays plan e x w
named_ways plan ps x w e e_is all =
    subst (λ (p : PlannedEnd). AreEndWays plan p x w) (sym e_is) go
  where
    go : AreEndWays plan (planned.Named ps) x w
    go m is depth no_members h has = absurd h
    go m is depth (member y v (member z u ms)) h has = absurd h
    go m is depth (member y v no_members) h has =
        let reads = ReadsDown m.rules depth in
        let f = is_found (members (member y v no_members)) x has.value has.found in
        let a : Any (NamesContent m reads y v) ps.items = h in
        let same = only f.index f.one f.one_is in
        let name : y ≡ x = ap (λ (o : Member). o.name) same ∙ f.name in
        let value : v ≡ has.value = ap (λ (o : Member). o.value) same ∙ f.value in
        let in_ps = any_is_at (NamesContent m reads y v) ps.items a in
        let there = all_at (HasContent x w.targets.items) ps.items a.0 a.1 all in_ps in
        read_in m reads w a.1.content has.value
        (stands w.targets.items a.1.content (there (a.4.0 ∙ name)))
        (subst (ReadsNumber m reads a.1.content) value a.4.1)
      where
        only : (k : ℕ) (o : Member) → slice_get (members (member y v no_members)) k ≡ Some o
            → record { name = y; value = v } ≡ o
        only zero o e = cc
        only (suc k) o e = absurd (cc)

-- no object has a member where there is nothing
pub nothing_ways : (plan : Plan) (x : Name) (w : Ways) (e : PlannedEnd) → e ≡ planned.Nothing
    → AreEndWays plan e x w
nothing_ways plan x w e e_is =
    subst (λ (p : PlannedEnd). AreEndWays plan p x w) (sym e_is) go
  where
    go : AreEndWays plan planned.Nothing x w
    go m is depth no_members h has = let f = has.found in absurd (cc)
    go m is depth (member y v ms) h has = absurd h

module _ (plan : Plan) (apart : Apart) (table : NameLists) (required : AreNamesRequired plan table)
    (list : ℕ) (e : PlannedEnd) (names : Vec (Bor Name) Global)
    (names_are : slice_get table list ≡ Some names) (x : Bor Name) (is_in : IsIn x names.items)
    (w : MemberWays) (ways : AreMemberWays plan list e x.now w)
  where
    -- the member of a name that a list requires is read by both
    module _ (m : Meaning) (is : IsPlanFor m plan) (depth : ℕ) (ms : Members)
        (a : ReadsByList m (ReadsDown m.rules depth) list (members ms))
        (b : ReadsAs m (ReadsDown m.rules depth) e (object ms))
      where
        has : HasNamed (members ms) x.now
        has =
            has_required m (ReadsDown m.rules depth) a.list (members ms) a.choice x.now a.is_read
            (required m is.meaning.lists list names a.list x names_are a.number_is is_in
            a.choice (may_items m.rules (ReadsDown m.rules depth) a.list (members ms) a.choice
            a.is_read)
            (may_chooses m (ReadsDown m.rules depth) a.list (members ms) a.choice a.is_read))

        by_list : IsReadIn m (ReadsDown m.rules depth) w.list has.value
        by_list =
            way_of m plan is.meaning (ReadsDown m.rules depth) a.list ways.entry
            (planned_at m plan is.meaning.lists a.list list ways.entry a.number_is
            ways.entry_is) ways.entry.below.items (members ms) a.choice x.now has.value has.found
            w.list ways.list_ways a.is_read
            (have_below m plan is.meaning.lists a.list list ways.entry a.number_is
            ways.entry_is a.choice
            (may_items m.rules (ReadsDown m.rules depth) a.list (members ms) a.choice a.is_read)
            (may_chooses m (ReadsDown m.rules depth) a.list (members ms) a.choice a.is_read))

        by_end : IsReadIn m (ReadsDown m.rules depth) w.end has.value
        by_end = ways.end_ways m is depth ms b has

    -- so a list and an end
    pub list_and_end : ways_apart apart w.list w.end ≡ true
        → ObjectsApart plan apart (planned.Object (Some list)) e
    list_and_end h m is depth leaves ms a b =
        ways_exclude m apart (ReadsDown m.rules depth) leaves w.list w.end
        (has m is depth ms a b).value h (by_list m is depth ms a b) (by_end m is depth ms a b)

    -- or an end and a list
    pub end_and_list : ways_apart apart w.end w.list ≡ true
        → ObjectsApart plan apart e (planned.Object (Some list))
    end_and_list h m is depth leaves ms b a =
        ways_exclude m apart (ReadsDown m.rules depth) leaves w.end w.list
        (has m is depth ms a b).value h (by_end m is depth ms a b) (by_list m is depth ms a b)
