-- What is known of the lists that the choices of an object's list go through.
use Rattle.std.proofs.Common.{◌≡◌, ◌⊎◌, ◌<◌, ◌≤◌, sym, ◌∙◌, subst, refl, ℕ, List, Option, Some, None}
use Rattle.std.proofs.Common.{slice_get, length, arith, [], ◌∷◌, ◌++◌, ⊎_elim}
use Rattle.std.proofs.lemmas.Option.{slice_get_within}
use Rattle.std.specs.Prelude.{IfSome, MatchOption, ⊤}
use Rattle.std.specs.List.{All}
use Rattle.facet_solver_reader.specs.declared.count.Count.{Count}
use Rattle.facet_solver_reader.specs.declared.count.Count.TheVariants as counts
use Rattle.facet_solver_reader.specs.Counted.{Counted}
use Rattle.facet_solver_reader.specs.declared.nodes.Nodes.{Nodes}
use Rattle.facet_solver_reader.specs.declared.count.object.Object as code
use Rattle.facet_solver_reader.specs.declared.tables.List.{List as ListEntry}
use Rattle.facet_solver_reader.specs.declared.tables.Tables.{Tables}
use Rattle.facet_solver_reader.specs.Parts.{ListId, Part, a_member, a_selection}
use Rattle.facet_solver_reader.specs.Parts.{a_catch_all}
use Rattle.facet_solver_reader.specs.Reading.{IsListed, IsObject}
use Rattle.facet_solver_reader.specs.Slots.{index_of}
use Rattle.facet_solver_reader.specs.Nodes.{members_in, value_of}
use Rattle.facet_solver_reader.specs.Tables.{AreTables, BranchIsBefore, ListIsServed, PartIsBefore}
use Rattle.facet_solver_reader.specs.Tables.{PartIsServed, rules_at}
use Rattle.facet_solver_shape.specs.Names.{Name}
use Rattle.std.specs.Borrow.{Bor}
use Rattle.facet_solver_reader.specs.Views.{list_view, parts_view}
use Rattle.facet_solver_reader.specs.declared.read_error.NoReading.{NoReading}
use Rattle.facet_solver_reader.specs.declared.read_error.Unread.{Unread}
use Rattle.facet_solver_reader.specs.Documents.{Tree}
use Rattle.facet_solver_reader.specs.Parts.{Target}
use Rattle.facet_solver_reader.specs.Places.{PlaceStep, at}
use Rattle.facet_solver_reader.specs.Rules.{Rules}
use Rattle.facet_solver_reader.specs.Blaming.{IsUnreadAs, IsUnreadAt}
use Rattle.facet_solver_reader.specs.TypeNames.{called_view, target_name}
use Rattle.facet_solver_reader.specs.Wanted.{IsSaidToRead}
use Rattle.facet_solver_reader.specs.Why.{IsObstacle, IsToldUnread, IsUnread, IsWhyNone}
use Rattle.std.proofs.Common.{Err, IfOk, Ok, Result}
use Rattle.facet_solver_reader.specs.Blaming.{AreMissing, IsBelow, IsPartOf, IsPosition}
use Rattle.facet_solver_reader.specs.Why.{Lacks}
use Rattle.facet_solver_reader.proofs.CountingLists.{before_parts}
use Rattle.facet_solver_reader.proofs.CountingObjects.{list_at, split_last}
use Rattle.facet_solver_reader.proofs.Quantifiers.{all_at, all_from}

-- what stands before a position stands before a later one
branch_later : (t : Tables) (below : List ℕ) (p n : ℕ) (id : ListId) → p ≤ n
    → BranchIsBefore t below p id → BranchIsBefore t below n id
branch_later t below p n id le h = go (index_of t.slots id) h
  where
    go : (o : Option ℕ)
        → MatchOption o ⊤ (λ i. (q : ℕ) × (q < p) × (slice_get below q ≡ Some i))
        → MatchOption o ⊤ (λ i. (q : ℕ) × (q < n) × (slice_get below q ≡ Some i))
    go None h = h
    go (Some i) h = (h.0, omega (arith, h.1), h.2)

part_later : (t : Tables) (below : List ℕ) (p n : ℕ) (part : Part) → p ≤ n
    → PartIsBefore t below p part → PartIsBefore t below n part
part_later t below p n (a_member m) le h = h
part_later t below p n (a_catch_all k) le h = h
part_later t below p n (a_selection s) le h =
    all_from (BranchIsBefore t below n) s.branches
    (λ k id e. branch_later t below p n id le (all_at (BranchIsBefore t below p) s.branches k id h e))

module _ (t : Tables) (tables : AreTables t) where
  -- a list that stands among others is one of the tables
  pub listed_of_below : (o : code.Object) (l : ListEntry) → IsBelow t o l → IsListed t l
  listed_of_below o l b = record { index = b.1.index; listed = b.1.listed }

  -- the tables have what each part of a list leads to
  pub parts_served : (l : ListEntry) → IsListed t l
      → All (PartIsServed t) (parts_view l.parts.items)
  parts_served l h = (tables.lists h.index l h.listed).served

  -- the same of one part
  pub part_served : (l : ListEntry) (p : Part) → IsListed t l → IsPartOf l p → PartIsServed t p
  part_served l p h part =
      all_at (PartIsServed t) (parts_view l.parts.items) part.0 p (parts_served l h) part.1

  module _ (nodes : Nodes) (o : code.Object) (h : IsObject t nodes o) where
    -- the object's own list stands among those that its choices go through
    pub own_below : IsBelow t o o.list.now
    own_below =
        let last = (tables.lists h.index o.list.now h.listed).last in
        (last.0, record { index = h.index; is_next = last.2; listed = h.listed })

    -- the branches of a part stand before the end
    pub part_before : (l : ListEntry) (p : Part) (n : ℕ) → IsBelow t o l → IsPartOf l p
        → n ≡ length o.list.now.below.items → PartIsBefore t o.list.now.below.items n p
    part_before l p n b part e =
        let below = o.list.now.below.items in
        let within = slice_get_within below b.0 b.1.index b.1.is_next in
        part_later t below b.0 n p (omega (arith, within, e))
        (all_at (PartIsBefore t below b.0) (parts_view l.parts.items) part.0 p
        (before_parts t nodes o b.0 l tables h b.1) part.1)

-- the name that is told of a list at its position
pub lacks_found : (t : Tables) (nodes : Nodes) (o : code.Object) (names : List (Option (Bor Name)))
    → AreMissing t nodes o names → (id : ListId) (p : ℕ) → ListIsServed t id
    → IsPosition t o id p → (name : Option (Bor Name)) → slice_get names p ≡ Some name
    → IfSome name (λ x. Lacks (rules_at t) (members_in (value_of nodes o.node)) id x.now)
lacks_found t nodes o names missing id p served h None at = tt
lacks_found t nodes o names missing id p served h (Some x) at =
    let entry = list_at t id h.index (sym h.has_index) served in
    subst (λ i. Lacks (rules_at t) (members_in (value_of nodes o.node)) i x.now) entry.same
    (missing.are p h.index x entry.entry at h.stands entry.is_there)

-- a name more is told
pub missing_more : (t : Tables) (nodes : Nodes) (o : code.Object) (names : List (Option (Bor Name)))
    (name : Option (Bor Name)) (index : ℕ) (l : ListEntry) → AreMissing t nodes o names
    → slice_get o.list.now.below.items (length names) ≡ Some index
    → slice_get t.lists.items index ≡ Some l
    → IfSome name
    (λ x. Lacks (rules_at t) (members_in (value_of nodes o.node)) (list_view l.id) x.now)
    → AreMissing t nodes o (names ++ name ∷ [])
missing_more t nodes o names name index l before here listed lacks = record { are = are }
  where
    are : (p i : ℕ) (x : Bor Name) (e : ListEntry) → slice_get (names ++ name ∷ []) p ≡ Some (Some x)
        → slice_get o.list.now.below.items p ≡ Some i → slice_get t.lists.items i ≡ Some e
        → Lacks (rules_at t) (members_in (value_of nodes o.node)) (list_view e.id) x.now
    are p i x e at stands there =
        ⊎_elim (λ (h : slice_get names p ≡ Some (Some x)). before.are p i x e h stands there)
        (λ (h : (p ≡ length names) × (name ≡ Some x)).
        let place = subst (λ q. slice_get o.list.now.below.items q ≡ Some i) h.0 stands in
        let both : Some index ≡ Some i = sym here ∙ place in
        let same : index ≡ i = cc in
        let twice : Some l ≡ Some e =
        sym (subst (λ k. slice_get t.lists.items k ≡ Some l) same listed) ∙ there in
        let one : l ≡ e = cc in
        subst
        (λ (k : ListEntry).
        Lacks (rules_at t) (members_in (value_of nodes o.node)) (list_view k.id) x.now)
        one
        (subst
        (λ n. IfSome n
        (λ y. Lacks (rules_at t) (members_in (value_of nodes o.node)) (list_view l.id) y.now))
        h.1 lacks))
        (split_last names name (Some x) p at)

-- where there are not none, there is one
pub some_counted : {X : Type 0} (P : X → Type 0) (n : Count) → (n ≡ counts.None → ⊥) → Counted P n
    → (x : X) × P x
some_counted P counts.None some h = absurd (some refl)
some_counted P counts.One some h = (h.value, h.has)
some_counted P counts.Several some h = (h.first, h.has_first)

-- what holds of one and of another holds of what is either
pub either_found : {X : Type 0} (P : X → Type 0) (a b r : Option X) → (r ≡ a) ⊎ (r ≡ b)
    → IfSome a P → IfSome b P → IfSome r P
either_found {X} P a b r e first second =
    ⊎_elim (λ (h : r ≡ a). subst (λ (o : Option X). IfSome o P) (sym h) first)
    (λ (h : r ≡ b). subst (λ (o : Option X). IfSome o P) (sym h) second) e

-- what holds of a result that is one where another thing does
pub ok_then : {X E : Type 0} (P Q : X → Type 0) (r : Result X E) → ((x : X) → P x → Q x)
    → IfOk r P → IfOk r Q
ok_then P Q (Ok x) f h = f x h
ok_then P Q (Err e) f h = tt

-- a value is not read as a target that is told of
pub told_unread : (rules : Rules) (v : Tree) (t : Target) (u : Unread) → IsUnread rules t v
    → IsUnreadAs rules t v u → IsToldUnread rules v u
told_unread rules v t u unread h =
    record {
      unread = subst (λ (x : Target). IsUnread rules x v) (sym h.target) unread;
      name =
          subst (λ (x : Target). called_view u.name ≡ target_name rules x) (sym h.target) h.name;
      reads = subst (λ (x : Target). IsSaidToRead rules x v u.reads) (sym h.target) h.reads;
      given = h.given;
    }

-- a value at a place that is not what a target reads is why there is no reading
pub why_unread : (rules : Rules) (document v : Tree) (t : Target) (place : List PlaceStep)
    (n : NoReading) → at document place ≡ Some v → IsUnread rules t v → IsUnreadAt rules t v place n
    → IsWhyNone rules document n
why_unread rules document v t place n leads unread h =
    record {
      value = v;
      leads = subst (λ (p : List PlaceStep). at document p ≡ Some v) (sym h.same) leads;
      why =
          subst (IsObstacle rules v) (sym h.unread.1)
          (told_unread rules v t h.unread.0 unread h.unread.2);
    }
