-- What is told of the members of an object, one after another: those of a choice, and those that a
-- catch-all takes.
use Rattle.std.proofs.Common.{◌≡◌, ◌∙◌, sym, ap, subst, refl, ℕ, zero, suc, ◌+◌, ◌<◌, List, [], ◌∷◌}
use Rattle.std.proofs.Common.{◌++◌, take, slice_get, map, Option, Some, None, arith}
use Rattle.std.proofs.lemmas.List.{append-nil, take_more}
use Rattle.std.proofs.lemmas.List.Elements.{All-head, All-tail}
use Rattle.std.proofs.lemmas.Option.{get_or_from_slice_get, slice_get_within}
use Rattle.std.specs.List.{All}
use Rattle.facet_solver_shape.specs.Catalogues.{Catalogue}
use Rattle.facet_solver_shape.specs.Names.{Name}
use Rattle.facet_solver_reader.specs.declared.nodes.Nodes.{Nodes}
use Rattle.facet_solver_reader.specs.declared.count.object.Object as read
use Rattle.facet_solver_reader.specs.declared.reading.Reading as code
use Rattle.facet_solver_reader.specs.declared.tables.Tables.{Tables}
use Rattle.facet_solver_reader.specs.Choices.{ChoiceAt, Reading, Taken, none_left, passing, taken}
use Rattle.facet_solver_reader.specs.Choices.{taking}
use Rattle.facet_solver_reader.specs.Counted.{IsOnly}
use Rattle.facet_solver_reader.specs.Documents.{Member}
use Rattle.facet_solver_reader.specs.Found as found
use Rattle.facet_solver_reader.specs.Known.{Chooses, IsKnown, named}
use Rattle.facet_solver_reader.specs.Nodes.{members_in, value_of}
use Rattle.facet_solver_reader.specs.Objects.{IsUnknown, Object, Reads, Takes, TakesRest}
use Rattle.facet_solver_reader.specs.Parts.{CatchAll, MemberPart, Part, a_catch_all, a_member}
use Rattle.facet_solver_reader.specs.Planned.{IsOnlyAt, IsOnlyStep, Planned, choice_of, planned_of}
use Rattle.facet_solver_reader.specs.Reading.{object_view}
use Rattle.facet_solver_reader.specs.Readings.{ReadsValue}
use Rattle.facet_solver_reader.specs.Rules.{Rules}
use Rattle.facet_solver_reader.specs.Steps.{Step, a_field, a_rest, a_variant, an_absence}
use Rattle.facet_solver_reader.specs.Tables.{rules_at}
use Rattle.facet_solver_reader.specs.Told.{TellsAs, TellsField, TellsFields, TellsTaken, end_taken}
use Rattle.facet_solver_reader.specs.Told.{fields_in, no_fields, none_taken, one_field, one_passed}
use Rattle.facet_solver_reader.specs.Told.{one_taken}
use Rattle.facet_solver_reader.specs.ToldObjects.{AreToldFields, IsToldField}
use Rattle.facet_solver_reader.proofs.CatchAlls.{passing_images, taken_join}
use Rattle.facet_solver_reader.proofs.Counting.{only_first, only_of_images, only_second}
use Rattle.facet_solver_reader.proofs.FoundSteps.{members_in-append}

module _ (rules : Rules) (reads : Reads) (object : Object) (k : CatchAll) where
  -- where members are taken in one way, so are those behind the first
  one_behind : (n : Member) (ms : List Member) (t : Taken)
      → TakesRest rules object (Takes rules reads k) (n ∷ ms) t
      → IsOnly (TakesRest rules object (Takes rules reads k) (n ∷ ms))
      → IsOnly (TakesRest rules object (Takes rules reads k) ms)
  one_behind n ms none_left h one = absurd h
  one_behind n ms (passing t) h one =
      only_of_images (TakesRest rules object (Takes rules reads k) ms) (TakesRest rules object (Takes rules reads k) (n ∷ ms))
      passing (passing_images rules reads object k n ms h.0) one
  one_behind n ms (taken r t) h one =
      only_second (Takes rules reads k n) (TakesRest rules object (Takes rules reads k) ms)
      (TakesRest rules object (Takes rules reads k) (n ∷ ms)) taken
      (taken_join rules reads object k n ms h.0) one

  -- and each of them that has no known name
  pub one_taken_at : (ms : List Member) (i : ℕ) (m : Member) → slice_get ms i ≡ Some m
      → IsUnknown rules object m.name → IsOnly (TakesRest rules object (Takes rules reads k) ms)
      → IsOnly (Takes rules reads k m)
  one_taken_at [] i m e unknown one =
      let l : i < 0 = slice_get_within [] i m e in absurd (omega arith)
  one_taken_at (n ∷ ms) zero m e unknown one =
      let same : n ≡ m = cc in
      let u = subst (λ (x : Member). IsUnknown rules object x.name) (sym same) unknown in
      subst (λ (x : Member). IsOnly (Takes rules reads k x)) same
      (only_first (Takes rules reads k n) (TakesRest rules object (Takes rules reads k) ms)
      (TakesRest rules object (Takes rules reads k) (n ∷ ms)) taken
      (taken_join rules reads object k n ms u) one)
  one_taken_at (n ∷ ms) (suc i) m e unknown one =
      one_taken_at ms i m e unknown (one_behind n ms one.value one.has one)

module _ (rules : Rules) (shapes : Catalogue) (object : Object) (k : CatchAll) where
  -- what a catch-all takes of members is told
  pub record TakenTold (ms : List Member) (ns : List Name) (ws : List code.Reading) : Type 0 where
    pub takes : Taken
    pub reads : TakesRest rules object (Takes rules (ReadsValue rules) k) ms takes
    pub tells : TellsTaken rules shapes (end_taken rules k) ms takes ns ws

  -- of no members there is nothing to tell
  nothing_taken : TakenTold [] [] []
  nothing_taken =
      record { takes = none_left; reads = tt; tells = none_taken (end_taken rules k) }

  -- so where there are no members
  pub none_told : (ms : List Member) (ns : List Name) (ws : List code.Reading) → ms ≡ [] → ns ≡ []
      → ws ≡ [] → TakenTold ms ns ws
  none_told ms ns ws e f g =
      subst (λ (xs : List Member). TakenTold xs ns ws) (sym e)
      (subst (λ (xs : List Name). TakenTold [] xs ws) (sym f)
      (subst (λ (xs : List code.Reading). TakenTold [] [] xs) (sym g) nothing_taken))

  -- one more at the end is passed over
  last_passed : (ms : List Member) (t : Taken) (ns : List Name) (ws : List code.Reading)
      (m : Member) → IsKnown (Chooses rules.lists object.list) (named m.name)
      → TakesRest rules object (Takes rules (ReadsValue rules) k) ms t
      → TellsTaken rules shapes (end_taken rules k) ms t ns ws
      → TakenTold (ms ++ m ∷ []) ns ws
  last_passed [] none_left ns ws m known h (none_taken e) =
      record {
        takes = passing none_left;
        reads = (known, tt);
        tells = one_passed (end_taken rules k) m [] none_left [] [] (none_taken (end_taken rules k));
      }
  last_passed [] (passing t) ns ws m known h g = absurd h
  last_passed [] (taken r t) ns ws m known h g = absurd h
  last_passed (n ∷ ms) none_left ns ws m known h g = absurd h
  last_passed (n ∷ ms) (passing t) ns ws m known h (one_passed e n1 ms1 t1 ns1 ws1 g) =
      let below = last_passed ms t ns ws m known h.1 g in
      record {
        takes = passing below.takes;
        reads = (h.0, below.reads);
        tells = one_passed (end_taken rules k) n (ms ++ m ∷ []) below.takes ns ws below.tells;
      }
  last_passed (n ∷ ms) (taken r t) ns ws m known h (one_taken e n1 ms1 t1 ns1 r1 w1 ws1 u g) =
      let below = last_passed ms t ns1 ws1 m known h.2 g in
      record {
        takes = taken r below.takes;
        reads = (h.0, h.1, below.reads);
        tells = one_taken (end_taken rules k) n (ms ++ m ∷ []) below.takes ns1 r w1 ws1 u
            below.tells;
      }

  -- or taken
  last_taken : (ms : List Member) (t : Taken) (ns : List Name) (ws : List code.Reading)
      (m : Member) (r : Reading) (w : code.Reading) → IsUnknown rules object m.name
      → Takes rules (ReadsValue rules) k m r
      → TellsAs rules shapes (end_taken rules k) m.value r w.variants.items w.kind
      → TakesRest rules object (Takes rules (ReadsValue rules) k) ms t
      → TellsTaken rules shapes (end_taken rules k) ms t ns ws
      → TakenTold (ms ++ m ∷ []) (ns ++ m.name ∷ []) (ws ++ w ∷ [])
  last_taken [] none_left ns ws m r w unknown takes told h (none_taken e) =
      record {
        takes = taken r none_left;
        reads = (unknown, takes, tt);
        tells = one_taken (end_taken rules k) m [] none_left [] r w [] told
            (none_taken (end_taken rules k));
      }
  last_taken [] (passing t) ns ws m r w unknown takes told h g = absurd h
  last_taken [] (taken q t) ns ws m r w unknown takes told h g = absurd h
  last_taken (n ∷ ms) none_left ns ws m r w unknown takes told h g = absurd h
  last_taken (n ∷ ms) (passing t) ns ws m r w unknown takes told h
      (one_passed e n1 ms1 t1 ns1 ws1 g) =
      let below = last_taken ms t ns ws m r w unknown takes told h.1 g in
      record {
        takes = passing below.takes;
        reads = (h.0, below.reads);
        tells = one_passed (end_taken rules k) n (ms ++ m ∷ []) below.takes (ns ++ m.name ∷ [])
            (ws ++ w ∷ []) below.tells;
      }
  last_taken (n ∷ ms) (taken q t) ns ws m r w unknown takes told h
      (one_taken e n1 ms1 t1 ns1 r1 w1 ws1 u g) =
      let below = last_taken ms t ns1 ws1 m r w unknown takes told h.2 g in
      record {
        takes = taken q below.takes;
        reads = (h.0, h.1, below.reads);
        tells = one_taken (end_taken rules k) n (ms ++ m ∷ []) below.takes (ns1 ++ m.name ∷ []) q
            w1 (ws1 ++ w ∷ []) u below.tells;
      }

  module _ (ms : List Member) (i : ℕ) (m : Member) (there : slice_get ms i ≡ Some m) where
    -- one member more
    one_more : take (i + 1) ms ≡ take i ms ++ m ∷ []
    one_more =
        take_more ms i m (slice_get_within ms i m there)
        ∙ ap (λ y. take i ms ++ y ∷ []) (get_or_from_slice_get ms i m m there)

    -- is passed over
    pub more_passed : (t : Taken) (ns : List Name) (ws : List code.Reading)
        → IsKnown (Chooses rules.lists object.list) (named m.name)
        → TakesRest rules object (Takes rules (ReadsValue rules) k) (take i ms) t
        → TellsTaken rules shapes (end_taken rules k) (take i ms) t ns ws
        → TakenTold (take (i + 1) ms) ns ws
    more_passed t ns ws known h g =
        subst (λ (xs : List Member). TakenTold xs ns ws) (sym one_more)
        (last_passed (take i ms) t ns ws m known h g)

    -- or taken
    pub more_taken : (t : Taken) (ns : List Name) (ws : List code.Reading) (r : Reading)
        (w : code.Reading) → IsUnknown rules object m.name → Takes rules (ReadsValue rules) k m r
        → TellsAs rules shapes (end_taken rules k) m.value r w.variants.items w.kind
        → TakesRest rules object (Takes rules (ReadsValue rules) k) (take i ms) t
        → TellsTaken rules shapes (end_taken rules k) (take i ms) t ns ws
        → TakenTold (take (i + 1) ms) (ns ++ m.name ∷ []) (ws ++ w ∷ [])
    more_taken t ns ws r w unknown takes told h g =
        subst (λ (xs : List Member). TakenTold xs (ns ++ m.name ∷ []) (ws ++ w ∷ []))
        (sym one_more) (last_taken (take i ms) t ns ws m r w unknown takes told h g)

module _ (t : Tables) (nodes : Nodes) (o : read.Object) where
  -- one field more at the end is told
  last_field : (ms : List MemberPart) (ws : List code.Reading) (m : MemberPart) (w : code.Reading)
      → AreToldFields t nodes o ms ws → IsToldField t nodes o m w
      → AreToldFields t nodes o (ms ++ m ∷ []) (ws ++ w ∷ [])
  last_field [] [] m w h f = (f, tt)
  last_field [] (v ∷ ws) m w h f = absurd h
  last_field (n ∷ ms) [] m w h f = absurd h
  last_field (n ∷ ms) (v ∷ ws) m w h f = (h.0, last_field ms ws m w h.1 f)

  -- the members of the steps up to one more
  more_members : (ss : List Planned) (i : ℕ) (s : Planned) → slice_get ss i ≡ Some s
      → found.members_in (take (i + 1) ss)
      ≡ found.members_in (take i ss) ++ found.members_in (s ∷ [])
  more_members ss i s there =
      ap found.members_in (take_more ss i s (slice_get_within ss i s there)
      ∙ ap (λ y. take i ss ++ y ∷ []) (get_or_from_slice_get ss i s s there))
      ∙ members_in-append (take i ss) (s ∷ [])

  -- one step more, which is a field, is told
  pub more_field : (ss : List Planned) (i : ℕ) (s : Planned) (m : MemberPart)
      (ws : List code.Reading) (w : code.Reading) → slice_get ss i ≡ Some s
      → found.members_in (s ∷ []) ≡ m ∷ []
      → AreToldFields t nodes o (found.members_in (take i ss)) ws → IsToldField t nodes o m w
      → AreToldFields t nodes o (found.members_in (take (i + 1) ss)) (ws ++ w ∷ [])
  more_field ss i s m ws w there is h f =
      subst (λ (ms : List MemberPart). AreToldFields t nodes o ms (ws ++ w ∷ []))
      (sym (more_members ss i s there ∙ ap (λ ns. found.members_in (take i ss) ++ ns) is))
      (last_field (found.members_in (take i ss)) ws m w h f)

  -- one step more, which is no field, changes nothing
  pub no_field_more : (ss : List Planned) (i : ℕ) (s : Planned) (ws : List code.Reading)
      → slice_get ss i ≡ Some s → found.members_in (s ∷ []) ≡ []
      → AreToldFields t nodes o (found.members_in (take i ss)) ws
      → AreToldFields t nodes o (found.members_in (take (i + 1) ss)) ws
  no_field_more ss i s ws there is h =
      subst (λ (ms : List MemberPart). AreToldFields t nodes o ms ws)
      (sym (more_members ss i s there ∙ ap (λ ns. found.members_in (take i ss) ++ ns) is
      ∙ append-nil (found.members_in (take i ss)))) h

  -- what is chosen where an object has one reading by a part is one
  same_choice : (p : Part) (a b : ChoiceAt)
      → IsOnlyAt (rules_at t) (ReadsValue (rules_at t)) (object_view nodes o) p a
      → IsOnlyAt (rules_at t) (ReadsValue (rules_at t)) (object_view nodes o) p b → a ≡ b
  same_choice p a b f g = sym f.is ∙ g.only.only f.only.value f.only.has ∙ g.is

  -- how a member is read, by how it is chosen
  same_read : (r q : Option Reading) → choice_of r ≡ choice_of q → r ≡ q
  same_read None None e = refl
  same_read None (Some q) e = absurd (cc)
  same_read (Some r) None e = absurd (cc)
  same_read (Some r) (Some q) e = cc

  -- what is told of the members of steps is of the steps' readings
  pub fields_told : (ss : List Step) (ws : List code.Reading)
      → All (IsOnlyStep (rules_at t) (ReadsValue (rules_at t)) (object_view nodes o)) ss
      → AreToldFields t nodes o (found.members_in (map planned_of ss)) ws
      → TellsFields (rules_at t) t.shapes.now (members_in (value_of nodes o.node)) (fields_in ss) ws
  fields_told [] [] only h = no_fields (members_in (value_of nodes o.node))
  fields_told [] (w ∷ ws) only h = absurd h
  fields_told (a_field path m r ∷ ss) [] only h = absurd h
  fields_told (a_field path m r ∷ ss) (w ∷ ws) only h =
      let P = IsOnlyStep (rules_at t) (ReadsValue (rules_at t)) (object_view nodes o) in
      let f = h.0 in
      let same = same_read f.read r (same_choice (a_member m) (choice_of f.read) (choice_of r)
      f.only (All-head P (a_field path m r) ss only)) in
      one_field (members_in (value_of nodes o.node))
      (record { path = path; part = m; read = r }) w (fields_in ss) ws
      (subst
      (λ q. TellsField (rules_at t) t.shapes.now (members_in (value_of nodes o.node)) m q w)
      same f.tells)
      (fields_told ss ws (All-tail P (a_field path m r) ss only) h.1)
  fields_told (a_variant path id k ∷ ss) ws only h =
      let P = IsOnlyStep (rules_at t) (ReadsValue (rules_at t)) (object_view nodes o) in
      fields_told ss ws (All-tail P (a_variant path id k) ss only) h
  fields_told (an_absence path ∷ ss) ws only h =
      let P = IsOnlyStep (rules_at t) (ReadsValue (rules_at t)) (object_view nodes o) in
      fields_told ss ws (All-tail P (an_absence path) ss only) h
  fields_told (a_rest k u ∷ ss) ws only h =
      let P = IsOnlyStep (rules_at t) (ReadsValue (rules_at t)) (object_view nodes o) in
      fields_told ss ws (All-tail P (a_rest k u) ss only) h

  -- what a catch-all takes in one way
  pub same_taken : (k : CatchAll) (u v : Taken)
      → IsOnlyAt (rules_at t) (ReadsValue (rules_at t)) (object_view nodes o) (a_catch_all k)
      (taking u)
      → IsOnlyAt (rules_at t) (ReadsValue (rules_at t)) (object_view nodes o) (a_catch_all k)
      (taking v)
      → u ≡ v
  same_taken k u v f g =
      let same : taking u ≡ taking v = same_choice (a_catch_all k) (taking u) (taking v) f g in cc
