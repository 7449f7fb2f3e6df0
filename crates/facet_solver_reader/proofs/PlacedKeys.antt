-- What placed lists say of the keys of parts: which are known, and which stand twice.
use Rattle.std.proofs.Common.{◌≡◌, ◌↔◌, refl, sym, ap, subst, ◌∙◌, ℕ, arith, List, get_or, true, false, Option, Some, None, MatchOption, slice_get, IsTrue}
use Rattle.std.specs.List.{All, AllPairs, Any}
use Rattle.std.specs.Bool.{⊤}
use Rattle.std.specs.Option.{option_and_then, option_map, option_map_or}
use Rattle.std.proofs.lemmas.Bool.{false≢true}
use Rattle.std.proofs.lemmas.List.Folds.{Any-from_list_any, list_any-from_Any}
use Rattle.std.proofs.lemmas.Option.{slice_get-get_or, slice_get-map}
use Rattle.std.proofs.lemmas.Slice.Eq.{bytes_eq-Decides}
use Rattle.facet_solver_shape.specs.Catalogues.{Catalogue}
use Rattle.facet_solver_shape.specs.Names.{Name}
use Rattle.facet_solver_reader.specs.declared.part.Part as code_part
use Rattle.facet_solver_reader.specs.declared.tables.List.{List as ListEntry}
use Rattle.facet_solver_reader.specs.declared.tables.order.Ordered.{Ordered}
use Rattle.facet_solver_reader.specs.declared.tables.fault.Fault.{Fault}
use Rattle.facet_solver_reader.specs.declared.tables.fault.Fault.TheVariants.{NoShape, ReadsItself, ContainsItself, NameTwice, TwoCatchAlls, OutOfMemory}
use Rattle.facet_solver_reader.specs.EveryList.{IsChosen}
use Rattle.facet_solver_reader.specs.Known.{Chooses, ChoosesAll, ChoosesAt, HasChoice, IsDistinct, IsKnown, Key, named, rest}
use Rattle.facet_solver_reader.specs.OrderedLists.{IsPlacedAt, IsTwiceAt, IsTwiceIn, IsWhyUnordered}
use Rattle.facet_solver_reader.specs.Parts.{ListId, Part, a_member, a_selection, a_catch_all}
use Rattle.facet_solver_reader.specs.Placing.{ArePartNames, AreSharing, IsPlacing, IsRestOf, IsShared, IsUnplaced, IsWhyShared, PartHasBranchNamesIn, PartIsPlaced, goes_by, is_rest, list_knows, part_knows}
use Rattle.facet_solver_reader.specs.SelectionNames.{PartHasBranchNames}
use Rattle.facet_solver_reader.specs.Slots.{index_of}
use Rattle.facet_solver_reader.specs.Tables.{knows}
use Rattle.facet_solver_reader.specs.Types.{parts_of}
use Rattle.facet_solver_reader.specs.Views.{part_view, parts_view, selection_view}
use Rattle.facet_solver_reader.proofs.Distinct.{KnowApart, distinct_of_catch_all, distinct_of_each, distinct_of_member, distinct_of_selection}
use Rattle.facet_solver_reader.proofs.Knowledge.{distinct_of_no_choice, known_has_choice, known_in_some, known_of_catch_all, known_of_member, known_of_selection, known_of_some}
use Rattle.facet_solver_reader.proofs.Lists.{choice_of_list, choices_of_list, distinct_of_list, known_of_list}
use Rattle.facet_solver_reader.proofs.PartNames.{knows_contained}
use Rattle.facet_solver_reader.proofs.Quantifiers.{all_at, all_from, any_at, any_is_at}
use Rattle.facet_solver_reader.proofs.Repeated.{repeats_pair}

-- some of a list have a property where some have another that is the same
any_same : {X : Type 0} (P Q : X → Type 0) (xs : List X)
    → ((k : ℕ) (x : X) → slice_get xs k ≡ Some x → P x → Q x) → Any P xs → Any Q xs
any_same P Q xs f a = any_at Q xs a.0 a.1 (any_is_at P xs a) (f a.0 a.1 (any_is_at P xs a) a.4)

-- whether a key is the name of a member
goes_by_name : (name : Name) (x : Key) → IsTrue (goes_by name x) ↔ (named name ≡ x)
goes_by_name name (named y) = (
  λ t. ap named ((bytes_eq-Decides name y).0 t),
  λ e. let same : name ≡ y = cc in (bytes_eq-Decides name y).1 same,
)
goes_by_name name rest = (λ t. absurd (false≢true t), λ e. absurd (cc))

-- whether it is the rest
goes_by_rest : (x : Key) → IsTrue (is_rest x) ↔ (rest ≡ x)
goes_by_rest (named y) = (λ t. absurd (false≢true t), λ e. absurd (cc))
goes_by_rest rest = (λ t. refl, λ e. refl)

module _ (shapes : Catalogue) (o : Ordered) (h : IsPlacing shapes o) where
  -- a list that is placed, if it has a choice, knows the keys that its choices have
  known_of_placed : (x : Key) (id : ListId) → ¬ IsUnplaced shapes o id
      → IsTrue (list_knows o x id) ↔ IsKnown (Chooses (parts_of shapes) id) x
  known_of_placed x id ready = go (index_of o.slots id) refl (h.at id)
    where
      go : (i : Option ℕ) → index_of o.slots id ≡ i → MatchOption i ⊤ (IsPlacedAt o id)
          → IsTrue (list_knows o x id) ↔ IsKnown (Chooses (parts_of shapes) id) x
      go None e a = (
        λ t.
            let none : list_knows o x id ≡ false =
            ap (λ (i : Option ℕ). option_map_or (λ (l : ListEntry). knows l x) (option_and_then (slice_get o.lists.items) i) false) e in
            absurd (false≢true (sym none ∙ t)),
        λ k. absurd (ready (known_has_choice (Chooses (parts_of shapes) id) x k, e)),
      )
      go (Some j) e a =
          let same : list_knows o x id ≡ knows a.entry x =
          ap (λ (i : Option ℕ). option_map_or (λ (l : ListEntry). knows l x) (option_and_then (slice_get o.lists.items) i) false) e
          ∙ ap (λ (l : Option ListEntry). option_map_or (λ (l : ListEntry). knows l x) l false) a.is_there in
          let known = (h.placed j a.entry a.is_there).known x in (
            λ t. subst (λ q. IsKnown (Chooses (parts_of shapes) q) x) a.same (known.0 (sym same ∙ t)),
            λ k. same ∙ known.1 (subst (λ q. IsKnown (Chooses (parts_of shapes) q) x) (sym a.same) k),
          )

  -- and none of its choices has a key twice
  distinct_of_placed : (id : ListId) → ¬ IsUnplaced shapes o id → IsDistinct (Chooses (parts_of shapes) id)
  distinct_of_placed id ready = go (index_of o.slots id) refl (h.at id)
    where
      go : (i : Option ℕ) → index_of o.slots id ≡ i → MatchOption i ⊤ (IsPlacedAt o id)
          → IsDistinct (Chooses (parts_of shapes) id)
      go None e a = distinct_of_no_choice (Chooses (parts_of shapes) id) (λ c. ready (c, e))
      go (Some j) e a = subst (λ q. IsDistinct (Chooses (parts_of shapes) q)) a.same (h.placed j a.entry a.is_there).distinct

  -- a part of lists that are placed knows the keys that its choices have
  pub known_of_part : (x : Key) (p : Part) → PartIsPlaced shapes o p
      → IsTrue (part_knows o x p) ↔ IsKnown (ChoosesAt (parts_of shapes) p) x
  known_of_part x (a_member m) ready =
      let a = goes_by_name m.name x in
      let b = known_of_member (parts_of shapes) m x in
      (λ t. b.1 (a.0 t), λ k. a.1 (b.0 k))
  known_of_part x (a_catch_all c) ready =
      let a = goes_by_rest x in
      let b = known_of_catch_all (parts_of shapes) c x in
      (λ t. b.1 (a.0 t), λ k. a.1 (b.0 k))
  known_of_part x (a_selection s) ready =
      let lists = parts_of shapes in
      let a = known_of_selection lists s x in
      let b = known_in_some lists s x in
      let here : (k : ℕ) (id : ListId) → slice_get s.branches k ≡ Some id → ¬ IsUnplaced shapes o id =
      λ k id e. all_at (λ q. ¬ IsUnplaced shapes o q) s.branches k id ready e in (
        λ t.
            a.1 (b.1 (any_same (λ id. list_knows o x id ≡ true) (λ id. IsKnown (Chooses lists id) x) s.branches
            (λ k id e u. (known_of_placed x id (here k id e)).0 u)
            (Any-from_list_any (list_knows o x) s.branches t))),
        λ n.
            list_any-from_Any (list_knows o x) s.branches
            (any_same (λ id. IsKnown (Chooses lists id) x) (λ id. list_knows o x id ≡ true) s.branches
            (λ k id e u. (known_of_placed x id (here k id e)).1 u)
            (b.0 (a.0 n))),
      )

  -- so where a selection has the names that it knows by these lists, it has those of its branches'
  -- choices
  named_of_part : (p : code_part.Part) → PartIsPlaced shapes o (part_view p) → PartHasBranchNamesIn o p
      → PartHasBranchNames (parts_of shapes) p
  named_of_part (code_part.TheVariants.Member m) ready h = tt
  named_of_part (code_part.TheVariants.CatchAll k) ready h = tt
  named_of_part (code_part.TheVariants.Selection s) ready h = record {
    sorted = h.sorted;
    known = λ x.
        let a = knows_contained s.names.items x in
        let b = h.those.has x in
        let c = known_of_part (named x) (a_selection (selection_view s)) ready in
        let d = known_of_selection (parts_of shapes) (selection_view s) (named x) in
        (λ t. d.0 (c.0 (b.0 (a.1 t))), λ k. a.0 (b.1 (c.1 (d.1 k))));
  }

  pub named_of_parts : (ps : List code_part.Part) → All (PartIsPlaced shapes o) (parts_view ps)
      → All (PartHasBranchNamesIn o) ps → All (PartHasBranchNames (parts_of shapes)) ps
  named_of_parts ps ready h k d within =
      let p = get_or ps k d in
      named_of_part p
      (all_at (PartIsPlaced shapes o) (parts_view ps) k (part_view p) ready
      (slice_get-map part_view ps k ∙ ap (option_map part_view) (slice_get-get_or ps k d within)))
      (h k d within)

  -- and none of its choices has a key twice
  pub distinct_of_part : (p : Part) → PartIsPlaced shapes o p → IsDistinct (ChoosesAt (parts_of shapes) p)
  distinct_of_part (a_member m) ready = distinct_of_member (parts_of shapes) m
  distinct_of_part (a_catch_all c) ready = distinct_of_catch_all (parts_of shapes) c
  distinct_of_part (a_selection s) ready =
      (distinct_of_selection (parts_of shapes) s).1
      (all_from (λ id. IsDistinct (Chooses (parts_of shapes) id)) s.branches
      (λ k id e. distinct_of_placed id (all_at (λ q. ¬ IsUnplaced shapes o q) s.branches k id ready e)))

  module _ (id : ListId) (ps : List Part) (e : parts_of shapes id ≡ Some ps) (chosen : IsChosen shapes id) (ready : All (PartIsPlaced shapes o) ps) where
    choice : HasChoice (ChoosesAll (parts_of shapes) ps)
    choice = (choice_of_list (parts_of shapes) id ps e).1 chosen

    ready_at : (k : ℕ) (p : Part) → slice_get ps k ≡ Some p → PartIsPlaced shapes o p
    ready_at k p at = all_at (PartIsPlaced shapes o) ps k p ready at

    -- a list knows what some part knows
    pub known_of_parts : (x : Key)
        → Any (λ p. IsTrue (part_knows o x p)) ps ↔ IsKnown (Chooses (parts_of shapes) id) x
    known_of_parts x =
        let a = known_of_some (parts_of shapes) ps x in
        let b = known_of_list (parts_of shapes) id ps e x in (
          λ t.
              b.0 (a.1 (
                choice,
                any_same (λ p. IsTrue (part_knows o x p)) (λ p. IsKnown (ChoosesAt (parts_of shapes) p) x) ps
                    (λ k p at u. (known_of_part x p (ready_at k p at)).0 u) t,
              )),
          λ n.
              any_same (λ p. IsKnown (ChoosesAt (parts_of shapes) p) x) (λ p. IsTrue (part_knows o x p)) ps
              (λ k p at u. (known_of_part x p (ready_at k p at)).1 u) ((a.0 (b.1 n)).1),
        )

    -- where no two parts share a key, no choice has one twice
    pub distinct_unshared : ((x : Key) → IsShared o ps x → ⊥) → IsDistinct (Chooses (parts_of shapes) id)
    distinct_unshared unshared =
        (distinct_of_list (parts_of shapes) id ps e).0
        ((distinct_of_each (parts_of shapes) ps choice).1
        (all_from (λ p. IsDistinct (ChoosesAt (parts_of shapes) p)) ps (λ k p at. distinct_of_part p (ready_at k p at)), apart))
      where
        apart : AllPairs (KnowApart (parts_of shapes)) ps
        apart i j d less within x k l =
            let at_i = slice_get-get_or ps i d (omega arith) in
            let at_j = slice_get-get_or ps j d within in
            unshared x (record {
              first = i;
              second = j;
              apart = less;
              one = get_or ps i d;
              other = get_or ps j d;
              at_first = at_i;
              at_second = at_j;
              first_knows = (known_of_part x (get_or ps i d) (ready_at i (get_or ps i d) at_i)).1 k;
              second_knows = (known_of_part x (get_or ps j d) (ready_at j (get_or ps j d) at_j)).1 l;
            })

    -- a key that two parts share some choice has twice
    pub twice_shared : (x : Key) → IsShared o ps x → IsTwiceIn shapes id x
    twice_shared x s =
        let r =
        repeats_pair (parts_of shapes) ps x s.first s.second s.one s.other choice s.apart s.at_first s.at_second
        ((known_of_part x s.one (ready_at s.first s.one s.at_first)).0 s.first_knows)
        ((known_of_part x s.other (ready_at s.second s.other s.at_second)).0 s.second_knows) in
        record {
          choice = r.choice;
          items = r.items;
          chooses = (choices_of_list (parts_of shapes) id ps e r.choice r.items).0 r.chooses;
          twice = r.twice;
        }

    -- and so by the two parts
    twice_sharing : (x : Key) (first second : ℕ) → AreSharing o ps x first second
        → IsTwiceAt shapes id x first second
    twice_sharing x first second w =
        let s = w.0 in
        record {
          twice = twice_shared x s;
          parts = ps;
          one = s.one;
          other = s.other;
          parts_are = e;
          apart = let less = s.apart in let i = w.1 in let j = w.2 in omega (arith, less, i, j);
          at_first = ap (slice_get ps) (sym w.1) ∙ s.at_first;
          at_second = ap (slice_get ps) (sym w.2) ∙ s.at_second;
          first_has = (known_of_part x s.one (ready_at s.first s.one s.at_first)).0 s.first_knows;
          second_has =
              (known_of_part x s.other (ready_at s.second s.other s.at_second)).0 s.second_knows;
        }

    -- so that is why lists cannot be ordered
    pub unordered_shared : (fault : Fault) → IsWhyShared o id ps fault → IsWhyUnordered shapes fault
    unordered_shared (NoShape shape) w = w
    unordered_shared (ReadsItself shape) w = w
    unordered_shared (ContainsItself list) w = absurd w
    unordered_shared (NameTwice list name first second) w =
        subst (λ q. IsTwiceAt shapes q (named name.now) first second) (sym w.0)
        (twice_sharing (named name.now) first second w.1)
    unordered_shared (TwoCatchAlls list first second) w =
        subst (λ q. IsTwiceAt shapes q rest first second) (sym w.0)
        (twice_sharing rest first second w.1)
    unordered_shared OutOfMemory w = w

    -- what the names of the parts and whether one takes the rest say of a list with them
    module _ (l : ListEntry) (names : ArePartNames o ps l.names.items) (takes : IsRestOf o ps l.takes_rest) where
      pub known_of_entry_keys : (x : Key) → IsTrue (knows l x) ↔ IsKnown (Chooses (parts_of shapes) id) x
      known_of_entry_keys (named y) =
          let a = knows_contained l.names.items y in
          let b = names.has y in
          let c = known_of_parts (named y) in
          (λ t. c.0 (b.0 (a.1 t)), λ k. a.0 (b.1 (c.1 k)))
      known_of_entry_keys rest =
          let c = known_of_parts rest in
          (λ t. c.0 (takes.has.0 t), λ k. takes.has.1 (c.1 k))

      pub distinct_of_entry : IsDistinct (Chooses (parts_of shapes) id)
      distinct_of_entry = distinct_unshared unshared
        where
          unshared : (x : Key) → IsShared o ps x → ⊥
          unshared (named y) s = names.apart y s
          unshared rest s = takes.apart s
