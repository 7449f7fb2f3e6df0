-- Tables of a type are made of what is reached, ranked and put in order.
use Rattle.std.proofs.Common.{◌≡◌, ℕ, ◌<◌, Bool, All, Option, Some, None, slice_get, length}
use Rattle.std.proofs.Common.{refl, sym, ap, ◌∙◌, subst, arith, MatchOption}
use Rattle.std.specs.Bool.{⊤}
use Rattle.std.specs.declared.vec.Vec.{Vec}
use Rattle.std.specs.declared.alloc.Global.{Global}
use Rattle.facet_solver_shape.specs.Catalogues.{Catalogue}
use Rattle.facet_solver_reader.specs.declared.end.End as code
use Rattle.facet_solver_reader.specs.declared.tables.List.{List as ListEntry}
use Rattle.facet_solver_reader.specs.declared.tables.Tables.{Tables}
use Rattle.facet_solver_reader.specs.declared.tables.every.EveryList.{EveryList}
use Rattle.facet_solver_reader.specs.declared.tables.marks.Marks.{Marks}
use Rattle.facet_solver_reader.specs.declared.tables.order.Ordered.{Ordered}
use Rattle.facet_solver_reader.specs.declared.tables.ranks.Ranks.{Ranks}
use Rattle.facet_solver_reader.specs.declared.tables.reached.Reached.{Reached}
use Rattle.facet_solver_reader.specs.EveryList.{AreEveryList, IsChosen, IsNumbered}
use Rattle.facet_solver_reader.specs.Known.{Chooses, HasChoice}
use Rattle.facet_solver_reader.specs.Leads.{ContentHas, EndHas, PartHas, TargetHas}
use Rattle.facet_solver_reader.specs.OrderedLists.{AreOrdered, BranchIsMarked, IsMarked, IsPlacedAt}
use Rattle.facet_solver_reader.specs.OrderedLists.{IsAbout, IsMarkedList, IsWhyUnordered}
use Rattle.facet_solver_reader.specs.Met.{ListIsMet, ShapeIsMet}
use Rattle.facet_solver_reader.proofs.AboutFaults.{about_more}
use Rattle.facet_solver_reader.specs.NoTables.{IsWhyNoTables}
use Rattle.facet_solver_reader.specs.declared.tables.fault.Fault.{Fault}
use Rattle.facet_solver_reader.specs.declared.tables.fault.Fault.TheVariants.{NoShape, ReadsItself, ContainsItself, NameTwice, TwoCatchAlls, OutOfMemory}
use Rattle.facet_solver_reader.specs.Parts.{of_map, of_anything, ListId, Part, a_member}
use Rattle.facet_solver_reader.specs.Parts.{a_selection, a_catch_all, Target, of_shape, of_content}
use Rattle.facet_solver_reader.specs.Parts.{of_tag}
use Rattle.facet_solver_reader.specs.Ranked.{AreRanked, AreEnds}
use Rattle.facet_solver_reader.specs.Reached.{IsRanked}
use Rattle.facet_solver_reader.specs.Rules.{Content, End, no_content, as_shape, as_tuple, as_object}
use Rattle.facet_solver_reader.specs.Rules.{an_option, a_list, a_tuple, a_map, an_object}
use Rattle.facet_solver_reader.specs.Rules.{a_named_variant, an_untagged_variant}
use Rattle.facet_solver_reader.specs.Slots.{index_of}
use Rattle.facet_solver_reader.specs.Tags.{AreTags}
use Rattle.facet_solver_reader.specs.Tables.{AreTables, ContentIsServed, EndIsServed, IsEnd, IsList}
use Rattle.facet_solver_reader.specs.Tables.{IsListAt, IsServed, ListIsServed, PartIsServed}
use Rattle.facet_solver_reader.specs.Tables.{ShapeIsServed, rules_at}
use Rattle.facet_solver_reader.specs.Types.{content_at, parts_of}
use Rattle.facet_solver_reader.specs.Views.{end_view, list_view, parts_view}
use Rattle.facet_solver_reader.specs.WorkList.{AreReached, HasEnd, PartIsReached}
use Rattle.std.proofs.lemmas.List.Elements.{All-weaker}
use Rattle.facet_solver_reader.proofs.Leads.{end_has, part_has}
use Rattle.facet_solver_reader.proofs.Ranks.{ranked_more}

-- what is reached is sound
pub reached_sound : (shapes : Catalogue) (every : EveryList) (root : ℕ) (r : Reached)
    → AreReached shapes every root r → AreEnds shapes r.ends.items
reached_sound shapes every root r reached = record {
  each = λ id e is.
      let here = reached.ends id e is in
      (here.0, end_has (λ i h _. h) (λ l h _. tt) (content_at shapes) (end_view e) here.1 here.1);
}

-- what tables have of lists
abbrev pub ordered_of : Tables → Ordered
ordered_of t = record { lists = t.lists; slots = t.slots }

-- what they have of shapes
abbrev pub reached_of : Tables → Marks → Reached
reached_of t marks = record { ends = t.ends; marks = marks }

-- what they have of ranks
abbrev pub ranks_of : Tables → Vec Bool Global → Ranks
ranks_of t is_ranked = record { is_ranked = is_ranked; steps = t.steps }

-- what is said of all that something leads to is what tables are to have
module _ (t : Tables) where
  content_served : (c : Content) → ContentHas (ShapeIsServed t) (ListIsServed t) c
      → ContentIsServed t c
  content_served no_content h = h
  content_served (as_shape id) h = h
  content_served (as_tuple ids) h = h
  content_served (as_object id) h = h

  target_served : (x : Target)
      → TargetHas (ShapeIsServed t) (ListIsServed t) (content_at t.shapes.now) x → IsServed t x
  target_served (of_shape id) h = h
  target_served (of_content id k) h = content_served (content_at t.shapes.now id k) h
  target_served (of_tag name) h = h

  end_served : (e : End)
      → EndHas (ShapeIsServed t) (ListIsServed t) (content_at t.shapes.now) e → EndIsServed t e
  end_served (an_option id) h = h
  end_served (a_list id) h = h
  end_served (a_tuple ids) h = h
  end_served (a_map key value) h = h
  end_served (an_object id) h = h
  end_served (a_named_variant vs) h = λ k d l. target_served _ (h k d l)
  end_served (an_untagged_variant joined alone) h = (h.0, λ k d l. target_served _ (h.1 k d l))
  end_served _ h = h

  part_served : (p : Part)
      → PartHas (ShapeIsServed t) (ListIsServed t) (content_at t.shapes.now) p → PartIsServed t p
  part_served (a_member m) h = target_served m.target h
  part_served (a_selection s) h = h
  part_served (a_catch_all (of_map key value)) h = h
  part_served (a_catch_all of_anything) h = h

module _ (t : Tables) (every : EveryList) (root : ℕ) (marks : Marks) (is_ranked : Vec Bool Global) (listed : AreEveryList t.shapes.now every) (reached : AreReached t.shapes.now every root (reached_of t marks)) (ordered : AreOrdered t.shapes.now every marks.lists.items (ordered_of t)) (ranked : AreRanked t.shapes.now t.ends.items (ranks_of t is_ranked)) (all : (id : ℕ) → HasEnd t.ends.items id → IsMarked is_ranked.items id) (tags : AreTags t.shapes.now t.tags.items) where
  -- a list that is marked, if it has a choice, is there
  list_served : (id : ListId) → BranchIsMarked t.shapes.now every marks.lists.items id
      → ListIsServed t id
  list_served id marked = go (index_of t.slots id) refl (ordered.at id)
    where
      index_there : (n : ℕ) → IsMarked marks.lists.items n → IsNumbered every id n
          → (index : ℕ) × (index_of t.slots id ≡ Some index)
      index_there n m numbered =
          let there = ordered.marked n numbered.list numbered.is_there m in
          (there.0, ap (index_of t.slots) (sym numbered.same) ∙ there.1)

      of_number : (o : Option ℕ) → (n : ℕ) → o ≡ Some n
          → MatchOption o (IsChosen t.shapes.now id → ⊥) (IsNumbered every id)
          → IsNumbered every id n
      of_number None n e h = absurd (cc)
      of_number (Some k) n e h = let same : k ≡ n = cc in subst (IsNumbered every id) same h

      go : (o : Option ℕ) → index_of t.slots id ≡ o
          → MatchOption o ⊤ (IsPlacedAt (ordered_of t) id)
          → MatchOption o (HasChoice (Chooses (rules_at t).lists id) → ⊥) (IsListAt t id)
      go None e placed = λ chosen.
          let m = marked chosen in
          let numbered = of_number (index_of every.numbers id) m.0 m.1 (listed.numbered id) in
          let there = index_there m.0 m.2 numbered in
          let both : None ≡ Some there.0 = sym e ∙ there.1 in
          cc
      go (Some index) e placed =
          record { entry = placed.entry; is_there = placed.is_there; same = placed.same }

  -- an end that is there
  end_is : (id : ℕ) (e : code.End) → slice_get t.ends.items id ≡ Some (Some e) → IsEnd t id e
  end_is id e is =
      let here = reached.ends id e is in
      let rank = ranked.ranked id (all id (e, is)) in
      record {
        same = here.0;
        served =
            end_served t (end_view e)
            (end_has (λ i h _. h) (λ l h _. list_served l h) (content_at t.shapes.now) (end_view e) here.1 here.1);
        ranked = (rank.0, rank.1, rank.2 t.strict);
      }

  -- a part whose lists are marked
  part_is_served : (p : Part) → PartIsReached t.shapes.now every (reached_of t marks) p
      → PartIsServed t p
  part_is_served p h =
      part_served t p
      (part_has {P = HasEnd t.ends.items} {A = HasEnd t.ends.items} {B = BranchIsMarked t.shapes.now every marks.lists.items} (λ i h _. h) (λ l h _. list_served l h) (content_at t.shapes.now) p h h)

  -- the parts of a list that is placed
  parts_served : (index : ℕ) (l : ListEntry) → slice_get t.lists.items index ≡ Some l
      → All (PartIsServed t) (parts_view l.parts.items)
  parts_served index l is =
      let placed = ordered.placed index l is in
      let from = ordered.from_marked index l is in
      let numbered = of_number (index_of every.numbers (list_view l.id)) from.0 from.1 (listed.numbered (list_view l.id)) in
      let parts = (listed.listed from.0 numbered.list numbered.is_there).same in
      let one : Some (parts_view numbered.list.parts.items) ≡ Some (parts_view l.parts.items) =
      sym parts ∙ ap (parts_of t.shapes.now) numbered.same ∙ placed.same
      in
      let same : parts_view numbered.list.parts.items ≡ parts_view l.parts.items = cc in
      subst (All (PartIsServed t)) same
      (All-weaker (PartIsReached t.shapes.now every (reached_of t marks)) (PartIsServed t) part_is_served (parts_view numbered.list.parts.items)
      (reached.lists from.0 numbered.list numbered.is_there from.2))
    where
      of_number : (o : Option ℕ) → (n : ℕ) → o ≡ Some n
          → MatchOption o (IsChosen t.shapes.now (list_view l.id) → ⊥) (IsNumbered every (list_view l.id))
          → IsNumbered every (list_view l.id) n
      of_number None n e h = absurd (cc)
      of_number (Some k) n e h =
          let same : k ≡ n = cc in subst (IsNumbered every (list_view l.id)) same h

  -- a list that is there
  list_is : (index : ℕ) (l : ListEntry) → slice_get t.lists.items index ≡ Some l
      → IsList t index l
  list_is index l is =
      let placed = ordered.placed index l is in
      record {
        same = placed.same;
        served = parts_served index l is;
        chosen = placed.chosen;
        distinct = placed.distinct;
        known = placed.known;
        sorted = placed.sorted;
        named = placed.named;
        rising = placed.rising;
        in_order = placed.in_order;
        last = placed.last;
      }

  -- the tables are made
  pub tables_made : AreTables t
  tables_made =
      record { some_steps = ranked.some; ends = end_is; lists = list_is; tags = tags }

  -- the root can be asked
  pub root_made : root < length t.shapes.now
      → ShapeIsServed t root × IsRanked t.steps (rules_at t) (of_shape root)
  root_made within =
      let has = reached.root_is_there within in
      let rank = ranked.ranked root (all root has) in
      (has, ranked_more (rules_at t) rank.0 t.steps (of_shape root) (rank.2 t.strict) (let l = rank.1 in omega arith))

-- why lists cannot be ordered is why there are no tables
pub unordered_refused : (shapes : Catalogue) (root : ℕ) (fault : Fault)
    → IsWhyUnordered shapes fault
    → IsAbout (λ q. (strict : Bool) → ListIsMet shapes strict root q) fault
    → IsWhyNoTables shapes root fault
unordered_refused shapes root (NoShape id) w a = absurd w
unordered_refused shapes root (ReadsItself id) w a = absurd w
unordered_refused shapes root (ContainsItself id) w a = (w, a)
unordered_refused shapes root (NameTwice id name first second) w a = (w, a)
unordered_refused shapes root (TwoCatchAlls id first second) w a = (w, a)
unordered_refused shapes root OutOfMemory w a = (w, a)

-- a shape that has its end is one that a document comes to
pub shape_met : (shapes : Catalogue) (every : EveryList) (root : ℕ) (r : Reached)
    → AreReached shapes every root r → (id : ℕ) → HasEnd r.ends.items id
    → (strict : Bool) → ShapeIsMet shapes strict root id
shape_met shapes every root r reached id has strict =
    (reached.met strict).of_shapes id (reached.sound id has)

-- and so is a fault of a marked list
pub fault_met : (shapes : Catalogue) (every : EveryList) (root : ℕ) (r : Reached)
    → AreReached shapes every root r → (fault : Fault)
    → IsAbout (IsMarkedList every r.marks.lists.items) fault
    → IsAbout (λ q. (strict : Bool) → ListIsMet shapes strict root q) fault
fault_met shapes every root r reached fault a =
    about_more (IsMarkedList every r.marks.lists.items) (λ q. (strict : Bool) → ListIsMet shapes strict root q)
    (λ q m strict.
    subst (ListIsMet shapes strict root) m.same ((reached.met strict).of_lists m.number m.marked m.list m.is_there))
    fault a

-- what is said where nothing is found
pub none_found : {X : Type 0} (o : Option X) (P : Type 0) (Q : X → Type 0)
    → ((x : X) → o ≡ Some x → ⊥) → MatchOption o P Q → P
none_found None P Q no_some h = h
none_found (Some x) P Q no_some h = absurd (no_some x refl)
