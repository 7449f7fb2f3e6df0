-- A choice that has no key, and goes through no list that tells of an enum, has no steps.
use Rattle.std.proofs.Common.{◌≡◌, ◌∙◌, sym, ap, subst, refl, inl, ℕ, suc, ◌<◌, List, [], ◌∷◌}
use Rattle.std.proofs.Common.{◌++◌, ◌||◌, Bool, Option, Some, None, true, false, slice_get}
use Rattle.std.proofs.lemmas.List.Folds.{list_any-from_Any}
use Rattle.std.specs.Prelude.{MatchOption, ⊤}
use Rattle.std.specs.List.{All}
use Rattle.std.specs.Option.{unwrap_or}
use Rattle.facet_solver_reader.specs.declared.tables.List.{List as ListEntry}
use Rattle.facet_solver_reader.specs.declared.tables.Tables.{Tables}
use Rattle.facet_solver_reader.specs.Choices.{Choice, ChoiceAt, ChoosesPart, ChoosesParts, Item}
use Rattle.facet_solver_reader.specs.Choices.{choosing, done, having, lacking, next}
use Rattle.facet_solver_reader.specs.Choices.{presence, taking, without}
use Rattle.facet_solver_reader.specs.FieldPlaces.{Path, field_name, path_at}
use Rattle.facet_solver_reader.specs.Known.{Chooses, HasChoice, HasKey, Key, named, rest}
use Rattle.facet_solver_reader.specs.Parts.{ListId, Lists, Part, Selection, a_member}
use Rattle.facet_solver_reader.specs.Parts.{a_selection, a_catch_all}
use Rattle.facet_solver_reader.specs.Parts.{of_struct, of_enum, of_joined, of_branch, of_fields}
use Rattle.facet_solver_reader.specs.Planned.{walk_at}
use Rattle.facet_solver_reader.specs.Slots.{index_of}
use Rattle.facet_solver_reader.specs.Steps.{Placed, Step, Walk, absence, is_branch}
use Rattle.facet_solver_reader.specs.Steps.{is_of_enum, place_below, placed, placed_from}
use Rattle.facet_solver_reader.specs.Steps.{selected, step_at, steps_of, through}
use Rattle.facet_solver_reader.specs.Tables.{AreTables, BranchIsBefore, IsListAt, ListIsServed}
use Rattle.facet_solver_reader.specs.Tables.{PartIsBefore, PartIsServed, rules_at}
use Rattle.facet_solver_reader.specs.Tells.{TellsNothing, may_lack_enum, tells_of_enum}
use Rattle.facet_solver_reader.specs.Views.{list_view, parts_view}
use Rattle.facet_solver_reader.proofs.Items.{HasKey-left, HasKey-right}
use Rattle.facet_solver_reader.proofs.Quantifiers.{all_at, all_from, all_of_more, any_at}

-- what is no branch of an enum selects no variant
none_selected : (path : Path) (id : ListId) → (is_branch id ≡ true → ⊥) → selected path id ≡ []
none_selected path (of_branch s k) other = absurd (other refl)
none_selected path (of_struct s) other = refl
none_selected path (of_enum s) other = refl
none_selected path (of_joined s) other = refl
none_selected path (of_fields s k) other = refl

-- a list that is a branch of an enum tells of one
branch_tells : (id : ListId) (ps : List Part) → is_branch id ≡ true → tells_of_enum id ps ≡ true
branch_tells id ps branch = rw branch refl

-- and so does a list where one may be absent
lack_tells : (id : ListId) (ps : List Part) (k : ℕ) (p : Part) → slice_get ps k ≡ Some p
    → may_lack_enum p ≡ true → tells_of_enum id ps ≡ true
lack_tells id ps k p at lacks =
    either (is_branch id)
    (list_any-from_Any may_lack_enum ps (any_at (λ q. may_lack_enum q ≡ true) ps k p at lacks))
  where
    either : (b : Bool) {c : Bool} → c ≡ true → (b || c) ≡ true
    either true h = refl
    either false h = h

-- an optional selection that is of no enum has no absence
no_absence : (path : Path) (s : Selection) → s.optional ≡ true
    → (may_lack_enum (a_selection s) ≡ true → ⊥) → absence path s ≡ []
no_absence path s optional other = go (is_of_enum s) refl
  where
    go : (b : Bool) → is_of_enum s ≡ b → absence path s ≡ []
    go true e = absurd (other (rw (optional, e) refl))
    go false e = rw e refl

-- items without a key
abbrev HaveNone : List Item → Type 0
HaveNone items = (x : Key) → HasKey items x → ⊥

module _ (t : Tables) (tables : AreTables t) (index : ℕ) (l : ListEntry)
    (listed : slice_get t.lists.items index ≡ Some l) (nothing : TellsNothing t l) where
  abbrev lists : Lists
  lists = (rules_at t).lists

  abbrev walk : Walk
  walk = walk_at t

  -- a part whose branches are among the lists that the choices go through, and which is no enum
  -- that may be absent
  record IsWithin (p : Part) : Type 0 where
    served : PartIsServed t p
    other : may_lack_enum p ≡ true → ⊥
    position : ℕ
    before : PartIsBefore t l.below.items position p

  -- the same of the list at a position
  within_at : (position i : ℕ) (e : ListEntry) → slice_get l.below.items position ≡ Some i
      → slice_get t.lists.items i ≡ Some e → All IsWithin (parts_view e.parts.items)
  within_at position i e below at =
      let a = (tables.lists index l listed).in_order position i below in
      let both : Some a.0 ≡ Some e = sym a.1 ∙ at in
      let one : a.0 ≡ e = cc in
      let before = subst
      (λ (x : ListEntry). All (PartIsBefore t l.below.items position) (parts_view x.parts.items))
      one a.2 in
      all_from IsWithin (parts_view e.parts.items)
      (λ k p here.
      record {
        served =
            all_at (PartIsServed t) (parts_view e.parts.items) k p (tables.lists i e at).served
            here;
        other = λ lacks.
            nothing.no_enum (record {
              position = position;
              index = i;
              entry = e;
              is_below = below;
              listed = at;
              tells = lack_tells (list_view e.id) (parts_view e.parts.items) k p here lacks;
            });
        position = position;
        before =
            all_at (PartIsBefore t l.below.items position) (parts_view e.parts.items) k p before
            here;
      })

  -- a branch that has a choice is one of those lists: none of an enum, and its parts are within
  record IsInside (id : ListId) (ps : List Part) : Type 0 where
    other : is_branch id ≡ true → ⊥
    parts : All IsWithin ps

  inside : (s : Selection) (k : ℕ) (id : ListId) (ps : List Part) → IsWithin (a_selection s)
      → slice_get s.branches k ≡ Some id → lists id ≡ Some ps → HasChoice (Chooses lists id)
      → IsInside id ps
  inside s k id ps within at are choice =
      go (index_of t.slots id) (all_at (ListIsServed t) s.branches k id within.served at)
      (all_at (BranchIsBefore t l.below.items within.position) s.branches k id within.before at)
    where
      go : (o : Option ℕ) → MatchOption o (HasChoice (Chooses lists id) → ⊥) (IsListAt t id)
          → MatchOption o ⊤
          (λ i. (q : ℕ) × (q < within.position) × (slice_get l.below.items q ≡ Some i))
          → IsInside id ps
      go None h before = absurd (h choice)
      go (Some i) h before =
          let e = h.entry in
          let is = tables.lists i e h.is_there in
          let both : Some (parts_view e.parts.items) ≡ Some ps =
          sym is.same ∙ ap lists h.same ∙ are in
          let same : parts_view e.parts.items ≡ ps = cc in
          record {
            other = λ branch.
                nothing.no_enum (record {
                  position = before.0;
                  index = i;
                  entry = e;
                  is_below = before.2;
                  listed = h.is_there;
                  tells = branch_tells (list_view e.id) (parts_view e.parts.items)
                      (ap is_branch h.same ∙ branch);
                });
            parts = subst (All IsWithin) same (within_at before.0 i e before.2 h.is_there);
          }

  mutual
    -- a choice of parts has no steps
    no_steps : (c : Choice) (ps : List Part) (items : List Item) → All IsWithin ps
        → ChoosesParts lists c ps items → HaveNone items
        → (place : Path) (id : ListId) (i : ℕ)
        → steps_of walk c (placed_from t.shapes.now place id i ps) ≡ []
    no_steps done [] items within h none place id i = refl
    no_steps done (p ∷ ps) items within h none place id i = absurd h
    no_steps (next a c) [] items within h none place id i = absurd h
    no_steps (next a c) (p ∷ ps) items within h none place id i =
        let each = (all_of_more IsWithin p ps).0 within in
        let pl : Placed =
        record {
          name = field_name t.shapes.now id i;
          path = path_at t.shapes.now place id i;
          part = p;
        } in
        let first : HaveNone h.first = λ x n.
        none x (subst (λ is. HasKey is x) (sym h.items_are) (HasKey-left h.first h.second x n)) in
        let second : HaveNone h.second = λ x n.
        none x (subst (λ is. HasKey is x) (sym h.items_are) (HasKey-right h.first h.second x n)) in
        let here = no_steps_at a p h.first each.0 h.chooses_first first pl in
        let behind = no_steps c ps h.second each.1 h.chooses_second second place id (suc i) in
        ap (λ (x : List Step). x ++ steps_of walk c (placed_from t.shapes.now place id (suc i) ps))
        here
        ∙ behind

    -- nor has one at a part
    no_steps_at : (a : ChoiceAt) (p : Part) (items : List Item) → IsWithin p
        → ChoosesPart lists a p items → HaveNone items → (pl : Placed) → step_at walk a pl p ≡ []
    no_steps_at lacking (a_member m) items within h none pl =
        absurd (none (named m.name) (subst (λ is. HasKey is (named m.name)) (sym h) (inl refl)))
    no_steps_at (having r) (a_member m) items within h none pl =
        absurd (none (named m.name) (subst (λ is. HasKey is (named m.name)) (sym h) (inl refl)))
    no_steps_at without (a_member m) items within h none pl = absurd h
    no_steps_at (choosing k c) (a_member m) items within h none pl = absurd h
    no_steps_at (taking u) (a_member m) items within h none pl = absurd h
    no_steps_at lacking (a_catch_all k) items within h none pl = absurd h
    no_steps_at (having r) (a_catch_all k) items within h none pl = absurd h
    no_steps_at without (a_catch_all k) items within h none pl = absurd h
    no_steps_at (choosing j c) (a_catch_all k) items within h none pl = absurd h
    no_steps_at (taking u) (a_catch_all k) items within h none pl =
        absurd (none rest (subst (λ is. HasKey is rest) (sym h) (inl refl)))
    no_steps_at lacking (a_selection s) items within h none pl = absurd h
    no_steps_at (having r) (a_selection s) items within h none pl = absurd h
    no_steps_at without (a_selection s) items within h none pl =
        no_absence pl.path s h.0 within.other
    no_steps_at (taking u) (a_selection s) items within h none pl = absurd h
    no_steps_at (choosing k c) (a_selection s) items within h none pl =
        let b = h.chooses in
        let id = b.list in
        let ps = b.chooses.parts in
        let in_it = inside s k id ps within b.branch_is b.chooses.parts_are
        (record { choice = c; items = h.of_branch; chooses = b.chooses }) in
        let none_of : HaveNone h.of_branch = λ x n.
        none x
        (subst (λ is. HasKey is x) (sym h.items_are) (HasKey-right (presence s) h.of_branch x n))
        in
        let place = place_below t.shapes.now pl.path pl.name id in
        let below = no_steps c ps h.of_branch in_it.parts b.chooses.chooses none_of place id 0 in
        ap
        (λ o.
        through pl.path
        (λ i. steps_of walk c (placed walk (place_below t.shapes.now pl.path pl.name i) i)) o)
        b.branch_is
        ∙ ap (λ (x : List Step). x ++ steps_of walk c (placed walk place id))
        (none_selected pl.path id in_it.other)
        ∙ ap
        (λ o. steps_of walk c (placed_from t.shapes.now place id 0 (unwrap_or o [])))
        b.chooses.parts_are
        ∙ below

  -- so a choice of such a list has none
  pub nothing_told : (c : Choice) (items : List Item)
      → Chooses (rules_at t).lists (list_view l.id) c items → (place : Path)
      → steps_of (walk_at t) c (placed (walk_at t) place (list_view l.id)) ≡ []
  nothing_told c items h place =
      let is = tables.lists index l listed in
      let both : Some (parts_view l.parts.items) ≡ Some h.parts = sym is.same ∙ h.parts_are in
      let same : parts_view l.parts.items ≡ h.parts = cc in
      let none : HaveNone items = λ x n.
      nothing.no_key x (record { choice = c; items = items; chooses = h; has = n }) in
      ap
      (λ o. steps_of walk c (placed_from t.shapes.now place (list_view l.id) 0 (unwrap_or o [])))
      h.parts_are
      ∙ no_steps c h.parts items
      (subst (All IsWithin) same (within_at is.last.0 index l is.last.2 listed)) h.chooses none
      place (list_view l.id) 0
