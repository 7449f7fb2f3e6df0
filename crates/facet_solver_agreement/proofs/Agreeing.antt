-- Walks and ways to choose that agree: the indices of each choice are walked, and what is walked
-- are those of a choice. They are put together part by part.
use Rattle.std.proofs.Common.{◌≡◌, refl, sym, ap, ◌∙◌, subst, ℕ, zero, suc, ◌+◌, Bool, true, false}
use Rattle.std.proofs.Common.{List, [], ◌∷◌, ◌++◌, Option, Some, None, slice_get, append_assoc}
use Rattle.std.proofs.Common.{append-nil, arith}
use Rattle.std.specs.Prelude.{if◌then◌else◌}
use Rattle.std.specs.Option.{option_map_or}
use Rattle.facet_solver_shape.specs.declared.shape.Variant.{Variant}
use Rattle.facet_solver.specs.build.Emissions.{Emission}
use Rattle.facet_solver.specs.build.Walk.{Walking, Walked, put_before, and_then, emit, choose}
use Rattle.facet_solver.specs.build.Walk.{at_chosen, walk_optional}
use Rattle.facet_solver_reader.specs.Choices.{Choice, ChoiceAt, Choosing, done, next, lacking}
use Rattle.facet_solver_reader.specs.Choices.{having, without, choosing, taking, none_left}
use Rattle.facet_solver_reader.specs.Choices.{Item, member_of, catch_all_of, presence}
use Rattle.facet_solver_reader.specs.Known.{Chooses, ChoosesAll, ChoosesAt, ChoosesBranch}
use Rattle.facet_solver_reader.specs.Parts.{CatchAll, ListId, Lists, MemberPart, Part, Selection}
use Rattle.facet_solver_reader.specs.Parts.{Target, a_member, a_selection, a_catch_all, of_branch}
use Rattle.facet_solver_reader.specs.Parts.{of_struct}
use Rattle.facet_solver_reader.specs.Types.{branches_from, one_of}
use Rattle.facet_solver_reader.proofs.Lists.{choices_of_list}
use Rattle.facet_solver_agreement.specs.Asked.{Asked, asked_but, asked_by_member, asked_by_walk}
use Rattle.facet_solver_agreement.specs.Indices.{index_of_branch, index_of_presence}
use Rattle.facet_solver_agreement.specs.Indices.{indices_of_list, indices_of_part, indices_of_parts}
use Rattle.facet_solver_agreement.proofs.Asking.{items_append, presence_asks, selection}
use Rattle.facet_solver_agreement.proofs.Asking.{walk_append}

-- ---- what is walked, taken apart
same_walk : (v w : List Emission × List ℕ) → Some v ≡ Some w → v ≡ w
same_walk v w e = cc

-- what is emitted where nothing else is walked, and the indices that are left
emitted_is : (es fs : List Emission) (ns rest : List ℕ) → emit es ns ≡ Some (fs, rest)
    → (es ≡ fs) × (ns ≡ rest)
emitted_is es fs ns rest e =
    let same = same_walk (es, ns) (fs, rest) e in (
      ap (λ (w : List Emission × List ℕ). w.0) same,
      ap (λ (w : List Emission × List ℕ). w.1) same,
    )

-- what is walked after emissions
after_is : (es : List Emission) (w : Walked) (fs : List Emission) (rest : List ℕ)
    → put_before es w ≡ Some (fs, rest)
    → (gs : List Emission) × (w ≡ Some (gs, rest)) × (es ++ gs ≡ fs)
after_is es None fs rest e = absurd (cc)
after_is es (Some w) fs rest e =
    let same = same_walk (es ++ w.0, w.1) (fs, rest) e in (
      w.0,
      ap (λ (ns : List ℕ). Some (w.0, ns)) (ap (λ (v : List Emission × List ℕ). v.1) same),
      ap (λ (v : List Emission × List ℕ). v.0) same,
    )

-- what is walked by two parts
both_are : (w : Walked) (go : Walking) (fs : List Emission) (rest : List ℕ)
    → and_then w go ≡ Some (fs, rest)
    → (es : List Emission) × (mid : List ℕ) × (gs : List Emission) × (w ≡ Some (es, mid))
    × (go mid ≡ Some (gs, rest)) × (es ++ gs ≡ fs)
both_are None go fs rest e = absurd (cc)
both_are (Some w) go fs rest e =
    let r = after_is w.0 (go w.1) fs rest e in (w.0, w.1, r.0, refl, r.1, r.2)

-- ---- branches
-- a branch of an enum is one of its variants
branch_at : (id from : ℕ) (vs : List Variant) (k : ℕ) (list : ListId)
    → slice_get (branches_from id from vs) k ≡ Some list
    → (v : Variant) × (slice_get vs k ≡ Some v) × (of_branch id (from + k) ≡ list)
branch_at id from [] k list e = absurd (cc)
branch_at id from (v ∷ vs) zero list e =
    let here : of_branch id from ≡ list = cc in
    (v, refl, ap (of_branch id) (omega arith) ∙ here)
branch_at id from (v ∷ vs) (suc k) list e =
    let r = branch_at id (suc from) vs k list e in
    (r.0, r.1, ap (of_branch id) (omega arith) ∙ r.2)

-- and each variant has its branch
at_branch : (id from : ℕ) (vs : List Variant) (k : ℕ) (v : Variant) → slice_get vs k ≡ Some v
    → slice_get (branches_from id from vs) k ≡ Some (of_branch id (from + k))
at_branch id from [] k v e = absurd (cc)
at_branch id from (w ∷ vs) zero v e = ap (λ n. Some (of_branch id n)) (omega arith)
at_branch id from (w ∷ vs) (suc k) v e =
    at_branch id (suc from) vs k v e ∙ ap (λ n. Some (of_branch id n)) (omega arith)

-- the branch of a variant by its own number
branch_of : (id : ℕ) (vs : List Variant) (k : ℕ) (v : Variant) → slice_get vs k ≡ Some v
    → slice_get (branches_from id 0 vs) k ≡ Some (of_branch id k)
branch_of id vs k v e = at_branch id 0 vs k v e ∙ ap (λ n. Some (of_branch id n)) (omega arith)

-- one list is the only branch
only_branch : (id : ListId) (k : ℕ) (list : ListId) → slice_get (id ∷ []) k ≡ Some list → list ≡ id
only_branch id zero list e = cc
only_branch id (suc k) list e = absurd (cc)

-- ---- agreement
-- indices of a kind of choices
abbrev pub Indexing : Type 0 → Type 0
Indexing X = X → List ℕ

-- the choices among the branches of a selection: which branch, and a choice of it
abbrev pub ChoosesAmong : Lists → Selection → Choosing (ℕ × Choice)
ChoosesAmong lists s x items = ChoosesBranch lists s x.0 x.1 items

-- their indices
abbrev pub indices_among : Lists → Selection → Indexing (ℕ × Choice)
indices_among lists s x =
    option_map_or
    (λ id.
    index_of_branch id ++ option_map_or (λ ps. indices_of_parts lists x.1 ps) (lists id) [])
    (slice_get s.branches x.0) []

-- walks and choices, by what is left out of what a choice asks
module _ (left_out : Target → Bool) where
  -- indices are walked, whatever follows them, and their walk asks what items ask
  pub record IsWalked (w : Walking) (ns : List ℕ) (items : List Item) : Type 0 where
    pub emissions : List Emission
    pub walks : (rest : List ℕ) → w (ns ++ rest) ≡ Some (emissions, rest)
    pub same : asked_by_walk emissions ≡ asked_but left_out items

  -- what is walked is some choice, and asks what it asks
  pub record IsChosen {X : Type 0} (S : Choosing X) (index : Indexing X) (ns : List ℕ)
      (es : List Emission) (rest : List ℕ) : Type 0 where
    pub choice : X
    pub items : List Item
    pub chooses : S choice items
    pub used : ns ≡ index choice ++ rest
    pub same : asked_but left_out items ≡ asked_by_walk es

  -- each choice is walked, and what is walked is some choice
  pub record Agree {X : Type 0} (w : Walking) (S : Choosing X) (index : Indexing X) : Type 0 where
    pub walked : (x : X) (items : List Item) → S x items → IsWalked w (index x) items
    pub chosen : (ns : List ℕ) (es : List Emission) (rest : List ℕ)
        → w ns ≡ Some (es, rest) → IsChosen S index ns es rest

  -- walks that are the same agree with the same
  pub agree_same : {X : Type 0} (w v : Walking) (S : Choosing X) (index : Indexing X)
      → ((ns : List ℕ) → w ns ≡ v ns) → Agree w S index → Agree v S index
  agree_same w v S index same f = record {
    walked = λ x items h.
        let r = f.walked x items h in
        record {
          emissions = r.emissions;
          walks = λ rest. sym (same (index x ++ rest)) ∙ r.walks rest;
          same = r.same;
        };
    chosen = λ ns es rest e. f.chosen ns es rest (same ns ∙ e);
  }

  -- emissions before a walk that ask nothing
  pub agree_before : {X : Type 0} (es : List Emission) (w : Walking) (S : Choosing X)
      (index : Indexing X) → asked_by_walk es ≡ [] → Agree w S index
      → Agree (λ ns. put_before es (w ns)) S index
  agree_before es w S index none f = record {
    walked = λ x items h.
        let r = f.walked x items h in
        record {
          emissions = es ++ r.emissions;
          walks = λ rest. ap (put_before es) (r.walks rest);
          same = nothing r.emissions ∙ r.same;
        };
    chosen = λ ns fs rest e.
        let r = after_is es (w ns) fs rest e in
        let c = f.chosen ns r.0 rest r.1 in
        record {
          choice = c.choice;
          items = c.items;
          chooses = c.chooses;
          used = c.used;
          same = c.same ∙ sym (nothing r.0) ∙ ap asked_by_walk r.2;
        };
  }
    where
      nothing : (gs : List Emission) → asked_by_walk (es ++ gs) ≡ asked_by_walk gs
      nothing gs =
          walk_append es gs ∙ ap (λ (before : List Asked). before ++ asked_by_walk gs) none

  module _ (lists : Lists) where
    -- the choices of parts, at a part, of a list and among branches, by their indices
    abbrev pub AgreeAll : Walking → List Part → Type 0
    AgreeAll w ps = Agree w (ChoosesAll lists ps) (λ c. indices_of_parts lists c ps)

    abbrev pub AgreeAt : Walking → Part → Type 0
    AgreeAt w p = Agree w (ChoosesAt lists p) (λ a. indices_of_part lists a p)

    abbrev pub AgreeList : Walking → ListId → Type 0
    AgreeList w id = Agree w (Chooses lists id) (indices_of_list lists id)

    abbrev pub AgreeAmong : Walking → Selection → Type 0
    AgreeAmong w s = Agree w (ChoosesAmong lists s) (indices_among lists s)

    -- ---- parts
    -- no parts
    pub agree_none : AgreeAll (emit []) []
    agree_none = record {
      walked = walked;
      chosen = λ ns es rest e.
          let is = emitted_is [] es ns rest e in
          record {
            choice = done;
            items = [];
            chooses = refl;
            used = is.1;
            same = ap asked_by_walk is.0;
          };
    }
      where
        walked : (c : Choice) (items : List Item) → ChoosesAll lists [] c items
            → IsWalked (emit []) (indices_of_parts lists c []) items
        walked done items h = record {
          emissions = [];
          walks = λ rest. refl;
          same = ap (asked_but left_out) (sym h);
        }
        walked (next a c) items h = absurd h

    -- one part and others
    pub agree_both : (p : Part) (ps : List Part) (w v : Walking) → AgreeAt w p → AgreeAll v ps
        → AgreeAll (λ ns. and_then (w ns) v) (p ∷ ps)
    agree_both p ps w v f g = record { walked = walked; chosen = chosen }
      where
        walked : (c : Choice) (items : List Item) → ChoosesAll lists (p ∷ ps) c items
            → IsWalked (λ ns. and_then (w ns) v) (indices_of_parts lists c (p ∷ ps)) items
        walked done items h = absurd h
        walked (next a c) items h =
            let r = f.walked a h.first h.chooses_first in
            let s = g.walked c h.second h.chooses_second in
            let ms = indices_of_part lists a p in
            let ns = indices_of_parts lists c ps in
            record {
              emissions = r.emissions ++ s.emissions;
              walks = λ rest.
                  ap (λ (is : List ℕ). and_then (w is) v) (append_assoc ms ns rest)
                  ∙ ap (λ (x : Walked). and_then x v) (r.walks (ns ++ rest))
                  ∙ ap (put_before r.emissions) (s.walks rest);
              same = walk_append r.emissions s.emissions ∙ (λ i. r.same i ++ s.same i)
                  ∙ sym (items_append left_out h.first h.second)
                  ∙ ap (asked_but left_out) (sym h.items_are);
            }

        chosen : (ns : List ℕ) (es : List Emission) (rest : List ℕ)
            → and_then (w ns) v ≡ Some (es, rest)
            → IsChosen (ChoosesAll lists (p ∷ ps)) (λ c. indices_of_parts lists c (p ∷ ps)) ns es
            rest
        chosen ns es rest e =
            let r = both_are (w ns) v es rest e in
            let a = f.chosen ns r.0 r.1 r.3 in
            let c = g.chosen r.1 r.2 rest r.4 in
            let ms = indices_of_part lists a.choice p in
            record {
              choice = next a.choice c.choice;
              items = a.items ++ c.items;
              chooses = record {
                first = a.items;
                second = c.items;
                chooses_first = a.chooses;
                chooses_second = c.chooses;
                items_are = refl;
              };
              used = a.used ∙ ap (λ (is : List ℕ). ms ++ is) c.used
                  ∙ sym (append_assoc ms (indices_of_parts lists c.choice ps) rest);
              same = items_append left_out a.items c.items ∙ (λ i. a.same i ++ c.same i)
                  ∙ sym (walk_append r.0 r.2) ∙ ap asked_by_walk r.5;
            }

    -- what a member asks, if it is left out or not
    abbrev pub asked_if : Bool → MemberPart → List Asked
    asked_if out m = if out then [] else asked_by_member m ∷ []

    -- a member
    pub agree_member : (m : MemberPart) (es : List Emission)
        → asked_by_walk es ≡ asked_if (left_out m.target) m → AgreeAt (emit es) (a_member m)
    agree_member m es same = record {
      walked = walked;
      chosen = λ ns fs rest e.
          let is = emitted_is es fs ns rest e in
          record {
            choice = lacking;
            items = member_of m None ∷ [];
            chooses = refl;
            used = is.1;
            same = sym same ∙ ap asked_by_walk is.0;
          };
    }
      where
        alone : (items : List Item) → asked_but left_out items ≡ asked_if (left_out m.target) m
            → IsWalked (emit es) [] items
        alone items e =
            record { emissions = es; walks = λ rest. refl; same = same ∙ sym e }

        walked : (a : ChoiceAt) (items : List Item) → ChoosesAt lists (a_member m) a items
            → IsWalked (emit es) (indices_of_part lists a (a_member m)) items
        walked lacking items h = alone items (ap (asked_but left_out) h)
        walked (having r) items h = alone items (ap (asked_but left_out) h)
        walked without items h = absurd h
        walked (choosing k c) items h = absurd h
        walked (taking t) items h = absurd h

    -- a catch-all
    pub agree_catch_all : (k : CatchAll) (es : List Emission) → asked_by_walk es ≡ []
        → AgreeAt (emit es) (a_catch_all k)
    agree_catch_all kind es none = record {
      walked = walked;
      chosen = λ ns fs rest e.
          let is = emitted_is es fs ns rest e in
          record {
            choice = taking none_left;
            items = catch_all_of kind none_left ∷ [];
            chooses = refl;
            used = is.1;
            same = sym none ∙ ap asked_by_walk is.0;
          };
    }
      where
        walked : (a : ChoiceAt) (items : List Item) → ChoosesAt lists (a_catch_all kind) a items
            → IsWalked (emit es) (indices_of_part lists a (a_catch_all kind)) items
        walked (taking t) items h = record {
          emissions = es;
          walks = λ rest. refl;
          same = none ∙ ap (asked_but left_out) (sym h);
        }
        walked lacking items h = absurd h
        walked (having r) items h = absurd h
        walked without items h = absurd h
        walked (choosing k c) items h = absurd h

    -- a selection, which may be absent or not
    module _ (branches : List ListId) (w : Walking) where
      -- a present one
      present : (b : Bool) (ns : List ℕ) (es : List Emission) (rest : List ℕ)
          → IsChosen (ChoosesAmong lists (selection b branches))
          (indices_among lists (selection b branches)) ns es rest
          → IsChosen (ChoosesAt lists (a_selection (selection b branches)))
          (λ a. indices_of_part lists a (a_selection (selection b branches)))
          (index_of_presence b ++ ns) es rest
      present b ns es rest r = record {
        choice = choosing r.choice.0 r.choice.1;
        items = presence (selection b branches) ++ r.items;
        chooses = record { of_branch = r.items; chooses = r.chooses; items_are = refl };
        used = ap (λ (is : List ℕ). index_of_presence b ++ is) r.used
            ∙ sym
            (append_assoc (index_of_presence b)
            (indices_among lists (selection b branches) r.choice) rest);
        same = presence_asks left_out b branches r.items ∙ r.same;
      }

      pub agree_selection : (b : Bool) → AgreeAmong w (selection b branches)
          → AgreeAt (λ ns. walk_optional b w ns) (a_selection (selection b branches))
      agree_selection b f = record { walked = walked b f; chosen = chosen b f }
        where
          walked : (b : Bool) → AgreeAmong w (selection b branches) → (a : ChoiceAt)
              (items : List Item)
              → ChoosesAt lists (a_selection (selection b branches)) a items
              → IsWalked (λ ns. walk_optional b w ns)
              (indices_of_part lists a (a_selection (selection b branches))) items
          walked b f lacking items h = absurd h
          walked b f (having r) items h = absurd h
          walked b f (taking t) items h = absurd h
          walked true f without items h = record {
            emissions = [];
            walks = λ rest. refl;
            same = ap (asked_but left_out) (sym h.1);
          }
          walked false f without items h = let no : false ≡ true = h.0 in absurd (cc)
          walked true f (choosing k c) items h =
              let r = f.walked (k, c) h.of_branch h.chooses in
              record {
                emissions = r.emissions;
                walks = λ rest. r.walks rest;
                same = r.same ∙ sym (presence_asks left_out true branches h.of_branch)
                    ∙ ap (asked_but left_out) (sym h.items_are);
              }
          walked false f (choosing k c) items h =
              let r = f.walked (k, c) h.of_branch h.chooses in
              record {
                emissions = r.emissions;
                walks = λ rest. r.walks rest;
                same = r.same ∙ sym (presence_asks left_out false branches h.of_branch)
                    ∙ ap (asked_but left_out) (sym h.items_are);
              }

          chosen : (b : Bool) → AgreeAmong w (selection b branches)
              → (ns : List ℕ) (es : List Emission) (rest : List ℕ)
              → walk_optional b w ns ≡ Some (es, rest)
              → IsChosen (ChoosesAt lists (a_selection (selection b branches)))
              (λ a. indices_of_part lists a (a_selection (selection b branches))) ns es rest
          chosen false f ns es rest e = present false ns es rest (f.chosen ns es rest e)
          chosen true f [] es rest e = absurd (cc)
          chosen true f (zero ∷ ns) es rest e =
              let is = emitted_is [] es ns rest e in
              record {
                choice = without;
                items = [];
                chooses = (refl, refl);
                used = ap (λ (ms : List ℕ). 0 ∷ ms) is.1;
                same = ap asked_by_walk is.0;
              }
          chosen true f (suc zero ∷ ns) es rest e = present true ns es rest (f.chosen ns es rest e)
          chosen true f (suc (suc k) ∷ ns) es rest e = absurd (cc)

    -- ---- lists
    -- the parts of a list
    pub agree_list : (id : ListId) (ps : List Part) (w : Walking) → lists id ≡ Some ps
        → AgreeAll w ps → AgreeList w id
    agree_list id ps w e f = record {
      walked = λ c items h.
          subst (λ (ns : List ℕ). IsWalked w ns items) (sym (indices c))
          (f.walked c items ((choices_of_list lists id ps e c items).1 h));
      chosen = λ ns es rest r.
          let s = f.chosen ns es rest r in
          record {
            choice = s.choice;
            items = s.items;
            chooses = (choices_of_list lists id ps e s.choice s.items).0 s.chooses;
            used = s.used ∙ ap (λ (ms : List ℕ). ms ++ rest) (sym (indices s.choice));
            same = s.same;
          };
    }
      where
        indices : (c : Choice) → indices_of_list lists id c ≡ indices_of_parts lists c ps
        indices c =
            ap
            (λ (o : Option (List Part)). option_map_or (λ qs. indices_of_parts lists c qs) o []) e

    -- a selection of one branch, which is a struct's
    pub agree_one : (b : Bool) (struct : ℕ) (w : Walking) → AgreeList w (of_struct struct)
        → AgreeAmong w (selection b (of_struct struct ∷ []))
    agree_one b struct w f = record {
      walked = λ x items h. walked x.0 x.1 items h;
      chosen = λ ns es rest e.
          let r = f.chosen ns es rest e in
          record {
            choice = (0, r.choice);
            items = r.items;
            chooses = record { list = of_struct struct; branch_is = refl; chooses = r.chooses };
            used = r.used;
            same = r.same;
          };
    }
      where
        walked : (k : ℕ) (c : Choice) (items : List Item)
            → ChoosesBranch lists (selection b (of_struct struct ∷ [])) k c items
            → IsWalked w (indices_among lists (selection b (of_struct struct ∷ [])) (k, c)) items
        walked zero c items h =
            f.walked c items
            (subst (λ list. Chooses lists list c items)
            (only_branch (of_struct struct) zero h.list h.branch_is) h.chooses)
        walked (suc k) c items h = let no : None ≡ Some h.list = h.branch_is in absurd (cc)

    -- the branches of an enum
    pub agree_branches : (b : Bool) (vs : List Variant) (id : ℕ) (go : Variant → Walking)
        → ((k : ℕ) (v : Variant) → slice_get vs k ≡ Some v → AgreeList (go v) (of_branch id k))
        → AgreeAmong (λ ns. choose vs ns go) (selection b (branches_from id 0 vs))
    agree_branches b vs id go each = record {
      walked = λ x items h. walked x.0 x.1 items h;
      chosen = chosen;
    }
      where
        indices : (k : ℕ) (v : Variant) (c : Choice) → slice_get vs k ≡ Some v
            → indices_among lists (selection b (branches_from id 0 vs)) (k, c)
            ≡ k ∷ indices_of_list lists (of_branch id k) c
        indices k v c at =
            ap
            (λ (o : Option ListId).
            option_map_or
            (λ list.
            index_of_branch list
            ++ option_map_or (λ ps. indices_of_parts lists c ps) (lists list) [])
            o [])
            (branch_of id vs k v at)

        walked : (k : ℕ) (c : Choice) (items : List Item)
            → ChoosesBranch lists (selection b (branches_from id 0 vs)) k c items
            → IsWalked (λ ns. choose vs ns go)
            (indices_among lists (selection b (branches_from id 0 vs)) (k, c)) items
        walked k c items h =
            let at = branch_at id 0 vs k h.list h.branch_is in
            let same : h.list ≡ of_branch id k = sym at.2 ∙ ap (of_branch id) (omega arith) in
            let r = (each k at.0 at.1).walked c items
            (subst (λ list. Chooses lists list c items) same h.chooses) in
            subst (λ (ns : List ℕ). IsWalked (λ ms. choose vs ms go) ns items)
            (sym (indices k at.0 c at.1))
            (record {
              emissions = r.emissions;
              walks = λ rest.
                  ap
                  (λ (o : Option Variant).
                  at_chosen o (λ v. go v (indices_of_list lists (of_branch id k) c ++ rest)))
                  at.1
                  ∙ r.walks rest;
              same = r.same;
            })

        chosen : (ns : List ℕ) (es : List Emission) (rest : List ℕ)
            → choose vs ns go ≡ Some (es, rest)
            → IsChosen (ChoosesAmong lists (selection b (branches_from id 0 vs)))
            (indices_among lists (selection b (branches_from id 0 vs))) ns es rest
        chosen [] es rest e = absurd (cc)
        chosen (k ∷ ns) es rest e = by_variant (slice_get vs k) refl e
          where
            by_variant : (o : Option Variant) → slice_get vs k ≡ o
                → at_chosen o (λ v. go v ns) ≡ Some (es, rest)
                → IsChosen (ChoosesAmong lists (selection b (branches_from id 0 vs)))
                (indices_among lists (selection b (branches_from id 0 vs))) (k ∷ ns) es rest
            by_variant None at e = absurd (cc)
            by_variant (Some v) at e =
                let r = (each k v at).chosen ns es rest e in
                record {
                  choice = (k, r.choice);
                  items = r.items;
                  chooses = record {
                    list = of_branch id k;
                    branch_is = branch_of id vs k v at;
                    chooses = r.chooses;
                  };
                  used = ap (λ (ms : List ℕ). k ∷ ms) r.used
                      ∙ ap (λ (ms : List ℕ). ms ++ rest) (sym (indices k v r.choice at));
                  same = r.same;
                }

    -- ---- content behind a field `0`: one struct as the only part
    pub agree_behind : (struct : ℕ) (w : Walking) → AgreeList w (of_struct struct)
        → AgreeAll w (one_of (of_struct struct ∷ []) ∷ [])
    agree_behind struct w f =
        agree_same (λ ns. and_then (w ns) (emit [])) w
        (ChoosesAll lists (one_of (of_struct struct ∷ []) ∷ []))
        (λ c. indices_of_parts lists c (one_of (of_struct struct ∷ []) ∷ []))
        (λ ns. alone (w ns))
        (agree_both (one_of (of_struct struct ∷ [])) [] w (emit [])
        (agree_selection (of_struct struct ∷ []) w false (agree_one false struct w f)) agree_none)
      where
        alone : (x : Walked) → and_then x (emit []) ≡ x
        alone None = refl
        alone (Some x) = ap (λ (es : List Emission). Some (es, x.1)) (append-nil x.0)
