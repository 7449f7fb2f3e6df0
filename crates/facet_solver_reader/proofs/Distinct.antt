-- No choice has a key twice exactly where different parts, each with a choice, know different keys.
use Rattle.std.proofs.Common.{◌≡◌, ◌⊎◌, ◌↔◌, ⊎_elim, subst, ℕ, zero, suc, List, [], ◌∷◌, ◌++◌, Some}
use Rattle.std.proofs.Common.{slice_get, drop, arith}
use Rattle.std.specs.List.{All, AllPairs}
use Rattle.facet_solver_reader.specs.Choices.{done, next, ChoiceAt, lacking, having, without}
use Rattle.facet_solver_reader.specs.Choices.{choosing, taking, Item, presence}
use Rattle.facet_solver_reader.specs.Known.{Chooses, ChoosesAll, ChoosesAt, HasChoice, HasTwice}
use Rattle.facet_solver_reader.specs.Known.{IsDistinct, IsKnown, Key}
use Rattle.facet_solver_reader.specs.Parts.{CatchAll, ListId, Lists, MemberPart, Part, Selection}
use Rattle.facet_solver_reader.specs.Parts.{a_member, a_catch_all, a_selection}
use Rattle.facet_solver_reader.proofs.Items.{HasTwice-both, HasTwice-left, HasTwice-right}
use Rattle.facet_solver_reader.proofs.Items.{HasTwice-split, IsShared}
use Rattle.facet_solver_reader.proofs.Knowledge.{choice_of_more, known_of_some}
use Rattle.facet_solver_reader.proofs.Lists.{choice_of_list, distinct_of_list}
use Rattle.facet_solver_reader.proofs.Products.{both_choose}
use Rattle.facet_solver_reader.proofs.Quantifiers.{all_at, all_from, all_of_more, all_of_none}
use Rattle.facet_solver_reader.proofs.Quantifiers.{any_at, any_is_at, pairs_of_more}
use Rattle.facet_solver_reader.proofs.Selections.{branch_chooses, twice_behind}

-- no key is known to both parts
abbrev pub KnowApart : Lists → Part → Part → Type 0
KnowApart lists p q =
    (x : Key) → IsKnown (ChoosesAt lists p) x → IsKnown (ChoosesAt lists q) x → ⊥

module _ (lists : Lists) (p : Part) (ps : List Part) where
  -- a test by parts is enough
  pub distinct_by_parts : IsDistinct (ChoosesAt lists p) → IsDistinct (ChoosesAll lists ps)
      → ((x : Key) → IsKnown (ChoosesAt lists p) x → IsKnown (ChoosesAll lists ps) x → ⊥)
      → IsDistinct (ChoosesAll lists (p ∷ ps))
  distinct_by_parts f g apart done items h t = h
  distinct_by_parts f g apart (next a c) items h t =
      ⊎_elim (λ (u : HasTwice h.first). f a h.first h.chooses_first u)
      (λ (v : HasTwice h.second ⊎ IsShared h.first h.second).
      ⊎_elim (λ (u : HasTwice h.second). g c h.second h.chooses_second u)
      (λ (u : IsShared h.first h.second).
      apart u.key
      (record { choice = a; items = h.first; chooses = h.chooses_first; has = u.left })
      (record { choice = c; items = h.second; chooses = h.chooses_second; has = u.right }))
      v)
      (HasTwice-split h.first h.second (subst HasTwice h.items_are t))

  -- and refuses no more: the first part, where the rest has a choice
  pub distinct_first : IsDistinct (ChoosesAll lists (p ∷ ps)) → HasChoice (ChoosesAll lists ps)
      → IsDistinct (ChoosesAt lists p)
  distinct_first f other a items h t =
      f (next a other.choice) (items ++ other.items)
      (both_choose lists p ps a other.choice items other.items h other.chooses)
      (HasTwice-left items other.items t)

  -- the rest, where the first part has a choice
  pub distinct_rest : IsDistinct (ChoosesAll lists (p ∷ ps)) → HasChoice (ChoosesAt lists p)
      → IsDistinct (ChoosesAll lists ps)
  distinct_rest f other c items h t =
      f (next other.choice c) (other.items ++ items)
      (both_choose lists p ps other.choice c other.items items other.chooses h)
      (HasTwice-right other.items items t)

  -- and a key of both
  pub distinct_apart : IsDistinct (ChoosesAll lists (p ∷ ps))
      → (x : Key) → IsKnown (ChoosesAt lists p) x → IsKnown (ChoosesAll lists ps) x → ⊥
  distinct_apart f x k l =
      f (next k.choice l.choice) (k.items ++ l.items)
      (both_choose lists p ps k.choice l.choice k.items l.items k.chooses l.chooses)
      (HasTwice-both k.items l.items x k.has l.has)

  -- so where the first part has a choice, and the rest, the test by parts is exact
  pub distinct_of_more : HasChoice (ChoosesAt lists p) → HasChoice (ChoosesAll lists ps)
      → IsDistinct (ChoosesAll lists (p ∷ ps))
      ↔ (IsDistinct (ChoosesAt lists p) × IsDistinct (ChoosesAll lists ps)
      × ((x : Key) → IsKnown (ChoosesAt lists p) x → IsKnown (ChoosesAll lists ps) x → ⊥))
  distinct_of_more first others = (
    λ d. (distinct_first d others, distinct_rest d first, distinct_apart d),
    λ h. distinct_by_parts h.0 h.1 h.2,
  )

module _ (lists : Lists) where
  -- no parts have no key twice
  pub distinct_of_none : IsDistinct (ChoosesAll lists [])
  distinct_of_none done items h t = subst HasTwice h t
  distinct_of_none (next a c) items h t = h

  -- nor has a member
  pub distinct_of_member : (m : MemberPart) → IsDistinct (ChoosesAt lists (a_member m))
  distinct_of_member m = go
    where
      neither : ⊥ ⊎ ⊥ → ⊥
      neither h = ⊎_elim (λ (n : ⊥). n) (λ (n : ⊥). n) h

      go : (a : ChoiceAt) (items : List Item)
          → ChoosesAt lists (a_member m) a items → HasTwice items → ⊥
      go lacking items h t = neither (subst HasTwice h t)
      go (having r) items h t = neither (subst HasTwice h t)
      go without items h t = h
      go (choosing k c) items h t = h
      go (taking q) items h t = h

  -- nor has a catch-all
  pub distinct_of_catch_all : (k : CatchAll) → IsDistinct (ChoosesAt lists (a_catch_all k))
  distinct_of_catch_all kind = go
    where
      go : (a : ChoiceAt) (items : List Item)
          → ChoosesAt lists (a_catch_all kind) a items → HasTwice items → ⊥
      go (taking q) items h t = ⊎_elim (λ (n : ⊥). n) (λ (n : ⊥). n) (subst HasTwice h t)
      go lacking items h t = h
      go (having r) items h t = h
      go without items h t = h
      go (choosing k c) items h t = h

  -- a selection has none twice where no branch has
  pub distinct_of_selection : (s : Selection)
      → IsDistinct (ChoosesAt lists (a_selection s))
      ↔ All (λ id. IsDistinct (Chooses lists id)) s.branches
  distinct_of_selection s = (
    λ d. all_from (λ id. IsDistinct (Chooses lists id)) s.branches (λ k id e. of_branch d k id e),
    λ a x items h t. by_branches a x items h t,
  )
    where
      of_branch : IsDistinct (ChoosesAt lists (a_selection s))
          → (k : ℕ) (id : ListId) → slice_get s.branches k ≡ Some id
          → IsDistinct (Chooses lists id)
      of_branch d k id e c items h t =
          d (choosing k c) (presence s ++ items)
          (branch_chooses lists s k c items (record { list = id; branch_is = e; chooses = h }))
          (HasTwice-right (presence s) items t)

      by_branches : All (λ id. IsDistinct (Chooses lists id)) s.branches
          → (a : ChoiceAt) (items : List Item)
          → ChoosesAt lists (a_selection s) a items → HasTwice items → ⊥
      by_branches f lacking items h t = h
      by_branches f (having r) items h t = h
      by_branches f without items h t = subst HasTwice h.1 t
      by_branches f (taking q) items h t = h
      by_branches f (choosing k c) items h t =
          let b = h.chooses in
          all_at (λ id. IsDistinct (Chooses lists id)) s.branches k b.list f b.branch_is
          c h.of_branch b.chooses (twice_behind s h.of_branch (subst HasTwice h.items_are t))

  -- of each rest of a list no choice has a key twice
  abbrev pub AreDistinct : List Part → Type 0
  AreDistinct [] = Unit {0}
  AreDistinct (p ∷ ps) = IsDistinct (ChoosesAll lists (p ∷ ps)) × AreDistinct ps

  -- where there is a choice, the whole list says it of each rest
  pub distinct_rests : (ps : List Part) → HasChoice (ChoosesAll lists ps)
      → IsDistinct (ChoosesAll lists ps) → AreDistinct ps
  distinct_rests [] h f = tt
  distinct_rests (p ∷ ps) h f =
      let b = (choice_of_more lists p ps).0 h in
      (f, distinct_rests ps b.1 (distinct_rest lists p ps f b.0))

  -- what holds of a list of parts holds of each rest of it
  pub AreDistinct-drop : (ps : List Part) (i : ℕ) → AreDistinct ps → AreDistinct (drop i ps)
  AreDistinct-drop ps zero h = h
  AreDistinct-drop [] (suc i) h = h
  AreDistinct-drop (p ∷ ps) (suc i) h = AreDistinct-drop ps i h.1

  -- from an index on
  pub distinct_from : (all : List Part) (i : ℕ) (p : Part) (ps : List Part)
      → AreDistinct all → drop i all ≡ p ∷ ps → IsDistinct (ChoosesAll lists (p ∷ ps))
  distinct_from all i p ps h e = (subst AreDistinct e (AreDistinct-drop all i h)).0

  -- a part and others know different keys where it and each of them do
  apart_from_each : (p : Part) (ps : List Part) → HasChoice (ChoosesAll lists ps)
      → ((x : Key) → IsKnown (ChoosesAt lists p) x → IsKnown (ChoosesAll lists ps) x → ⊥)
      ↔ All (KnowApart lists p) ps
  apart_from_each p ps h = (
    λ f.
        all_from (KnowApart lists p) ps
        (λ i q e x k l. f x k ((known_of_some lists ps x).1
        (h, any_at (λ r. IsKnown (ChoosesAt lists r) x) ps i q e l))),
    λ a x k l.
        let some = ((known_of_some lists ps x).0 l).1 in
        all_at (KnowApart lists p) ps some.0 some.1 a
        (any_is_at (λ r. IsKnown (ChoosesAt lists r) x) ps some) x k some.4,
  )

  -- of parts that have a choice no choice has a key twice exactly where none of each part has, and
  -- no two parts know one key
  pub distinct_of_each : (ps : List Part) → HasChoice (ChoosesAll lists ps)
      → IsDistinct (ChoosesAll lists ps)
      ↔ (All (λ p. IsDistinct (ChoosesAt lists p)) ps × AllPairs (KnowApart lists) ps)
  distinct_of_each ps h = (out ps h, λ a. into ps h a.0 a.1)
    where
      out : (ps : List Part) → HasChoice (ChoosesAll lists ps)
          → IsDistinct (ChoosesAll lists ps)
          → All (λ p. IsDistinct (ChoosesAt lists p)) ps × AllPairs (KnowApart lists) ps
      out [] h d = (all_of_none (λ p. IsDistinct (ChoosesAt lists p)), pairs_of_none)
        where
          pairs_of_none : AllPairs (KnowApart lists) []
          pairs_of_none i j q lt within = absurd (omega arith)
      out (p ∷ ps) h d =
          let b = (choice_of_more lists p ps).0 h in
          let e = (distinct_of_more lists p ps b.0 b.1).0 d in
          let r = out ps b.1 e.1 in (
            (all_of_more (λ p. IsDistinct (ChoosesAt lists p)) p ps).1 (e.0, r.0),
            (pairs_of_more (KnowApart lists) p ps).1 ((apart_from_each p ps b.1).0 e.2, r.1),
          )

      into : (ps : List Part) → HasChoice (ChoosesAll lists ps)
          → All (λ p. IsDistinct (ChoosesAt lists p)) ps → AllPairs (KnowApart lists) ps
          → IsDistinct (ChoosesAll lists ps)
      into [] h a r = distinct_of_none
      into (p ∷ ps) h a r =
          let b = (choice_of_more lists p ps).0 h in
          let d = (all_of_more (λ p. IsDistinct (ChoosesAt lists p)) p ps).0 a in
          let e = (pairs_of_more (KnowApart lists) p ps).0 r in
          distinct_by_parts lists p ps d.0 (into ps b.1 d.1 e.1) ((apart_from_each p ps b.1).1 e.0)

-- of a list that has a choice, and none that has a key twice, each rest of its parts is so
pub distinct_parts : (lists : Lists) (id : ListId) (ps : List Part) → lists id ≡ Some ps
    → HasChoice (Chooses lists id) → IsDistinct (Chooses lists id) → AreDistinct lists ps
distinct_parts lists id ps e h d =
    distinct_rests lists ps ((choice_of_list lists id ps e).1 h)
    ((distinct_of_list lists id ps e).1 d)
