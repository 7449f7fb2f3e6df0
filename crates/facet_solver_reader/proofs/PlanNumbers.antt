-- The numbers of the targets of a plan, as they are given.
use Rattle.std.proofs.Common.{◌≡◌, inl, inr, refl, sym, ap, ◌∙◌, subst, ⊎_elim, arith, ℕ, zero, suc}
use Rattle.std.proofs.Common.{◌<◌, ◌+◌, ◌-◌, Bool, true, false, cond, List, [], ◌∷◌, ◌++◌}
use Rattle.std.proofs.Common.{All, Any, Option, Some, None, map, option_map, slice_get, length, get_or, flat_map}
use Rattle.std.proofs.Common.{MatchOption, OnOk, Result, Ok, Err, not}
use Rattle.std.specs.Option.{is_some}
use Rattle.std.specs.BTreeMap as tree
use Rattle.std.specs.Ordering.{is_eq}
use Rattle.std.specs.Map.{lookup}
use Rattle.std.proofs.lemmas.Bool.{cases_lt}
use Rattle.std.proofs.lemmas.List.{length-map, map-append}
use Rattle.std.proofs.lemmas.Option.{slice_get-get_or, slice_get-map, slice_get_within}
use Rattle.facet_solver_reader.specs.declared.end.End as code
use Rattle.facet_solver_reader.specs.declared.plan.numbers.Numbers.{Numbers}
use Rattle.facet_solver_reader.specs.declared.plan.target_key.TargetKey.{TargetKey}
use Rattle.facet_solver_reader.specs.contracts.plan.target_key.TargetKeyOrd.TheImpl as order
use Rattle.facet_solver_reader.specs.declared.tables.List.{List as ListEntry}
use Rattle.facet_solver_reader.specs.declared.tables.Tables.{Tables}
use Rattle.facet_solver_reader.specs.Parts.{Part, a_member, a_selection, a_catch_all, Target, of_shape, of_content, of_tag}
use Rattle.facet_solver_reader.specs.PlanNumbers.{AreFound, AreMore, AreNumbers, HasNumber, IsAmong, IsPut, targets_of}
use Rattle.facet_solver_reader.specs.PlanNumbers.{PartIsNumbered, VariantsHave}
use Rattle.facet_solver_reader.specs.Plans.{AreAskedFirst}
use Rattle.facet_solver_reader.specs.Reached.{asked, asked_by_content, asked_by_end, asked_by_kind, IsRanked}
use Rattle.facet_solver_reader.specs.Rules as rules
use Rattle.facet_solver_reader.specs.Rules.{Alternative, AlternativeKind, Content, End, Rules, joins, a_fallback, other, no_content, as_shape, as_tuple, as_object, an_option, a_list, a_tuple, a_map, a_named_variant, an_untagged_variant}
use Rattle.facet_solver_reader.specs.Tables.{AreTables, ContentIsServed, EndIsServed, IsEnd, IsServed, PartIsServed, rules_at}
use Rattle.facet_solver_reader.specs.TargetKeys.{key_view}
use Rattle.facet_solver_reader.specs.Views.{end_view, parts_view}
use Rattle.facet_solver_reader.proofs.Opened.{at_after, at_either, at_front}
use Rattle.facet_solver_reader.proofs.Quantifiers.{all_at, all_of_last, all_of_more, all_of_none, any_at, any_is_at}
use Rattle.facet_solver_reader.proofs.TargetKeys.{same_key, same_target}

-- what the map has at a key after it was given another
abbrev At : Numbers → TargetKey → Option ℕ
At n t = tree.get (order.ghosts).cmp n.by_target t

-- a target that has none is given the next number
module _ (old new : Numbers) (x : TargetKey) (k : ℕ) (was : AreFound old) (none : HasNumber old (key_view x) → ⊥) (next : k ≡ length old.targets.items) (targets : new.targets.items ≡ old.targets.items ++ x ∷ []) (at : (q : TargetKey) → At new q ≡ cond (is_eq ((order.ghosts).cmp x q)) (Some k) (At old q)) where
  grown : targets_of new ≡ targets_of old ++ key_view x ∷ []
  grown = ap (map key_view) targets ∙ map-append key_view old.targets.items (x ∷ [])

  ends : k ≡ length (targets_of old) + 0
  ends = let same = length-map old.targets.items key_view in omega arith

  last : slice_get (targets_of new) k ≡ Some (key_view x)
  last =
      ap (λ ts. slice_get ts k) grown
      ∙ ap (slice_get (targets_of old ++ key_view x ∷ [])) ends
      ∙ at_after (targets_of old) (key_view x ∷ []) 0 (key_view x) refl

  found_after : (t : TargetKey) (n : ℕ) → At new t ≡ Some n
      → slice_get (targets_of new) n ≡ Some (key_view t)
  found_after t n e = go (is_eq ((order.ghosts).cmp x t)) refl (sym (at t) ∙ e)
    where
      go : (b : Bool) → is_eq ((order.ghosts).cmp x t) ≡ b → cond b (Some k) (At old t) ≡ Some n
          → slice_get (targets_of new) n ≡ Some (key_view t)
      go true same f =
          let here : k ≡ n = cc in
          subst (λ i. slice_get (targets_of new) i ≡ Some (key_view t)) here
          (last ∙ ap Some (same_target x t same))
      go false apart f =
          ap (λ ts. slice_get ts n) grown
          ∙ at_front (targets_of old) (key_view x ∷ []) n (key_view t) (was.found t n f)

  -- what the map has at a key that is of the target, and at one that is not
  at_same : (t : TargetKey) → key_view x ≡ key_view t → At new t ≡ Some k
  at_same t same = at t ∙ ap (λ b. cond b (Some k) (At old t)) (same_key x t same)

  at_other : (t : TargetKey) (n : ℕ) → slice_get (targets_of old) n ≡ Some (key_view t)
      → At new t ≡ Some n
  at_other t n there = go (is_eq ((order.ghosts).cmp x t)) refl
    where
      go : (b : Bool) → is_eq ((order.ghosts).cmp x t) ≡ b → At new t ≡ Some n
      go true same =
          let one = same_target x t same in
          absurd (none (n, there ∙ ap Some (sym one)))
      go false apart =
          at t ∙ ap (λ b. cond b (Some k) (At old t)) apart ∙ was.given t n there

  given_after : (t : TargetKey) (n : ℕ) → slice_get (targets_of new) n ≡ Some (key_view t)
      → At new t ≡ Some n
  given_after t n e =
      ⊎_elim (λ (front : slice_get (targets_of old) n ≡ Some (key_view t)). at_other t n front)
      (λ (after : (j : ℕ) × (n ≡ length (targets_of old) + j)
      × (slice_get (key_view x ∷ []) j ≡ Some (key_view t))). go after.0 after.1 after.2)
      (at_either (targets_of old) (key_view x ∷ []) n (key_view t)
      (ap (λ ts. slice_get ts n) (sym grown) ∙ e))
    where
      go : (j : ℕ) → n ≡ length (targets_of old) + j
          → slice_get (key_view x ∷ []) j ≡ Some (key_view t) → At new t ≡ Some n
      go zero here there =
          let same : key_view x ≡ key_view t = cc in
          at_same t same ∙ ap Some (ends ∙ sym here)
      go (suc j) here there = absurd (cc)

  pub found_put : AreFound new
  found_put = record { found = found_after; given = given_after }

-- an item of the keys of what is asked is asked
pub asks_item : (rules : Rules) (u : Target) (ks : List TargetKey) (i : ℕ) (d : TargetKey)
    → map key_view ks ≡ asked rules u → i < length ks
    → Any (λ a. a ≡ key_view (get_or ks i d)) (asked rules u)
asks_item rules u ks i d same within =
    subst (λ ts. Any (λ a. a ≡ key_view (get_or ks i d)) ts) same
    (any_at (λ a. a ≡ key_view (get_or ks i d)) (map key_view ks) i (key_view (get_or ks i d))
    (slice_get-map key_view ks i ∙ ap (option_map key_view) (slice_get-get_or ks i d within)) refl)

-- what is read of a list where it has it, by whatever else
pub read_there : {X : Type 0} (xs : List X) (i : ℕ) (d : X) → i < length xs
    → get_or xs i d ≡ get_or xs i (get_or xs i d)
read_there [] i d l = absurd (omega arith)
read_there (x ∷ xs) zero d l = refl
read_there (x ∷ xs) (suc i) d l = read_there xs i d (omega arith)

-- a look-up that found nothing
pub lacks : (o : Option ℕ) (P : Type 0) (Q : ℕ → Type 0) (b : Bool) → MatchOption o P Q
    → is_some o ≡ not b → b ≡ true → P
lacks None P Q b h e t = h
lacks (Some k) P Q b h e t = let f : true ≡ false = e ∙ ap not t in absurd (cc)

-- what follows of two things on success
pub on_ok_both : {T E : Type 0} (r : Result T E) (P Q R : Type 0) → (P → Q → R) → OnOk r P
    → OnOk r Q → OnOk r R
on_ok_both (Ok x) P Q R f h k = f h k
on_ok_both (Err e) P Q R f h k = h

-- what has a property of all, one of them has
pub one_of_all : (Q : Target → Type 0) (ts : List Target) (w : Target) → All Q ts
    → Any (λ a. a ≡ w) ts → Q w
one_of_all Q ts w all some =
    subst Q some.4 (all_at Q ts some.0 some.1 all (any_is_at (λ a. a ≡ w) ts some))

-- what an end asks has what its variants and shapes have
module _ (Q : Target → Type 0) where
  one_asked : (t : Target) → Q t → All Q (t ∷ [])
  one_asked t q = (all_of_more Q t []).1 (q, all_of_none Q)

  kind_asked : (k : AlternativeKind) (t : Target) → Q t → All Q (asked_by_kind k t)
  kind_asked joins t q = all_of_none Q
  kind_asked rules.null_alone t q = all_of_none Q
  kind_asked (rules.a_whole range) t q = one_asked t q
  kind_asked rules.a_float t q = one_asked t q
  kind_asked a_fallback t q = one_asked t q
  kind_asked other t q = one_asked t q

  both_asked : (xs ys : List Target) → All Q xs → All Q ys → All Q (xs ++ ys)
  both_asked [] ys h k = k
  both_asked (x ∷ xs) ys h k =
      let parts = (all_of_more Q x xs).0 h in
      (all_of_more Q x (xs ++ ys)).1 (parts.0, both_asked xs ys parts.1 k)

  alone_asked : (alone : List Alternative) → All (λ a. Q a.content) alone
      → All Q (flat_map (λ a. asked_by_kind a.kind a.content) alone)
  alone_asked [] h = all_of_none Q
  alone_asked (a ∷ alone) h =
      let parts = (all_of_more (λ b. Q b.content) a alone).0 h in
      both_asked (asked_by_kind a.kind a.content)
      (flat_map (λ b. asked_by_kind b.kind b.content) alone)
      (kind_asked a.kind a.content parts.0) (alone_asked alone parts.1)

-- tables have what an end asks
end_asked : (t : Tables) (e : End) → EndIsServed t e → All (IsServed t) (asked_by_end e)
end_asked t (an_option id) h = one_asked (IsServed t) (of_shape id) h
end_asked t (an_untagged_variant joined alone) h = alone_asked (IsServed t) alone h.1
end_asked t _ h = all_of_none (IsServed t)

-- and what content asks
content_asked : (t : Tables) (c : Content) → ContentIsServed t c
    → All (IsServed t) (asked_by_content c)
content_asked t (as_shape id) h = one_asked (IsServed t) (of_shape id) h
content_asked t _ h = all_of_none (IsServed t)

-- tables have what a target asks
pub asked_served : (t : Tables) (u : Target) → AreTables t → IsServed t u
    → All (IsServed t) (asked (rules_at t) u)
asked_served t (of_shape s) are served =
    let end : IsEnd t s served.0 = are.ends s served.0 served.1 in
    subst (λ e. All (IsServed t) (asked_by_end e)) end.same
    (end_asked t (end_view served.0) end.served)
asked_served t (of_content s k) are served =
    content_asked t ((rules_at t).content_of s k) served
asked_served t (of_tag name) are served = all_of_none (IsServed t)

-- what a ranked target asks is ranked lower
pub asked_ranked : (rules : Rules) (n : ℕ) (t u : Target) → IsRanked n rules t
    → Any (λ a. a ≡ u) (asked rules t) → IsRanked (n - 1) rules u
asked_ranked rules zero t u h asks = absurd h
asked_ranked rules (suc n) t u h asks =
    let same : n ≡ suc n - 1 = omega arith in
    subst (λ k. IsRanked k rules u) same (h u asks)

-- nothing changes
pub more_same : (t : Tables) (n : Numbers) → AreNumbers t n → AreMore t n n
more_same t n are = record { kept = λ u h. h; numbers = are }

-- more and more
pub more_on : (t : Tables) (old mid new : Numbers) → AreMore t old mid → AreMore t mid new
    → AreMore t old new
more_on t old mid new first second =
    record { kept = λ u h. second.kept u (first.kept u h); numbers = second.numbers }

-- a target whose asked ones have numbers is put behind them
module _ (t : Tables) (mid new : Numbers) (u : Target) (are : AreNumbers t mid) (all : All (HasNumber mid) (asked (rules_at t) u)) (served : IsServed t u) (found : AreFound new) where
  -- it was there
  there : targets_of new ≡ targets_of mid → AreNumbers t new
  there same = record {
    found = found;
    served = subst (All (IsServed t)) (sym same) are.served;
    asked_first = subst (AreAskedFirst (rules_at t)) (sym same) are.asked_first;
  }

  module _ (grown : targets_of new ≡ targets_of mid ++ u ∷ []) where
    -- what was there is there still
    stays : (k : ℕ) (w : Target) → slice_get (targets_of mid) k ≡ Some w
        → slice_get (targets_of new) k ≡ Some w
    stays k w is =
        ap (λ ts. slice_get ts k) grown ∙ at_front (targets_of mid) (u ∷ []) k w is

    first : (n : ℕ) (x w : Target) → slice_get (targets_of new) n ≡ Some x
        → Any (λ a. a ≡ w) (asked (rules_at t) x)
        → (k : ℕ) × (k < n) × (slice_get (targets_of new) k ≡ Some w)
    first n x w is asks =
        ⊎_elim (λ (front : slice_get (targets_of mid) n ≡ Some x).
        let low = are.asked_first n x w front asks in
        let less : low.0 < n = low.1 in (low.0, less, stays low.0 w low.2))
        (λ (after : (j : ℕ) × (n ≡ length (targets_of mid) + j)
        × (slice_get (u ∷ []) j ≡ Some x)). go after.0 after.1 after.2)
        (at_either (targets_of mid) (u ∷ []) n x (ap (λ ts. slice_get ts n) (sym grown) ∙ is))
      where
        go : (j : ℕ) → n ≡ length (targets_of mid) + j → slice_get (u ∷ []) j ≡ Some x
            → (k : ℕ) × (k < n) × (slice_get (targets_of new) k ≡ Some w)
        go zero here at =
            let same : u ≡ x = cc in
            let has = one_of_all (HasNumber mid) (asked (rules_at t) u) w all
            (subst (λ y. Any (λ a. a ≡ w) (asked (rules_at t) y)) (sym same) asks) in
            let within : has.0 < length (targets_of mid) =
            slice_get_within (targets_of mid) has.0 w has.1 in
            (has.0, omega arith, stays has.0 w has.1)
        go (suc j) here at = absurd (cc)

    added : AreNumbers t new
    added = record {
      found = found;
      served = subst (All (IsServed t)) (sym grown)
          (all_of_last (IsServed t) (targets_of mid) u are.served served);
      asked_first = first;
    }

  pub numbers_put : IsPut u (targets_of mid) (targets_of new) → AreMore t mid new
  numbers_put put =
      ⊎_elim
      (λ (same : (targets_of new ≡ targets_of mid) × IsAmong (targets_of mid) u).
      let more : AreMore t mid new =
      record {
        kept = λ w h. subst (λ ts. IsAmong ts w) (sym same.0) h;
        numbers = there same.0;
      } in more)
      (λ (grown : targets_of new ≡ targets_of mid ++ u ∷ []).
      let more : AreMore t mid new =
      record { kept = λ w h. (h.0, stays grown h.0 w h.1); numbers = added grown } in more)
      put

  pub put_numbered : IsPut u (targets_of mid) (targets_of new) → HasNumber new u
  put_numbered put =
      ⊎_elim
      (λ (same : (targets_of new ≡ targets_of mid) × IsAmong (targets_of mid) u).
      subst (λ ts. IsAmong ts u) (sym same.0) same.1)
      (λ (grown : targets_of new ≡ targets_of mid ++ u ∷ []).
      let has : IsAmong (targets_of new) u = (
        length (targets_of mid) + 0,
        ap (λ ts. slice_get ts (length (targets_of mid) + 0)) grown
            ∙ at_after (targets_of mid) (u ∷ []) 0 u refl,
      ) in has)
      put

-- more targets have numbers: what had stays so
pub variants_kept : (t : Tables) (old new : Numbers) → AreMore t old new → (e : End)
    → VariantsHave (HasNumber old) e → VariantsHave (HasNumber new) e
variants_kept t old new more (a_named_variant vs) h = λ k d l. more.kept _ (h k d l)
variants_kept t old new more (an_untagged_variant joined alone) h = λ k d l. more.kept _ (h k d l)
variants_kept t old new more _ h = tt

pub part_kept : (t : Tables) (old new : Numbers) → AreMore t old new → (p : Part)
    → PartIsNumbered old p → PartIsNumbered new p
part_kept t old new more (a_member m) h = more.kept m.target h
part_kept t old new more (a_selection s) h = tt
part_kept t old new more (a_catch_all k) h = tt

-- nothing has a number
pub none_found : (n : Numbers) → n.targets.items ≡ [] → n.by_target.entries ≡ []
    → AreFound n
none_found n targets entries = record {
  found = λ t k e.
      let none : At n t ≡ None = ap (lookup (tree.is_at ((order.ghosts).cmp t))) entries in
      absurd (let f : None ≡ Some k = sym none ∙ e in cc);
  given = λ t k e.
      let none : slice_get (targets_of n) k ≡ None = ap (λ xs. slice_get (map key_view xs) k) targets in
      absurd (let f : None ≡ Some (key_view t) = sym none ∙ e in cc);
}

pub no_numbers : (t : Tables) (n : Numbers) → n.targets.items ≡ [] → n.by_target.entries ≡ []
    → AreNumbers t n
no_numbers t n targets entries =
    let none : targets_of n ≡ [] = ap (map key_view) targets in
    record {
      found = none_found n targets entries;
      served = subst (All (IsServed t)) (sym none) (all_of_none (IsServed t));
      asked_first = subst (AreAskedFirst (rules_at t)) (sym none)
          (λ k u w e asks. absurd (let f : None ≡ Some u = e in cc));
    }

-- the list at an index of a part of tables is there
module _ (t : Tables) (ls : List ListEntry) (i : ℕ) (l : ListEntry) (same : ls ≡ t.lists.items) (within : i < length ls) (read : l ≡ get_or ls i l) where
  pub list_here : slice_get t.lists.items i ≡ Some l
  list_here =
      ap (λ es. slice_get es i) (sym same) ∙ slice_get-get_or ls i l within ∙ ap Some (sym read)

-- tables have what its parts lead to
pub list_served : (t : Tables) (ls : List ListEntry) (i : ℕ) (l : ListEntry) → AreTables t
    → ls ≡ t.lists.items → i < length ls → l ≡ get_or ls i l
    → All (PartIsServed t) (parts_view l.parts.items)
list_served t ls i l tables same within read =
    (tables.lists i l (list_here t ls i l same within read)).served

-- the members of one list more have numbers
pub members_more : (t : Tables) (old new : Numbers) (ls : List ListEntry) (i : ℕ) (l : ListEntry)
    → AreMore t old new → ls ≡ t.lists.items → i < length ls → l ≡ get_or ls i l
    → ((k : ℕ) (e : ListEntry) → k < i → slice_get t.lists.items k ≡ Some e
    → All (PartIsNumbered old) (parts_view e.parts.items))
    → All (PartIsNumbered new) (parts_view l.parts.items)
    → (k : ℕ) (e : ListEntry) → k < i + 1 → slice_get t.lists.items k ≡ Some e
    → All (PartIsNumbered new) (parts_view e.parts.items)
members_more t old new ls i l more same within read before now k e less at =
    elim (cases_lt k i) [
      | inl lower ↦ λ q d m. part_kept t old new more _ (before k e lower at q d m)
      | inr past ↦
          let here : k ≡ i = omega arith in
          let one : Some l ≡ Some e =
          sym (list_here t ls i l same within read)
          ∙ ap (slice_get t.lists.items) (sym here) ∙ at in
          let is : l ≡ e = cc in
          subst (λ (x : ListEntry). All (PartIsNumbered new) (parts_view x.parts.items)) is now
    ]

-- what is said of the ends before an index
abbrev pub EndsBefore : Tables → ℕ → (ℕ → code.End → Type 0) → Type 0
EndsBefore t i P =
    (id : ℕ) (e : code.End) → id < i → slice_get t.ends.items id ≡ Some (Some e) → P id e

-- it holds of one end more
pub ends_more : (t : Tables) (i : ℕ) (o : Option code.End) (P Q : ℕ → code.End → Type 0)
    → ((id : ℕ) (e : code.End) → P id e → Q id e) → EndsBefore t i P
    → slice_get t.ends.items i ≡ Some o → ((e : code.End) → o ≡ Some e → Q i e)
    → EndsBefore t (i + 1) Q
ends_more t i o P Q weaker before here now id e less at =
    elim (cases_lt id i) [
      | inl lower ↦ weaker id e (before id e lower at)
      | inr past ↦
          let same : id ≡ i = omega arith in
          let one : Some o ≡ Some (Some e) = sym here ∙ ap (slice_get t.ends.items) (sym same) ∙ at in
          let is : o ≡ Some e = cc in
          subst (λ k. Q k e) (sym same) (now e is)
    ]

-- tables have what the target at an index leads to
pub target_served : (t : Tables) (n : Numbers) (ks : List TargetKey) (i : ℕ) (d : TargetKey)
    → AreNumbers t n → ks ≡ n.targets.items → i < length ks
    → IsServed t (key_view (get_or ks i d))
target_served t n ks i d are same within =
    all_at (IsServed t) (map key_view ks) i (key_view (get_or ks i d))
    (subst (λ xs. All (IsServed t) (map key_view xs)) (sym same) are.served)
    (slice_get-map key_view ks i ∙ ap (option_map key_view) (slice_get-get_or ks i d within))

-- the shapes before an index that have ends have numbers, and so has what their variants are read
-- as
pub record EndsUpto (t : Tables) (start now : Numbers) (i : ℕ) : Type 0 where
  pub more : AreMore t start now
  pub shapes : EndsBefore t i (λ id e. HasNumber now (of_shape id))
  pub variants : EndsBefore t i (λ id e. VariantsHave (HasNumber now) (end_view e))

-- there is none before the first
pub ends_none : (t : Tables) (n : Numbers) → AreNumbers t n → EndsUpto t n n 0
ends_none t n are = record {
  more = more_same t n are;
  shapes = λ id e less at. absurd (omega arith);
  variants = λ id e less at. absurd (omega arith);
}

-- one shape more that has an end
pub ends_some : (t : Tables) (start old new : Numbers) (i : ℕ) (e : code.End)
    → EndsUpto t start old i → AreMore t old new → slice_get t.ends.items i ≡ Some (Some e)
    → HasNumber new (of_shape i) → VariantsHave (HasNumber new) (end_view e)
    → EndsUpto t start new (i + 1)
ends_some t start old new i e upto more at shape variants = record {
  more = more_on t start old new upto.more more;
  shapes =
      ends_more t i (Some e) (λ id f. HasNumber old (of_shape id))
      (λ id f. HasNumber new (of_shape id)) (λ id f h. more.kept (of_shape id) h) upto.shapes at
      (λ f same. shape);
  variants =
      ends_more t i (Some e) (λ id f. VariantsHave (HasNumber old) (end_view f))
      (λ id f. VariantsHave (HasNumber new) (end_view f))
      (λ id f h. variants_kept t old new more (end_view f) h) upto.variants at
      (λ f same.
      let here : e ≡ f = cc in
      subst (λ (x : code.End). VariantsHave (HasNumber new) (end_view x)) here variants);
}

-- one more that has none
pub ends_skip : (t : Tables) (start old : Numbers) (i : ℕ) → EndsUpto t start old i
    → slice_get t.ends.items i ≡ Some None → EndsUpto t start old (i + 1)
ends_skip t start old i upto at = record {
  more = upto.more;
  shapes =
      ends_more t i None (λ id f. HasNumber old (of_shape id))
      (λ id f. HasNumber old (of_shape id)) (λ id f h. h) upto.shapes at (λ f same. absurd (cc));
  variants =
      ends_more t i None (λ id f. VariantsHave (HasNumber old) (end_view f))
      (λ id f. VariantsHave (HasNumber old) (end_view f)) (λ id f h. h) upto.variants at
      (λ f same. absurd (cc));
}
