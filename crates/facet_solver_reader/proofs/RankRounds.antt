-- Round by round shapes are ranked.
use Rattle.std.proofs.Common.{◌≡◌, ◌≢◌, ◌⊎◌, ℕ, zero, suc, ◌+◌, ◌*◌, ◌<◌, ◌≤◌, Bool, true, false}
use Rattle.std.proofs.Common.{◌||◌, List, [], ◌∷◌, ◌++◌, Option, Some, None, slice_get, length, refl}
use Rattle.std.proofs.Common.{sym, ap, ◌∙◌, subst, inl, inr, arith, ⊎_elim, get_or}
use Rattle.std.proofs.Common.{map, option_map, ◌-◌, ◌^◌}
use Rattle.std.proofs.lemmas.Option.{get_or_from_slice_get, slice_get-map}
use Rattle.std.specs.Option.{is_some, unwrap_or}
use Rattle.facet_solver_reader.specs.declared.tables.ranks.Ranks.{Ranks}
use Rattle.std.proofs.Math.Bool.{beq}
use lib.Pointwise.{pointwise}
use Rattle.std.proofs.lemmas.Bool.{cases_lt}
use Rattle.std.proofs.lemmas.List.Sums.{count_by-le-length}
use Rattle.std.proofs.lemmas.Option.{slice_get-get_or, slice_get_within}
use Rattle.facet_solver_shape.specs.Catalogues.{Catalogue}
use Rattle.facet_solver_reader.specs.declared.end.End as code
use Rattle.facet_solver_reader.specs.Marks.{marked_of}
use Rattle.facet_solver_reader.specs.OrderedLists.{IsMarked}
use Rattle.facet_solver_reader.specs.Ranked.{AreNext, AreRanked, AreEnds, ShapeIsRanked, asks_marked, is_marked}
use Rattle.facet_solver_reader.specs.Ranked.{marked_next}
use Rattle.facet_solver_reader.specs.Types.{end_of, rules_of}
use Rattle.facet_solver_reader.specs.Parts.{of_shape}
use Rattle.facet_solver_reader.specs.Views.{end_view}
use Rattle.facet_solver_reader.specs.WorkList.{Ends, HasEnd}
use Rattle.facet_solver_reader.proofs.Ranked.{goes_on, grown, marked_true, next_ranked}
use Rattle.facet_solver_reader.proofs.Ranks.{ranked_more}

-- marks after a round, as far as a shape
pub record AreNextBefore (shapes : Catalogue) (ends : Ends) (marks next : List Bool) (i : ℕ)
    : Type 0 where
  pub long : length next ≡ i
  pub each : (id : ℕ) (o : Option code.End) → slice_get ends id ≡ Some o → id < i
      → slice_get next id ≡ Some (marked_next shapes marks id o)

-- what stands in a list that grows at its end
stays : (xs : List Bool) (y : Bool) (k : ℕ) → k < length xs
    → slice_get (xs ++ y ∷ []) k ≡ slice_get xs k
stays [] y k h = absurd (omega arith)
stays (x ∷ xs) y zero h = refl
stays (x ∷ xs) y (suc k) h = stays xs y k (omega arith)

is_last : (xs : List Bool) (y : Bool) → slice_get (xs ++ y ∷ []) (length xs) ≡ Some y
is_last [] y = refl
is_last (x ∷ xs) y = is_last xs y

one_longer : (xs : List Bool) (y : Bool) → length (xs ++ y ∷ []) ≡ length xs + 1
one_longer [] y = refl
one_longer (x ∷ xs) y = let e = one_longer xs y in omega arith

-- one more
pub one_next : (shapes : Catalogue) (ends : Ends) (marks next after : List Bool) (i : ℕ)
    (o : Option code.End) (b : Bool) → AreNextBefore shapes ends marks next i
    → after ≡ next ++ b ∷ [] → slice_get ends i ≡ Some o → b ≡ marked_next shapes marks i o
    → AreNextBefore shapes ends marks after (i + 1)
one_next shapes ends marks next after i o b before pushed here is = record {
  long = ap length pushed ∙ one_longer next b ∙ ap (λ n. n + 1) before.long;
  each = λ id x at less.
      elim (cases_lt id i) [
        | inl l ↦
            let long = before.long in
            ap (λ zs. slice_get zs id) pushed ∙ stays next b id (omega arith)
            ∙ before.each id x at l
        | inr l ↦
            let same : id ≡ i = omega arith in
            let one : Some o ≡ Some x = sym here ∙ ap (slice_get ends) (sym same) ∙ at in
            let equal : o ≡ x = cc in
            let place : id ≡ length next = same ∙ sym before.long in
            ap (λ zs. slice_get zs id) pushed ∙ ap (slice_get (next ++ b ∷ [])) place ∙ is_last next b
            ∙ ap Some (is ∙ ap (λ k. marked_next shapes marks k o) (sym same) ∙ ap (marked_next shapes marks id) equal)
      ];
}

-- all
pub all_next : (shapes : Catalogue) (ends : Ends) (marks next : List Bool) (i : ℕ)
    → AreNextBefore shapes ends marks next i → i ≡ length ends → AreNext shapes ends marks next
all_next shapes ends marks next i before end = record {
  each = λ id o is. let within = slice_get_within ends id o is in before.each id o is (omega arith);
  same_length = before.long ∙ end;
}

-- the shapes that are ranked have ends, and ranks below a number, of which there are no more than
-- twice as many
pub record AreRankedSoFar (shapes : Catalogue) (ends : Ends) (marks : List Bool) (steps : ℕ)
    : Type 0 where
  pub same_length : length marks ≡ length ends
  pub there : (id : ℕ) → IsMarked marks id → HasEnd ends id
  pub ranked : (n id : ℕ) → suc n ≡ steps → IsMarked marks id → ShapeIsRanked shapes n id
  pub some : 1 ≤ steps
  pub bounded : steps ≤ 2 * marked_of marks + 1

module _ (shapes : Catalogue) (ends : Ends) (marks next : List Bool) (steps : ℕ) (sound : AreEnds shapes ends) (so_far : AreRankedSoFar shapes ends marks steps) (round : AreNext shapes ends marks next) where
  -- a shape that is marked stays so
  more : (id : ℕ) → IsMarked marks id → IsMarked next id
  more id m =
      let has = so_far.there id m in
      round.each id (Some has.0) has.1
      ∙ ap (λ b. Some (b || asks_marked shapes marks (end_view has.0))) (ap (λ o. unwrap_or o false) m)

  -- one that is marked has an end, and was marked or asks marked ones alone
  cases : (id : ℕ) → IsMarked next id
      → (e : code.End) × (slice_get ends id ≡ Some (Some e))
      × (IsMarked marks id ⊎ (asks_marked shapes marks (end_view e) ≡ true))
  cases id m = go (get_or ends id None) (slice_get-get_or ends id None within)
    where
      within : id < length ends
      within =
          let here = slice_get_within next id true m in
          let long = round.same_length in
          omega arith

      either : (a b : Bool) → is_marked marks id ≡ a → (a || b) ≡ true
          → IsMarked marks id ⊎ (b ≡ true)
      either true b e h = inl (marked_true marks id e)
      either false b e h = inr h

      go : (o : Option code.End) → slice_get ends id ≡ Some o
          → (e : code.End) × (slice_get ends id ≡ Some (Some e))
          × (IsMarked marks id ⊎ (asks_marked shapes marks (end_view e) ≡ true))
      go None is =
          let one : Some false ≡ Some true = sym (round.each id None is) ∙ m in absurd (cc)
      go (Some e) is =
          let one : Some (is_marked marks id || asks_marked shapes marks (end_view e)) ≡ Some true =
          sym (round.each id (Some e) is) ∙ m
          in
          let both : (is_marked marks id || asks_marked shapes marks (end_view e)) ≡ true = cc in
          (e, is, either (is_marked marks id) (asks_marked shapes marks (end_view e)) refl both)

  -- there are more marks
  pub more_marked : next ≢ marks → marked_of marks < marked_of next
  more_marked differ =
      ⊎_elim (λ (e : marks ≡ next). absurd (differ (sym e)))
      (λ (l : marked_of marks < marked_of next). l)
      (grown marks next (round.same_length ∙ sym so_far.same_length) more)

  -- one more round
  pub round_ranked : next ≢ marks → AreRankedSoFar shapes ends next (steps + 2)
  round_ranked differ = record {
    same_length = round.same_length;
    there = λ id m. let c = cases id m in (c.0, c.1);
    ranked = λ n id is m. ranked n id is (cases id m);
    some = omega arith;
    bounded = let l = more_marked differ in let b = so_far.bounded in omega arith;
  }
    where
      lower : (k : ℕ) → suc k ≡ steps → (n : ℕ) → suc n ≡ steps + 2 → (id : ℕ)
          → (e : code.End) × (slice_get ends id ≡ Some (Some e))
          × (IsMarked marks id ⊎ (asks_marked shapes marks (end_view e) ≡ true))
          → ShapeIsRanked shapes n id
      lower k is n more id c strict =
          ⊎_elim
          (λ (m : IsMarked marks id).
          ranked_more (rules_of shapes strict) k n (of_shape id) (so_far.ranked k id is m strict) (omega arith))
          (λ (a : asks_marked shapes marks (end_view c.0) ≡ true).
          let s = sound.each id c.0 c.1 in
          let asks : asks_marked shapes marks (end_of shapes id) ≡ true =
          sym (ap (asks_marked shapes marks) s.0) ∙ a
          in
          let two : suc (suc k) ≡ n = omega arith in
          subst (λ i. ShapeIsRanked shapes i id) two
          (next_ranked shapes marks k (λ j m. so_far.ranked k j is m) id asks) strict)
          c.2

      ranked : (n id : ℕ) → suc n ≡ steps + 2
          → (e : code.End) × (slice_get ends id ≡ Some (Some e))
          × (IsMarked marks id ⊎ (asks_marked shapes marks (end_view e) ≡ true))
          → ShapeIsRanked shapes n id
      ranked zero id is c = absurd (let s = so_far.some in omega arith)
      ranked (suc zero) id is c = absurd (let s = so_far.some in omega arith)
      ranked (suc (suc k)) id is c = lower k (omega arith) (suc (suc k)) is id c

-- what is read of a list's views
pub read_mapped : {X Y : Type 0} (view : Y → X) (ys : List Y) (i : ℕ) (y : Y) (d : X)
    → i < length ys → y ≡ get_or ys i y → get_or (map view ys) i d ≡ view y
read_mapped view ys i y d within read =
    get_or_from_slice_get (map view ys) i (view y) d
    (slice_get-map view ys i ∙ ap (option_map view) (slice_get-get_or ys i y within ∙ ap Some (sym read)))

-- a mark after one more round: by the mark before, by the end, or none
pub next_by_mark : (shapes : Catalogue) (marks : List Bool) (i : ℕ) (o : Option code.End)
    (e : code.End) → o ≡ Some e → is_marked marks i ≡ true → true ≡ marked_next shapes marks i o
next_by_mark shapes marks i o e is m =
    sym
    (ap (marked_next shapes marks i) is
    ∙ ap (λ b. b || asks_marked shapes marks (end_view e)) m)

pub next_by_end : (shapes : Catalogue) (marks : List Bool) (i : ℕ) (o : Option code.End)
    (e : code.End) (b : Bool) → o ≡ Some e → is_marked marks i ≡ false
    → b ≡ asks_marked shapes marks (end_view e) → b ≡ marked_next shapes marks i o
next_by_end shapes marks i o e b is m asks =
    asks
    ∙ sym
    (ap (marked_next shapes marks i) is
    ∙ ap (λ c. c || asks_marked shapes marks (end_view e)) m)

pub next_by_none : (shapes : Catalogue) (marks : List Bool) (i : ℕ) (o : Option code.End)
    → o ≡ None → false ≡ marked_next shapes marks i o
next_by_none shapes marks i o is = sym (ap (marked_next shapes marks i) is)

-- a shape with an end
pub end_here : (ends : Ends) (i id : ℕ) (o : Option code.End) → i < length ends
    → o ≡ get_or ends i o → is_some o ≡ true → id ≡ i → HasEnd ends id
end_here ends i id None within read some same = absurd (cc)
end_here ends i id (Some y) within read some same =
    (y, ap (slice_get ends) same ∙ slice_get-get_or ends i (Some y) within ∙ ap Some (sym read))

-- a shape with an end that is not ranked, or each one before it is
module _ (ends : Ends) (marks : List Bool) (long : length marks ≡ length ends) (i : ℕ) (o : Option code.End) (within : i < length ends) (read : o ≡ get_or ends i o) where
  pub unranked_here : (b : Bool) (id : ℕ) → is_some o ≡ true → b ≡ get_or marks i b → b ≡ false
      → id ≡ i → HasEnd ends id × (slice_get marks id ≡ Some false)
  unranked_here b id some at is same = (has o some (sym read), mark)
    where
      here : (x : Option code.End) → get_or ends i o ≡ x → slice_get ends id ≡ Some x
      here x e = ap (slice_get ends) same ∙ slice_get-get_or ends i o within ∙ ap Some e

      has : (x : Option code.End) → is_some x ≡ true → get_or ends i o ≡ x → HasEnd ends id
      has None s e = absurd (cc)
      has (Some y) s e = (y, here (Some y) e)

      mark : slice_get marks id ≡ Some false
      mark =
          ap (slice_get marks) same ∙ slice_get-get_or marks i b (omega arith)
          ∙ ap Some (sym at ∙ is)

  abbrev Before : ℕ → Type 0
  Before n = (id : ℕ) → id < n → HasEnd ends id → IsMarked marks id

  pub ranked_here : (b : Bool) → b ≡ get_or marks i b → b ≡ true → Before i → Before (i + 1)
  ranked_here b at is before id less has =
      elim (cases_lt id i) [
        | inl l ↦ before id l has
        | inr l ↦
            let same : id ≡ i = omega arith in
            ap (slice_get marks) same ∙ slice_get-get_or marks i b (omega arith)
            ∙ ap Some (sym at ∙ is)
      ]

  pub no_end_here : is_some o ≡ false → Before i → Before (i + 1)
  no_end_here none before id less has =
      elim (cases_lt id i) [
        | inl l ↦ before id l has
        | inr l ↦
            let same : id ≡ i = omega arith in
            let at : slice_get ends i ≡ Some o = slice_get-get_or ends i o within ∙ ap Some (sym read) in
            let one : Some o ≡ Some (Some has.0) = sym at ∙ ap (slice_get ends) (sym same) ∙ has.1 in
            let is : o ≡ Some has.0 = cc in
            let no_end : true ≡ false = sym (ap is_some is) ∙ none in
            absurd (cc)
      ]

-- the end: no more are marked
pub all_ranked : (shapes : Catalogue) (ends : Ends) (r : Ranks) → AreEnds shapes ends
    → AreRankedSoFar shapes ends r.is_ranked.items r.steps
    → AreNext shapes ends r.is_ranked.items r.is_ranked.items → AreRanked shapes ends r
all_ranked shapes ends r sound so_far round = record {
  ranked = λ id m. go r.steps refl id m;
  unranked = λ id has no_mark strict n.
      goes_on shapes ends r.is_ranked.items sound round strict n id has (ap (λ o. unwrap_or o false) no_mark);
  some = let s = so_far.some in omega arith;
  same_length = so_far.same_length;
}
  where
    go : (s : ℕ) → s ≡ r.steps → (id : ℕ) → IsMarked r.is_ranked.items id
        → (n : ℕ) × (n < r.steps) × ShapeIsRanked shapes n id
    go zero e id m = absurd (let s = so_far.some in omega arith)
    go (suc n) e id m = (n, omega arith, so_far.ranked n id e m)

-- fewer are left, and the steps fit
pub fewer_left : (ends : Ends) (marks next : List Bool) → marked_of marks < marked_of next
    → length next ≡ length ends
    → length ends - marked_of next < length ends - marked_of marks
fewer_left ends marks next more long =
    let most = count_by-le-length (λ b. b) next in omega (arith, most)

pub steps_fit : (ends : Ends) (marks next : List Bool) (steps : ℕ)
    → marked_of marks < marked_of next → length next ≡ length ends
    → steps ≤ 2 * marked_of marks + 1 → length ends < 2 ^ 63 → steps + 2 < 2 ^ 64
steps_fit ends marks next steps more long bounded few =
    let most = count_by-le-length (λ b. b) next in omega (arith, most)

-- two lists of marks differ where a test says so
same_all : (xs : List Bool) → pointwise beq xs xs ≡ true
same_all [] = refl
same_all (true ∷ xs) = same_all xs
same_all (false ∷ xs) = same_all xs

pub not_same : (xs ys : List Bool) → pointwise beq xs ys ≡ false → xs ≢ ys
not_same xs ys differ same =
    let yes : pointwise beq xs ys ≡ true = subst (λ zs. pointwise beq xs zs ≡ true) same (same_all xs) in
    let both : true ≡ false = sym yes ∙ differ in
    cc
