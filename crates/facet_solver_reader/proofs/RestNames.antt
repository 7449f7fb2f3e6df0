-- Which part has a key, as far as it is found.
use Rattle.std.proofs.Common.{◌≡◌, inl, inr, refl, sym, ap, subst, ◌∙◌, ℕ, ◌<◌, ◌+◌, ◌≤◌, arith, List, length, false, Option, Some, None, MatchOption, slice_get, get_or, IsTrue}
use Rattle.std.specs.Option.{is_some, option_map}
use Rattle.std.proofs.lemmas.Bool.{cases_lt, false≢true}
use Rattle.std.proofs.lemmas.List.{length-map}
use Rattle.std.proofs.lemmas.Option.{slice_get-get_or, slice_get-map, slice_get_within, same_Some}
use Rattle.facet_solver_reader.specs.declared.part.Part as code_part
use Rattle.facet_solver_reader.specs.declared.tables.order.Ordered.{Ordered}
use Rattle.facet_solver_reader.specs.Known.{Key, rest}
use Rattle.facet_solver_reader.specs.Parts.{Part}
use Rattle.facet_solver_reader.specs.Placing.{AreSharing, IsRestOf, IsShared, part_knows}
use Rattle.facet_solver_reader.specs.Views.{part_view, parts_view}
use Rattle.facet_solver_reader.proofs.Quantifiers.{any_at, any_is_at}

-- a part before an index has the key
pub record TakesAt (o : Ordered) (x : Key) (ps : List Part) (n first : ℕ) : Type 0 where
  pub part : Part
  pub before : first < n
  pub is_there : slice_get ps first ≡ Some part
  pub takes : IsTrue (part_knows o x part)
  pub only : (k : ℕ) (p : Part) → k < n → slice_get ps k ≡ Some p
      → IsTrue (part_knows o x p) → k ≡ first

-- which part before an index has the key, if one does
abbrev pub IsTaker : Ordered → Key → List Part → ℕ → Option ℕ → Type 0
IsTaker o x ps n taker =
    MatchOption taker
    ((k : ℕ) (p : Part) → k < n → slice_get ps k ≡ Some p → IsTrue (part_knows o x p) → ⊥)
    (TakesAt o x ps n)

module _ (o : Ordered) (x : Key) (ps : List Part) where
  module _ (n : ℕ) (p : Part) (at : slice_get ps n ≡ Some p) where
    -- one part more, which does not take it
    pub taker_same : (t : Option ℕ) → IsTaker o x ps n t → part_knows o x p ≡ false
        → IsTaker o x ps (n + 1) t
    taker_same t h not = go t h
      where
        earlier : (k : ℕ) (q : Part) → k < n + 1 → slice_get ps k ≡ Some q
            → IsTrue (part_knows o x q) → k < n
        earlier k q less there takes = elim (cases_lt k n) [
          | inl low ↦ low
          | inr high ↦
              let here : k ≡ n = omega (arith, less, high) in
              let same : q ≡ p = same_Some q p (sym there ∙ ap (slice_get ps) here ∙ at) in
              absurd (false≢true (sym not ∙ ap (part_knows o x) (sym same) ∙ takes))
        ]

        go : (t : Option ℕ) → IsTaker o x ps n t → IsTaker o x ps (n + 1) t
        go None h = λ k q less there takes. h k q (earlier k q less there takes) there takes
        go (Some first) h = record {
          part = h.part;
          before = let b = h.before in omega arith;
          is_there = h.is_there;
          takes = h.takes;
          only = λ k q less there takes. h.only k q (earlier k q less there takes) there takes;
        }

    -- one that does, where none did
    pub taker_here : IsTaker o x ps n None → IsTrue (part_knows o x p)
        → IsTaker o x ps (n + 1) (Some n)
    taker_here h takes = record {
      part = p;
      before = omega arith;
      is_there = at;
      takes = takes;
      only = λ k q less there k_takes. elim (cases_lt k n) [
        | inl low ↦ absurd (h k q low there k_takes)
        | inr high ↦ omega (arith, less, high)
      ];
    }

    -- one that does, where one did
    pub taken_twice : (t : Option ℕ) (first : ℕ) → IsTaker o x ps n t → t ≡ Some first
        → IsTrue (part_knows o x p) → AreSharing o ps x first n
    taken_twice t first found same takes =
        let h : IsTaker o x ps n (Some first) = subst (IsTaker o x ps n) same found in
        let shared : IsShared o ps x = record {
          first = first;
          second = n;
          apart = h.before;
          one = h.part;
          other = p;
          at_first = h.is_there;
          at_second = at;
          first_knows = h.takes;
          second_knows = takes;
        } in
        (shared, refl, refl)

  -- after the last part no two have it
  pub taker_unshared : (n : ℕ) (t : Option ℕ) → length ps ≤ n → IsTaker o x ps n t
      → IsShared o ps x → ⊥
  taker_unshared n None all h s =
      h s.first s.one (let l = slice_get_within ps s.first s.one s.at_first in omega arith)
      s.at_first s.first_knows
  taker_unshared n (Some first) all h s =
      let i : s.first ≡ first = h.only s.first s.one (let l = slice_get_within ps s.first s.one s.at_first in omega arith) s.at_first s.first_knows in
      let j : s.second ≡ first = h.only s.second s.other (let l = slice_get_within ps s.second s.other s.at_second in omega arith) s.at_second s.second_knows in
      omega (arith, i, j, s.apart)

-- after the last part it is told whether one takes the rest
pub taker_of_all : (o : Ordered) (ps : List Part) (n : ℕ) (t : Option ℕ) → length ps ≤ n
    → IsTaker o rest ps n t → IsRestOf o ps (is_some t)
taker_of_all o ps n None all h = record {
  has = (
    λ e. absurd (false≢true e),
    λ a. absurd (h a.0 a.1 (let l : a.0 < length ps = a.2 in omega arith) (any_is_at (λ p. IsTrue (part_knows o rest p)) ps a) a.4),
  );
  apart = taker_unshared o rest ps n None all h;
}
taker_of_all o ps n (Some first) all h = record {
  has = (λ e. any_at (λ p. IsTrue (part_knows o rest p)) ps first h.part h.is_there h.takes, λ a. refl);
  apart = taker_unshared o rest ps n (Some first) all h;
}

-- a part in memory
pub part_at : (ps : List code_part.Part) (k : ℕ) (d : code_part.Part) → k < length ps
    → slice_get (parts_view ps) k ≡ Some (part_view (get_or ps k d))
part_at ps k d within =
    slice_get-map part_view ps k ∙ ap (option_map part_view) (slice_get-get_or ps k d within)

pub part_read : (ps : List code_part.Part) (k : ℕ) (p : code_part.Part) → k < length ps
    → p ≡ get_or ps k p → slice_get (parts_view ps) k ≡ Some (part_view p)
part_read ps k p within is = part_at ps k p within ∙ ap (λ (q : code_part.Part). Some (part_view q)) (sym is)

pub long_parts : (ps : List code_part.Part) → length (parts_view ps) ≡ length ps
long_parts ps = length-map ps part_view
