-- What a catch-all takes, member by member from the first on.
use Rattle.std.proofs.Common.{◌≡◌, ap, ◌∙◌, ℕ, ◌+◌, ◌<◌, length, get_or, take, List, [], ◌∷◌, ◌++◌}
use Rattle.std.proofs.Common.{refl, add-one}
use Rattle.std.proofs.Math.Seq.{take-suc}
use Rattle.facet_solver_reader.specs.declared.count.Count.{Count}
use Rattle.facet_solver_reader.specs.Choices.{Reading, Taken, none_left, passing, taken}
use Rattle.facet_solver_reader.specs.Counted.{Counted, times}
use Rattle.facet_solver_reader.specs.Documents.{Member}
use Rattle.facet_solver_reader.specs.Known.{Chooses, IsKnown, named}
use Rattle.facet_solver_reader.specs.Objects.{IsUnknown, Object, Reads, Takes, TakesRest}
use Rattle.facet_solver_reader.specs.Parts.{CatchAll}
use Rattle.facet_solver_reader.specs.Rules.{Rules}
use Rattle.facet_solver_reader.proofs.Counting.{counted_images, counted_times}
use Rattle.facet_solver_reader.proofs.Joined.{IsJoined, AreJoined, AreImages}

-- one member more that is taken, behind the others
abbrev pub taken_last : Taken → Reading → Taken
taken_last none_left r = taken r none_left
taken_last (passing t) r = passing (taken_last t r)
taken_last (taken q t) r = taken q (taken_last t r)

-- one member more that is passed over, behind the others
abbrev pub passing_last : Taken → Taken
passing_last none_left = passing none_left
passing_last (passing t) = passing (passing_last t)
passing_last (taken q t) = taken q (passing_last t)

-- with one more there is not none
taken_some : (t : Taken) (r : Reading) → taken_last t r ≡ none_left → ⊥
taken_some none_left r e = absurd (cc)
taken_some (passing t) r e = absurd (cc)
taken_some (taken q t) r e = absurd (cc)

-- nor with one more that is passed over
passing_some : (t : Taken) → passing_last t ≡ none_left → ⊥
passing_some none_left e = absurd (cc)
passing_some (passing t) e = absurd (cc)
passing_some (taken q t) e = absurd (cc)

-- the last one, and those before it, are determined
taken_same : (t u : Taken) (r q : Reading)
    → taken_last t r ≡ taken_last u q → (t ≡ u) × (r ≡ q)
taken_same none_left none_left r q e = (refl, cc)
taken_same none_left (passing u) r q e = absurd (cc)
taken_same none_left (taken p u) r q e =
    let h : taken_last u q ≡ none_left = cc in absurd (taken_some u q h)
taken_same (passing t) none_left r q e = absurd (cc)
taken_same (passing t) (passing u) r q e =
    let h = taken_same t u r q (cc) in (ap passing h.0, h.1)
taken_same (passing t) (taken p u) r q e = absurd (cc)
taken_same (taken p t) none_left r q e =
    let h : taken_last t r ≡ none_left = cc in absurd (taken_some t r h)
taken_same (taken p t) (passing u) r q e = absurd (cc)
taken_same (taken p t) (taken s u) r q e =
    let same : p ≡ s = cc in
    let h = taken_same t u r q (cc) in (ap (λ x. taken x t) same ∙ ap (taken s) h.0, h.1)

-- what stands before a last one that is passed over is determined
passing_same : (t u : Taken) → passing_last t ≡ passing_last u → t ≡ u
passing_same none_left none_left e = refl
passing_same none_left (passing u) e =
    let h : passing_last u ≡ none_left = cc in absurd (passing_some u h)
passing_same none_left (taken p u) e = absurd (cc)
passing_same (passing t) none_left e =
    let h : passing_last t ≡ none_left = cc in absurd (passing_some t h)
passing_same (passing t) (passing u) e = ap passing (passing_same t u (cc))
passing_same (passing t) (taken p u) e = absurd (cc)
passing_same (taken p t) none_left e = absurd (cc)
passing_same (taken p t) (passing u) e = absurd (cc)
passing_same (taken p t) (taken s u) e =
    let same : p ≡ s = cc in
    ap (λ x. taken x t) same ∙ ap (taken s) (passing_same t u (cc))

module _ (rules : Rules) (reads : Reads) (object : Object) (k : CatchAll) where
  module _ (m : Member) (unknown : IsUnknown rules object m.name) where
    -- one more of another name is taken
    pub taken_after : (ms : List Member) (t : Taken) (r : Reading)
        → TakesRest rules object (Takes rules reads k) ms t → Takes rules reads k m r
        → TakesRest rules object (Takes rules reads k) (ms ++ m ∷ []) (taken_last t r)
    taken_after [] none_left r h q = (unknown, q, tt)
    taken_after [] (passing t) r h q = absurd h
    taken_after [] (taken p t) r h q = absurd h
    taken_after (n ∷ ms) none_left r h q = absurd h
    taken_after (n ∷ ms) (passing t) r h q = (h.0, taken_after ms t r h.1 q)
    taken_after (n ∷ ms) (taken p t) r h q = (h.0, h.1, taken_after ms t r h.2 q)

    -- and each reading has it so
    part_after : (ms : List Member) (z : Taken)
        → TakesRest rules object (Takes rules reads k) (ms ++ m ∷ []) z
        → IsJoined (TakesRest rules object (Takes rules reads k) ms) (Takes rules reads k m) taken_last z
    part_after [] none_left w = absurd w
    part_after [] (passing z) w = absurd (unknown w.0)
    part_after [] (taken r none_left) w =
        record {
          first = none_left;
          second = r;
          has_first = tt;
          has_second = w.1;
          is_joined = refl;
        }
    part_after [] (taken r (passing z)) w = absurd w.2
    part_after [] (taken r (taken q z)) w = absurd w.2
    part_after (n ∷ ms) none_left w = absurd w
    part_after (n ∷ ms) (passing z) w =
        let f = part_after ms z w.1 in
        record {
          first = passing f.first;
          second = f.second;
          has_first = (w.0, f.has_first);
          has_second = f.has_second;
          is_joined = ap passing f.is_joined;
        }
    part_after (n ∷ ms) (taken r z) w =
        let f = part_after ms z w.2 in
        record {
          first = taken r f.first;
          second = f.second;
          has_first = (w.0, w.1, f.has_first);
          has_second = f.has_second;
          is_joined = ap (taken r) f.is_joined;
        }

    -- so it stands beside those before it
    pub taken_after_join : (ms : List Member)
        → AreJoined (TakesRest rules object (Takes rules reads k) ms) (Takes rules reads k m)
        (TakesRest rules object (Takes rules reads k) (ms ++ m ∷ [])) taken_last
    taken_after_join ms =
        record {
          into = λ t r h q. taken_after ms t r h q;
          part = part_after ms;
          same_first = λ t u r q e. (taken_same t u r q e).0;
          same_second = λ t u r q e. (taken_same t u r q e).1;
        }

    -- and the count is the product
    pub count_of_taken_after : (ms : List Member) (a b : Count)
        → Counted (TakesRest rules object (Takes rules reads k) ms) a → Counted (Takes rules reads k m) b
        → Counted (TakesRest rules object (Takes rules reads k) (ms ++ m ∷ [])) (times a b)
    count_of_taken_after ms a b f g =
        counted_times (TakesRest rules object (Takes rules reads k) ms) (Takes rules reads k m)
        (TakesRest rules object (Takes rules reads k) (ms ++ m ∷ [])) taken_last a b (taken_after_join ms) f g

  module _ (m : Member) (known : IsKnown (Chooses rules.lists object.list) (named m.name)) where
    -- one more of a known name is passed over
    pub passing_after : (ms : List Member) (t : Taken) → TakesRest rules object (Takes rules reads k) ms t
        → TakesRest rules object (Takes rules reads k) (ms ++ m ∷ []) (passing_last t)
    passing_after [] none_left h = (known, tt)
    passing_after [] (passing t) h = absurd h
    passing_after [] (taken p t) h = absurd h
    passing_after (n ∷ ms) none_left h = absurd h
    passing_after (n ∷ ms) (passing t) h = (h.0, passing_after ms t h.1)
    passing_after (n ∷ ms) (taken p t) h = (h.0, h.1, passing_after ms t h.2)

    -- and each reading has it so
    image_after : (ms : List Member) (z : Taken)
        → TakesRest rules object (Takes rules reads k) (ms ++ m ∷ []) z
        → (t : Taken) × TakesRest rules object (Takes rules reads k) ms t × (z ≡ passing_last t)
    image_after [] none_left w = absurd w
    image_after [] (passing none_left) w = (none_left, tt, refl)
    image_after [] (passing (passing z)) w = absurd w.1
    image_after [] (passing (taken q z)) w = absurd w.1
    image_after [] (taken r z) w = absurd (w.0 known)
    image_after (n ∷ ms) none_left w = absurd w
    image_after (n ∷ ms) (passing z) w =
        let f = image_after ms z w.1 in (passing f.0, (w.0, f.1), ap passing f.2)
    image_after (n ∷ ms) (taken r z) w =
        let f = image_after ms z w.2 in (taken r f.0, (w.0, w.1, f.1), ap (taken r) f.2)

    -- so the readings are those of the members before it
    pub passing_after_images : (ms : List Member)
        → AreImages (TakesRest rules object (Takes rules reads k) ms)
        (TakesRest rules object (Takes rules reads k) (ms ++ m ∷ [])) passing_last
    passing_after_images ms =
        record {
          into = λ t h. passing_after ms t h;
          out = image_after ms;
          same = λ t u e. passing_same t u e;
        }

    -- and as many
    pub count_of_passing_after : (ms : List Member) (n : Count)
        → Counted (TakesRest rules object (Takes rules reads k) ms) n
        → Counted (TakesRest rules object (Takes rules reads k) (ms ++ m ∷ [])) n
    count_of_passing_after ms n f =
        counted_images (TakesRest rules object (Takes rules reads k) ms)
        (TakesRest rules object (Takes rules reads k) (ms ++ m ∷ [])) passing_last n (passing_after_images ms) f

  -- one member more up to an index, of another name
  pub taken_upto : (ms : List Member) (i : ℕ) (d : Member) (a b : Count) → i < length ms
      → IsUnknown rules object (get_or ms i d).name
      → Counted (TakesRest rules object (Takes rules reads k) (take i ms)) a
      → Counted (Takes rules reads k (get_or ms i d)) b
      → Counted (TakesRest rules object (Takes rules reads k) (take (i + 1) ms)) (times a b)
  taken_upto ms i d a b within unknown f g =
      rw (add-one, take-suc ms i d within)
      (count_of_taken_after (get_or ms i d) unknown (take i ms) a b f g)

  -- one member more up to an index, of a known name
  pub passing_upto : (ms : List Member) (i : ℕ) (d : Member) (n : Count) → i < length ms
      → IsKnown (Chooses rules.lists object.list) (named (get_or ms i d).name)
      → Counted (TakesRest rules object (Takes rules reads k) (take i ms)) n
      → Counted (TakesRest rules object (Takes rules reads k) (take (i + 1) ms)) n
  passing_upto ms i d n within known f =
      rw (add-one, take-suc ms i d within)
      (count_of_passing_after (get_or ms i d) known (take i ms) n f)
