-- The count of lists of readings, one for each of several things.
use Rattle.std.proofs.Common.{◌≡◌, ◌∙◌, sym, ap, subst, refl, ℕ, ◌+◌, ◌<◌, ◌≤◌, zero, suc}
use Rattle.std.proofs.Common.{length, get_or, take, Some, slice_get, take_all}
use Rattle.std.proofs.Common.{List, [], ◌∷◌, ◌++◌}
use Rattle.std.proofs.lemmas.List.{take_more}
use Rattle.std.proofs.lemmas.Option.{slice_get_within, get_or_from_slice_get}
use Rattle.facet_solver_reader.specs.declared.count.Count.{Count}
use Rattle.facet_solver_reader.specs.declared.count.Count.TheVariants.{One, None as NoCount}
use Rattle.facet_solver_reader.specs.Counted.{Counted, times}
use Rattle.facet_solver_reader.specs.Choices.{Reading, Readings, no_readings, reading}
use Rattle.facet_solver_reader.specs.Values.{ReadsEach}
use Rattle.facet_solver_reader.proofs.Joined.{IsJoined}
use Rattle.facet_solver_reader.proofs.Counting.{counted_times}

-- nothing has one list of readings
pub count_of_none : {A : Type 0} (P : A → Reading → Type 0) → Counted (ReadsEach P []) One
count_of_none P = record { value = no_readings; has = tt; only = only }
  where
    only : (rs : Readings) → ReadsEach P [] rs → rs ≡ no_readings
    only no_readings h = refl
    only (reading r rs) h = absurd h

-- readings with one more at the end
push : Readings → Reading → Readings
push no_readings r = reading r no_readings
push (reading q qs) r = reading q (push qs r)

-- which tells what was there
push_same : (x u : Readings) (y v : Reading) → push x y ≡ push u v → (x ≡ u) × (y ≡ v)
unfolding push
push_same no_readings no_readings y v e = (refl, cc)
push_same no_readings (reading p no_readings) y v e = absurd (cc)
push_same no_readings (reading p (reading q qs)) y v e = absurd (cc)
push_same (reading p no_readings) no_readings y v e = absurd (cc)
push_same (reading p (reading q qs)) no_readings y v e = absurd (cc)
push_same (reading p ps) (reading q qs) y v e =
    let front : p ≡ q = cc in
    let rests : push ps y ≡ push qs v = cc in
    let both : (ps ≡ qs) × (y ≡ v) = push_same ps qs y v rests in
    (ap (λ h. reading h ps) front ∙ ap (reading q) both.0, both.1)

-- one more at the end is read
push_into : {A : Type 0} (P : A → Reading → Type 0) (xs : List A) (x : A) (rs : Readings)
    (r : Reading) → ReadsEach P xs rs → P x r → ReadsEach P (xs ++ x ∷ []) (push rs r)
unfolding push
push_into P [] x no_readings r h p = (p, tt)
push_into P [] x (reading q qs) r h p = absurd h
push_into P (y ∷ ys) x no_readings r h p = absurd h
push_into P (y ∷ ys) x (reading q qs) r h p = (h.0, push_into P ys x qs r h.1 p)

-- and what is read with one more at the end is of that
push_part : {A : Type 0} (P : A → Reading → Type 0) (xs : List A) (x : A) (z : Readings)
    → ReadsEach P (xs ++ x ∷ []) z → IsJoined (ReadsEach P xs) (P x) push z
unfolding push
push_part P [] x no_readings w = absurd w
push_part P [] x (reading r no_readings) w =
    record { first = no_readings; second = r; has_first = tt; has_second = w.0; is_joined = refl }
push_part P [] x (reading r (reading q qs)) w = absurd w.1
push_part P (y ∷ ys) x no_readings w = absurd w
push_part P (y ∷ ys) x (reading r rs) w =
    let below = push_part P ys x rs w.1 in
    record {
      first = reading r below.first;
      second = below.second;
      has_first = (w.0, below.has_first);
      has_second = below.has_second;
      is_joined = ap (reading r) below.is_joined;
    }

-- one more at the end is the product
pub count_of_last : {A : Type 0} (P : A → Reading → Type 0) (xs : List A) (x : A) (m n : Count)
    → Counted (ReadsEach P xs) m → Counted (P x) n
    → Counted (ReadsEach P (xs ++ x ∷ [])) (times m n)
count_of_last P xs x m n =
    counted_times (ReadsEach P xs) (P x) (ReadsEach P (xs ++ x ∷ [])) push m n
    (record {
      into = λ rs r h p. push_into P xs x rs r h p;
      part = λ z w. push_part P xs x z w;
      same_first = λ x u y v e. (push_same x u y v e).0;
      same_second = λ x u y v e. (push_same x u y v e).1;
    })

-- one more, up to a place
pub count_up_to : {A : Type 0} (P : A → Reading → Type 0) (xs : List A) (i : ℕ) (d : A)
    (m n : Count) → i < length xs → Counted (ReadsEach P (take i xs)) m
    → Counted (P (get_or xs i d)) n → Counted (ReadsEach P (take (i + 1) xs)) (times m n)
count_up_to {A} P xs i d m n within h g =
    subst (λ (ys : List A). Counted (ReadsEach P ys) (times m n))
    (sym (take_more xs i d within))
    (count_of_last P (take i xs) (get_or xs i d) m n h g)

-- up to the end is all
pub count_up_to_all : {A : Type 0} (P : A → Reading → Type 0) (xs : List A) (i : ℕ) (n : Count)
    → length xs ≤ i → Counted (ReadsEach P (take i xs)) n → Counted (ReadsEach P xs) n
count_up_to_all {A} P xs i n all h =
    subst (λ (ys : List A). Counted (ReadsEach P ys) n) (take_all i xs all) h

-- where there is none up to a place, there is none of all
pub none_beyond : {A : Type 0} (P : A → Reading → Type 0) (xs : List A) (i : ℕ)
    → Counted (ReadsEach P (take i xs)) NoCount → Counted (ReadsEach P xs) NoCount
none_beyond {A} P xs i none = λ rs h. let f = go i xs rs h in none f.0 f.1
  where
    go : (i : ℕ) (xs : List A) (rs : Readings) → ReadsEach P xs rs
        → (qs : Readings) × ReadsEach P (take i xs) qs
    go zero xs rs h = (no_readings, tt)
    go (suc i) [] no_readings h = (no_readings, tt)
    go (suc i) [] (reading r rs) h = absurd h
    go (suc i) (x ∷ xs) no_readings h = absurd h
    go (suc i) (x ∷ xs) (reading r rs) h = let f = go i xs rs h.1 in (reading r f.0, (h.0, f.1))

-- one more, up to a place, by what stands there
pub count_up_to_at : {A : Type 0} (P : A → Reading → Type 0) (xs : List A) (i : ℕ) (x : A)
    (m n : Count) → slice_get xs i ≡ Some x → Counted (ReadsEach P (take i xs)) m
    → Counted (P x) n → Counted (ReadsEach P (take (i + 1) xs)) (times m n)
count_up_to_at {A} P xs i x m n there h g =
    count_up_to P xs i x m n (slice_get_within xs i x there) h
    (subst (λ (y : A). Counted (P y) n) (sym (get_or_from_slice_get xs i x x there)) g)
