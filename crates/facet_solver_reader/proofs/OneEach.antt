-- Where there is one reading, each of the values that it reads has one.
use Rattle.std.proofs.Common.{◌≡◌, ◌∙◌, ◌<◌, arith, sym, subst, ℕ, zero, suc, List, [], ◌∷◌, Some}
use Rattle.std.proofs.Common.{map, slice_get, take}
use Rattle.facet_solver_shape.specs.Names.{Name}
use Rattle.facet_solver_reader.specs.declared.count.Count.TheVariants.{One}
use Rattle.facet_solver_reader.specs.Choices.{Reading, Readings, no_readings, reading}
use Rattle.facet_solver_reader.specs.Counted.{Counted}
use Rattle.facet_solver_reader.specs.Documents.{Member, Tree}
use Rattle.facet_solver_reader.specs.Values.{ReadsEach}

-- where what has a property is seen as what only one has, only one has the property
pub one_into : {X Z : Type 0} (P : X → Type 0) (W : Z → Type 0) (image : X → Z)
    → ((x : X) → P x → W (image x)) → ((x y : X) → image x ≡ image y → x ≡ y)
    → Counted W One → (x : X) → P x → Counted P One
one_into P W image into same one x p =
    record {
      value = x;
      has = p;
      only = λ y q.
          same y x (one.only (image y) (into y q) ∙ sym (one.only (image x) (into x p)));
    }

-- the first of several values has one reading
pub one_first : {A : Type 0} (P : A → Reading → Type 0) (x : A) (xs : List A)
    → Counted (ReadsEach P (x ∷ xs)) One → Counted (P x) One
one_first P x xs one = go one.value one.has
  where
    go : (rs : Readings) → ReadsEach P (x ∷ xs) rs → Counted (P x) One
    go no_readings h = absurd h
    go (reading r rs) h =
        one_into (P x) (ReadsEach P (x ∷ xs)) (λ q. reading q rs) (λ q p. (p, h.1))
        (λ q s e. cc) one r h.0

-- and so have the others
pub one_others : {A : Type 0} (P : A → Reading → Type 0) (x : A) (xs : List A)
    → Counted (ReadsEach P (x ∷ xs)) One → Counted (ReadsEach P xs) One
one_others P x xs one = go one.value one.has
  where
    go : (rs : Readings) → ReadsEach P (x ∷ xs) rs → Counted (ReadsEach P xs) One
    go no_readings h = absurd h
    go (reading r rs) h =
        one_into (ReadsEach P xs) (ReadsEach P (x ∷ xs)) (λ qs. reading r qs)
        (λ qs p. (h.0, p)) (λ q s e. cc) one rs h.1

-- the value at a place has one reading
pub one_at : {A : Type 0} (P : A → Reading → Type 0) (xs : List A) (i : ℕ) (x : A)
    → slice_get xs i ≡ Some x → Counted (ReadsEach P xs) One → Counted (P x) One
one_at P [] i x e one = absurd (cc)
one_at P (y ∷ ys) zero x e one =
    let same : y ≡ x = cc in subst (λ z. Counted (P z) One) same (one_first P y ys one)
one_at P (y ∷ ys) (suc i) x e one = one_at P ys i x e (one_others P y ys one)

-- so has one of the first of them
pub one_before : {A : Type 0} (P : A → Reading → Type 0) (xs : List A) (n i : ℕ) (x : A) → i < n
    → slice_get xs i ≡ Some x → Counted (ReadsEach P (take n xs)) One → Counted (P x) One
one_before P xs zero i x less e one = absurd (omega arith)
one_before P [] (suc n) i x less e one = absurd (cc)
one_before P (y ∷ ys) (suc n) zero x less e one =
    let same : y ≡ x = cc in
    subst (λ z. Counted (P z) One) same (one_first P y (take n ys) one)
one_before P (y ∷ ys) (suc n) (suc i) x less e one =
    one_before P ys n i x (omega arith) e (one_others P y (take n ys) one)

-- of members, one of the first by its value
pub one_value_before : (Q : Name → Type 0) (R : Tree → Reading → Type 0) (ms : List Member)
    (n i : ℕ) (v : Tree) → i < n → slice_get (map (λ m. m.value) ms) i ≡ Some v
    → Counted (ReadsEach (λ m r. Q m.name × R m.value r) (take n ms)) One → Counted (R v) One
one_value_before Q R ms zero i v less e one = absurd (omega arith)
one_value_before Q R [] (suc n) i v less e one = absurd (cc)
one_value_before Q R (m ∷ ms) (suc n) zero v less e one =
    let same : m.value ≡ v = cc in
    let first = one_first (λ m r. Q m.name × R m.value r) m (take n ms) one in
    subst (λ w. Counted (R w) One) same
    (one_into (R m.value) (λ r. Q m.name × R m.value r) (λ r. r) (λ r p. (first.has.0, p))
    (λ x y e. e) first first.value first.has.1)
one_value_before Q R (m ∷ ms) (suc n) (suc i) v less e one =
    one_value_before Q R ms n i v (omega arith) e
    (one_others (λ m r. Q m.name × R m.value r) m (take n ms) one)
