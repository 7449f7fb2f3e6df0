-- A way that ends is no longer than the list of shapes: where it has so many shapes they all differ.
use Rattle.std.proofs.Common.{◌≡◌, ℕ, zero, suc, ◌<◌, ◌≤◌, ◌+◌, ◌-◌, Bool, true, false, eqb, Option, Some, None, List, [], ◌∷◌, ◌||◌, length, slice_get, refl, ap, sym, subst, ◌∙◌, arith}
use Rattle.std.specs.List.{AllByRecursion, IsDistinct, list_any}
use Rattle.std.specs.Option.{option_and_then, option_map_or}
use Rattle.std.proofs.lemmas.Bool.{false≢true}
use Rattle.std.proofs.lemmas.Bool.Decides.{Decides-eqb}
use Rattle.std.proofs.lemmas.Map.Steps.{length-le_from_distinct_below}
use Rattle.std.proofs.lemmas.Option.{slice_get_within}
use Rattle.facet_solver.specs.declared.Shape.{Shape}
use Rattle.facet_solver_uses.specs.Reached.{ReachesEveryEnd, next_of, reached, reached_within}

-- what is reached from a shape by where it leads to, in so many more steps
abbrev pub by_next : ℕ → List Shape → Shape → Option ℕ → Option Shape
by_next n shapes s next = option_map_or (reached_within n shapes) next (Some s)

-- what is reached from a shape, if there is one, in so many more steps
abbrev pub from_shape : ℕ → List Shape → Option Shape → Option Shape
from_shape n shapes = option_and_then (λ s. by_next n shapes s (next_of s))

-- what is reached is reached in more steps too
more_by : (shapes : List Shape) (n : ℕ) (t s : Shape) → ((id : ℕ) → reached_within n shapes id ≡ Some s → reached_within (suc n) shapes id ≡ Some s) → (next : Option ℕ) → by_next n shapes t next ≡ Some s → by_next (suc n) shapes t next ≡ Some s
more_by shapes n t s more None e = e
more_by shapes n t s more (Some next) e = more next e

more_from : (shapes : List Shape) (n : ℕ) (s : Shape) → ((id : ℕ) → reached_within n shapes id ≡ Some s → reached_within (suc n) shapes id ≡ Some s) → (o : Option Shape) → from_shape n shapes o ≡ Some s → from_shape (suc n) shapes o ≡ Some s
more_from shapes n s more None e = e
more_from shapes n s more (Some t) e = more_by shapes n t s more (next_of t) e

one_more : (shapes : List Shape) (n id : ℕ) (s : Shape) → reached_within n shapes id ≡ Some s → reached_within (suc n) shapes id ≡ Some s
one_more shapes zero id s e = cc
one_more shapes (suc n) id s e =
    more_from shapes n s (λ next. one_more shapes n next s) (slice_get shapes id) e

stays : (shapes : List Shape) (more n m id : ℕ) (s : Shape) → m ≡ n + more → reached_within n shapes id ≡ Some s → reached_within m shapes id ≡ Some s
stays shapes zero n m id s is e =
    let same : m ≡ n = omega (arith, is) in
    ap (λ k. reached_within k shapes id) same ∙ e
stays shapes (suc more) n m id s is e =
    let last : m ≡ suc (n + more) = omega (arith, is) in
    ap (λ k. reached_within k shapes id) last ∙ one_more shapes (n + more) id s (stays shapes more n (n + more) id s refl e)

-- the way from an index has exactly m steps
record EndsAfter (shapes : List Shape) (m id : ℕ) (s : Shape) : Type 0 where
  then : reached_within (suc m) shapes id ≡ Some s
  not_before : reached_within m shapes id ≡ None

-- it has so many steps at the most
abbrev EndsWithin : List Shape → ℕ → Shape → ℕ → Type 0
EndsWithin shapes m s id = (k : ℕ) × (k ≤ m) × EndsAfter shapes k id s

apart : (shapes : List Shape) (k m id : ℕ) (s : Shape) → k < m → EndsAfter shapes k id s → EndsAfter shapes m id s → ⊥
apart shapes k m id s less short long =
    let early : reached_within m shapes id ≡ Some s = stays shapes (m - suc k) (suc k) m id s (omega (arith, less)) short.then in
    let never : None ≡ Some s = sym long.not_before ∙ early in
    cc

-- the next index on the way
goes_by : (shapes : List Shape) (m : ℕ) (t s : Shape) (next : Option ℕ) → by_next (suc m) shapes t next ≡ Some s → by_next m shapes t next ≡ None → (id : ℕ) × EndsAfter shapes m id s
goes_by shapes m t s None e never = cc
goes_by shapes m t s (Some next) e never = (next, record { then = e; not_before = never })

goes_from : (shapes : List Shape) (m : ℕ) (s : Shape) (o : Option Shape) → from_shape (suc m) shapes o ≡ Some s → from_shape m shapes o ≡ None → (id : ℕ) × EndsAfter shapes m id s
goes_from shapes m s None e never = cc
goes_from shapes m s (Some t) e never = goes_by shapes m t s (next_of t) e never

goes : (shapes : List Shape) (m id : ℕ) (s : Shape) → EndsAfter shapes (suc m) id s → (next : ℕ) × EndsAfter shapes m next s
goes shapes m id s ends = goes_from shapes m s (slice_get shapes id) ends.then ends.not_before

-- each index on the way is one of the list
inside_from : (shapes : List Shape) (m id : ℕ) (s : Shape) (o : Option Shape) → slice_get shapes id ≡ o → from_shape m shapes o ≡ Some s → id < length shapes
inside_from shapes m id s None is e = cc
inside_from shapes m id s (Some t) is e = slice_get_within shapes id t is

inside : (shapes : List Shape) (m id : ℕ) (s : Shape) → EndsAfter shapes m id s → id < length shapes
inside shapes m id s ends = inside_from shapes m id s (slice_get shapes id) refl ends.then

-- the indices on a way that ends
record Way (shapes : List Shape) (m : ℕ) (s : Shape) : Type 0 where
  indices : List ℕ
  count : length indices ≡ suc m
  distinct : IsDistinct eqb indices
  each : AllByRecursion (EndsWithin shapes m s) indices

each_so : {P Q : ℕ → Type 0} → ((x : ℕ) → P x → Q x) → (xs : List ℕ) → AllByRecursion P xs → AllByRecursion Q xs
each_so f [] all = tt
each_so f (x ∷ xs) all = (f x all.0, each_so f xs all.1)

not_true : (b : Bool) → (b ≡ true → ⊥) → b ≡ false
not_true true never = absurd (never refl)
not_true false never = refl

differs : (shapes : List Shape) (m id : ℕ) (s : Shape) → EndsAfter shapes (suc m) id s → (other : ℕ) → EndsWithin shapes m s other → eqb id other ≡ false
differs shapes m id s ends other within = not_true (eqb id other) (λ same.
    apart shapes within.0 (suc m) id s (omega (arith, within.1)) (subst (λ (k : ℕ). EndsAfter shapes within.0 k s) (sym ((Decides-eqb id other).0 same)) within.2) ends)

way : (shapes : List Shape) (m id : ℕ) (s : Shape) → EndsAfter shapes m id s → Way shapes m s
unfolding IsDistinct
way shapes zero id s ends = record {
  indices = id ∷ [];
  count = refl;
  distinct = (tt, tt);
  each = ((zero, omega arith, ends), tt);
}
way shapes (suc m) id s ends =
    let next = goes shapes m id s ends in
    let rest = way shapes m next.0 s next.1 in
    record {
      indices = id ∷ rest.indices;
      count = ap suc rest.count;
      distinct = (each_so (differs shapes m id s ends) rest.indices rest.each, rest.distinct);
      each = ((suc m, omega arith, ends), each_so (λ other within. (within.0, omega (arith, within.1), within.2)) rest.indices rest.each);
    }

-- an index that is on the way
met_more : (P : ℕ → Type 0) (q x : ℕ) (xs : List ℕ) → P x → (list_any (eqb q) xs ≡ true → P q) → (b : Bool) → eqb q x ≡ b → (b || list_any (eqb q) xs) ≡ true → P q
met_more P q x xs here later true same there = subst P (sym ((Decides-eqb q x).0 same)) here
met_more P q x xs here later false other there = later there

met : (P : ℕ → Type 0) (q : ℕ) (xs : List ℕ) → AllByRecursion P xs → list_any (eqb q) xs ≡ true → P q
met P q [] all there = absurd (false≢true there)
met P q (x ∷ xs) all there = met_more P q x xs all.0 (met P q xs all.1) (eqb q x) refl there

no_longer : (shapes : List Shape) (m id : ℕ) (s : Shape) → EndsAfter shapes m id s → suc m ≤ length shapes
no_longer shapes m id s ends =
    let whole = way shapes m id s ends in
    let few = length-le_from_distinct_below whole.indices (length shapes) whole.distinct (λ q there.
    let within = met (EndsWithin shapes m s) q whole.indices whole.each there in
    inside shapes within.0 q s within.2) in
    omega (arith, few, whole.count)

-- what is reached in any number of steps is reached in as many as there are shapes
enough_by : (shapes : List Shape) (n id : ℕ) (s : Shape) → reached_within (suc n) shapes id ≡ Some s → ((t : Shape) → reached_within n shapes id ≡ Some t → reached shapes id ≡ Some t) → (o : Option Shape) → reached_within n shapes id ≡ o → reached shapes id ≡ Some s
enough_by shapes n id s e before None never =
    let few = no_longer shapes n id s (record { then = e; not_before = never }) in
    stays shapes (length shapes - suc n) (suc n) (length shapes) id s (omega (arith, few)) e
enough_by shapes n id s e before (Some t) early =
    before t early ∙ (sym (one_more shapes n id t early) ∙ e)

pub reaches_every_end : (shapes : List Shape) → ReachesEveryEnd shapes
reaches_every_end shapes zero id s e = cc
reaches_every_end shapes (suc n) id s e =
    enough_by shapes n id s e (reaches_every_end shapes n id) (reached_within n shapes id) refl
