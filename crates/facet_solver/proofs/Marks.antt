-- Marks of shapes: more of them keep what is asked answered.
use Rattle.std.proofs.Common.{◌≡◌, ◌<◌, ◌≤◌, ◌+◌, inl, inr, ℕ, zero, suc, List, [], ◌∷◌, ◌++◌, Bool, Some, true, false, refl, ap, ◌∙◌, sym, subst, slice_get, length, get_or, set, length-set, arith}
use Rattle.std.specs.Prelude.{replicate}
use Rattle.std.proofs.lemmas.Bool.{cases_eq, cases_lt}
use Rattle.std.proofs.lemmas.List.{get_or_default}
use Rattle.std.proofs.lemmas.Option.{slice_get-get_or, slice_get_within}
use Rattle.facet_solver_shape.specs.declared.shape.ShapeKind.{ShapeKind}
use Rattle.facet_solver_shape.specs.declared.shape.ShapeKind.TheVariants.{Enum, Struct}
use Rattle.facet_solver.specs.build.Build.{Catalogue}
use Rattle.facet_solver.specs.build.Nested.{Entered}
use Rattle.facet_solver.specs.build.NestedTable.{IsMarked, IsMarkedMore, KindAsks, MarksAmong}

pub more-refl : (limit : ℕ) (ms : List Bool) → IsMarkedMore limit ms ms
more-refl limit ms = record { same_length = refl; kept = λ id m. m; below = λ id le m. m }

pub more-trans : (limit : ℕ) (a b c : List Bool) → IsMarkedMore limit a b → IsMarkedMore limit b c → IsMarkedMore limit a c
more-trans limit a b c f g = record {
  same_length = g.same_length ∙ f.same_length;
  kept = λ id m. g.kept id (f.kept id m);
  below = λ id le m. f.below id le (g.below id le m);
}

pub more-mono : (m n : ℕ) (a b : List Bool) → m ≤ n → IsMarkedMore m a b → IsMarkedMore n a b
more-mono m n a b le f = record { same_length = f.same_length; kept = f.kept; below = λ id h x. f.below id (omega (arith, le, h)) x }

-- a mark that is made
pub set_same : (ms : List Bool) (i : ℕ) → i < length ms → IsMarked (set ms i true) i
set_same [] i h = absurd (omega arith)
set_same (m ∷ ms) zero h = refl
set_same (m ∷ ms) (suc i) h = set_same ms i (omega arith)

set_other : (ms : List Bool) (i k : ℕ) → (k ≡ i → ⊥) → slice_get (set ms i true) k ≡ slice_get ms k
set_other [] i k apart = refl
set_other (m ∷ ms) zero zero apart = absurd (apart refl)
set_other (m ∷ ms) zero (suc k) apart = refl
set_other (m ∷ ms) (suc i) zero apart = refl
set_other (m ∷ ms) (suc i) (suc k) apart = set_other ms i k (λ e. apart (ap suc e))

pub more-set : (ms : List Bool) (i : ℕ) → i < length ms → IsMarkedMore (i + 1) ms (set ms i true)
more-set ms i lt = record {
  same_length = length-set ms i true;
  kept = λ id m. elim (cases_eq id i) [
    | inl same ↦ subst (IsMarked (set ms i true)) (sym same) (set_same ms i lt)
    | inr apart ↦ set_other ms i id apart ∙ m
  ];
  below = λ id le m. sym (set_other ms i id (λ e. omega (arith, e, le))) ∙ m;
}

-- more marks keep what a kind of shape asks for
pub asks_kept : (entered : Entered) (cat : Catalogue) (a b : List Bool) → MarksAmong a b → (k : ShapeKind) → KindAsks (IsMarked a) entered cat k → KindAsks (IsMarked b) entered cat k
asks_kept entered cat a b kept (Struct kind fs) h = λ i d lt asked. kept _ (h i d lt asked)
asks_kept entered cat a b kept (Enum vs) h = λ i d lt j e within asked. kept _ (h i d lt j e within asked)
asks_kept entered cat a b kept _ h = tt

-- what the items before one have, and that one, all have that are not behind it
pub up_to_one : {X : Type 0} (P Q : X → Type 0) (xs : List X) (i : ℕ) (x : X) → x ≡ get_or xs i x → i < length xs → ((y : X) → P y → Q y) → Q x → ((j : ℕ) (d : X) → j < i → P (get_or xs j d)) → (j : ℕ) (d : X) → j < i + 1 → Q (get_or xs j d)
up_to_one P Q xs i x is lt up q h j d l = elim (cases_lt j i) [
  | inl before ↦ up (get_or xs j d) (h j d before)
  | inr past ↦ (let same : j ≡ i = omega (arith, l, past) in subst (λ (k : ℕ). Q (get_or xs k d)) (sym same) (subst Q (is ∙ get_or_default xs i x d lt) q))
]

-- where nothing is marked
not_in_none : (n id : ℕ) → IsMarked (replicate n false) id → ⊥
not_in_none zero id m = cc
not_in_none (suc n) zero m = cc
not_in_none (suc n) (suc id) m = not_in_none n id m

-- no mark is made
abbrev pub NoMark : List Bool → Type 0
NoMark ms = (id : ℕ) → IsMarked ms id → ⊥

pub none_marked : (n : ℕ) (ms : List Bool) → ms ≡ replicate n false → NoMark ms
none_marked n ms none id m = not_in_none n id (subst (λ (ms : List Bool). IsMarked ms id) none m)

-- nor in a part
pub none_before : (front back : List Bool) → NoMark (front ++ back) → NoMark front
none_before [] back h id m = cc
none_before (x ∷ front) back h zero m = h zero m
none_before (x ∷ front) back h (suc id) m = none_before front back (λ i. h (suc i)) id m

pub none_behind : (front back : List Bool) → NoMark (front ++ back) → NoMark back
none_behind [] back h = h
none_behind (x ∷ front) back h = none_behind front back (λ i. h (suc i))

pub among-none : (ms others : List Bool) → NoMark ms → MarksAmong ms others
among-none ms others none id m = absurd (none id m)

-- the mark of a shape
pub mark_at : (ms : List Bool) (i : ℕ) (b : Bool) → i < length ms → get_or ms i false ≡ b → slice_get ms i ≡ Some b
mark_at ms i b lt e = slice_get-get_or ms i false lt ∙ ap Some e

-- an index where the mark is not made
pub not_marked : (ms : List Bool) (i id : ℕ) → get_or ms i false ≡ false → i ≡ id → IsMarked ms id → ⊥
not_marked ms i id e same m =
    let here : IsMarked ms i = subst (IsMarked ms) (sym same) m in
    let at : Some (get_or ms i false) ≡ Some true = sym (slice_get-get_or ms i false (slice_get_within ms i true here)) ∙ here in
    let both : Some false ≡ Some true = sym (ap Some e) ∙ at in
    cc
