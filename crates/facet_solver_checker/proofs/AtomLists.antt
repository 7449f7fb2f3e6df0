-- Lists of atoms that grow.
use Rattle.std.proofs.Common.{◌≡◌, ◌⊎◌, inl, inr, ◌∙◌, sym, subst, refl, ap, ⊎_elim, ℕ, zero, suc}
use Rattle.std.proofs.Common.{◌<◌, ◌+◌, List, [], ◌∷◌, ◌++◌, All, Any, length, get_or, take, Option}
use Rattle.std.proofs.Common.{Some, Vec, Global, slice_get, arith}
use Rattle.std.specs.List.{Contains}
use Rattle.std.proofs.lemmas.List.Elements.{All-contains, All-contains_itself, All-more, All-weaker}
use Rattle.std.proofs.lemmas.List.Elements.{Contains-append_left, Contains-push}
use Rattle.facet_solver_checker.specs.declared.atoms.Atom.{Atom}
use Rattle.facet_solver_checker.specs.declared.atoms.Atoms.{Atoms}
use Rattle.facet_solver_reader.specs.declared.plan.PlannedAlternative.{PlannedAlternative}
use Rattle.facet_solver_reader.specs.declared.plan.Plan.{Plan}
use Rattle.facet_solver_reader.specs.declared.plan.PlannedEnd.{PlannedEnd}
use Rattle.facet_solver_reader.specs.declared.plan.PlannedEnd.TheVariants as planned
use Rattle.facet_solver_reader.specs.declared.plan.PlannedTarget.{PlannedTarget}
use Rattle.std.proofs.lemmas.Option.{slice_get-get_or}
use Rattle.facet_solver_checker.specs.Atoms.{AsksByAlternative, AsksLower, AsksNumber, HasAtom}
use Rattle.facet_solver_checker.specs.Atoms.{by_itself, as_asked, HasOwn, HaveAtoms, HasLower}
use Rattle.facet_solver_checker.specs.Atoms.{HasOnward}
use Rattle.facet_solver_reader.proofs.Quantifiers.{all_at, any_is_at}

-- what is in a list is in one that has all of it
pub in_more : {X : Type 0} (xs ys zs : List X) → All (Contains ys) xs → All (Contains zs) ys
    → All (Contains zs) xs
in_more xs ys zs h g =
    All-weaker (Contains ys) (Contains zs) (λ x i. All-contains (Contains zs) ys x g i) xs h

-- one more keeps all
pub in_pushed : {X : Type 0} (xs ys : List X) (y : X) → ys ≡ xs ++ y ∷ [] → All (Contains ys) xs
in_pushed xs ys y e =
    All-weaker (Contains xs) (Contains ys)
    (λ x i. subst (λ zs. Contains zs x) (sym e) (Contains-append_left xs (y ∷ []) x i)) xs
    (All-contains_itself xs)

-- atoms that are among others are among more
pub lower_more : (lower : List Atoms) (xs ys : List Atom) → All (Contains ys) xs → (k : ℕ)
    → HasLower lower xs k → HasLower lower ys k
lower_more lower xs ys more k h l at = in_more l.each.items xs ys (h l at) more

pub onward_more : (lower : List Atoms) (xs ys : List Atom) → All (Contains ys) xs
    → (p : PlannedAlternative) → HasOnward lower xs p → HasOnward lower ys p
onward_more lower xs ys more p h asks = lower_more lower xs ys more p.content (h asks)

-- what one alternative more asks is among them
pub onward_next : (lower : List Atoms) (xs ys : List Atom) (ps : List PlannedAlternative) (i : ℕ)
    (d : PlannedAlternative) → i < length ps → All (Contains ys) xs
    → All (HasOnward lower xs) (take i ps) → HasOnward lower ys (get_or ps i d)
    → All (HasOnward lower ys) (take (i + 1) ps)
onward_next lower xs ys ps i d within more h p =
    All-more (HasOnward lower ys) ps i d within
    (All-weaker (HasOnward lower xs) (HasOnward lower ys) (onward_more lower xs ys more)
    (take i ps) h)
    p

-- what some alternative asks
pub onward_some : (lower : List Atoms) (xs : List Atom) (ps : List PlannedAlternative) (k : ℕ)
    → All (HasOnward lower xs) ps → Any (AsksByAlternative k) ps → HasLower lower xs k
onward_some lower xs ps k h a =
    subst (λ n. HasLower lower xs n) a.4.1
    (all_at (HasOnward lower xs) ps a.0 a.1 h (any_is_at (AsksByAlternative k) ps a) a.4.0)

-- what asks nothing of the same value
pub nothing_asked : (e : PlannedEnd) → ((n : ℕ) → e ≡ planned.Option n → ⊥)
    → ((n : ℕ) → e ≡ planned.Same n → ⊥)
    → ((n : Option ℕ) (ps : Vec PlannedAlternative Global) → e ≡ planned.Untagged n ps → ⊥)
    → (k : ℕ) → AsksNumber e k → ⊥
nothing_asked (planned.Option n) a b c k h = a n refl
nothing_asked (planned.Same n) a b c k h = b n refl
nothing_asked (planned.Untagged n ps) a b c k h = c n ps refl
nothing_asked e a b c k h = h

-- what is at an index of a list with one more is in the list, or it is that one
pushed_at : {X : Type 0} (xs : List X) (y : X) (j : ℕ) (z : X)
    → slice_get (xs ++ y ∷ []) j ≡ Some z
    → (slice_get xs j ≡ Some z) ⊎ ((j ≡ length xs) × (y ≡ z))
pushed_at [] y zero z e = inr (refl, cc)
pushed_at [] y (suc j) z e = absurd (cc)
pushed_at (x ∷ xs) y zero z e = inl e
pushed_at (x ∷ xs) y (suc j) z e =
    ⊎_elim (λ (h : slice_get xs j ≡ Some z). inl h)
    (λ (h : (j ≡ length xs) × (y ≡ z)). inr (ap suc h.0, h.1)) (pushed_at xs y j z e)

-- the atoms of one target more
pub atoms_next : (plan : Plan) → AsksLower plan → (ls : List Atoms) (i : ℕ) (t : PlannedTarget)
    (l : Atoms) → length ls ≡ i → slice_get plan.targets.items i ≡ Some t → HaveAtoms plan ls
    → ((a : Atom) → HasOwn i t.end a → Contains l.each.items a)
    → ((k : ℕ) → AsksNumber t.end k → HasLower ls l.each.items k)
    → HaveAtoms plan (ls ++ l ∷ [])
atoms_next plan lower ls i t l len at have own asked j x a there has =
    ⊎_elim (λ (h : slice_get ls j ≡ Some x). have j x a h has)
    (λ (h : (j ≡ length ls) × (l ≡ x)).
    subst (λ (y : Atoms). Contains y.each.items a) h.1 (new has (h.0 ∙ len)))
    (pushed_at ls l j x there)
  where
    same : (j : ℕ) (u : PlannedTarget) → slice_get plan.targets.items j ≡ Some u → j ≡ i → u ≡ t
    same j u e is =
        let f : slice_get plan.targets.items i ≡ Some u =
        subst (λ n. slice_get plan.targets.items n ≡ Some u) is e in cc

    new : {j : ℕ} {a : Atom} → HasAtom plan j a → j ≡ i → Contains l.each.items a
    new (by_itself j u a e own_u) is =
        own a (subst (λ (v : PlannedTarget). HasOwn i v.end a) (same j u e is)
        (subst (λ n. HasOwn n u.end a) is own_u))
    new (as_asked j k u a e asks below) is =
        let first : k < j = lower j k u e asks in
        let within : k < length ls = omega arith in
        let there_k : slice_get ls k ≡ Some (get_or ls k l) = slice_get-get_or ls k l within in
        All-contains (Contains l.each.items) (get_or ls k l).each.items a
        (asked k (subst (λ (v : PlannedTarget). AsksNumber v.end k) (same j u e is) asks)
        (get_or ls k l) there_k) (have k (get_or ls k l) a there_k below)
