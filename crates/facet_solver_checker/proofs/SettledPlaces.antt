-- Which places are settled: the two ways of each are told apart, or it is listed.
use Rattle.std.proofs.Common.{◌≡◌, inl, inr, sym, ◌∙◌, subst, ⊎_elim, ℕ, ◌<◌, ◌+◌, Bool, true, List}
use Rattle.std.proofs.Common.{Some, Result, Ok, Err, IfOk, OnOk, length, refl, slice_get}
use borrow.Author.Count.{below_more}
use Rattle.facet_solver_checker.specs.declared.apart.Apart.{Apart}
use Rattle.facet_solver_witnesses.specs.declared.place.Fork.{Fork}
use Rattle.facet_solver_witnesses.specs.declared.place.Fork.TheVariants as forks
use Rattle.facet_solver_witnesses.specs.declared.place.Place.{Place}
use Rattle.facet_solver_reader.specs.declared.plan.Plan.{Plan}
use Rattle.facet_solver_reader.specs.declared.plan.PlannedList.{PlannedList}
use Rattle.facet_solver_reader.specs.declared.plan.PlannedPart.{PlannedPart}
use Rattle.facet_solver_reader.specs.declared.plan.PlannedPart.TheVariants as parts
use Rattle.facet_solver_reader.specs.declared.plan.PlannedSelection.{PlannedSelection}
use Rattle.facet_solver_reader.specs.declared.plan.PlannedTarget.{PlannedTarget}
use Rattle.facet_solver_checker.specs.Forks.{AllSettled, AreSettled, Grows, IsApart}
use Rattle.facet_solver_checker.specs.Forks.{HasWays, IsFork, IsListed, IsPartFork}
use Rattle.facet_solver_checker.specs.Forks.{IsSettled}
use Rattle.facet_solver_checker.specs.Forks.{place_at, way_count}

-- what is there is one thing
some_is : {A : Type 0} {x y : A} → Some x ≡ Some y → x ≡ y
some_is p = cc

-- where the answer is that they are apart
pub told_if : {E : Type 0} (X Y : Type 0) → (X → Y) → (r : Result Bool E)
    → IfOk r (λ b. b ≡ true → X) → IfOk r (λ b. b ≡ true → Y)
told_if X Y f (Ok b) h = λ e. f (h e)
told_if X Y f (Err e) h = tt

-- what is listed stays so
pub grows_none : (places : List Place) → Grows places places
grows_none places place h = h

pub grows_on : (a b c : List Place) → Grows a b → Grows b c → Grows a c
grows_on a b c f g place h = g place (f place h)

module _ (plan : Plan) (apart : Apart) (a b : List Place) (grows : Grows a b) where
  -- what is settled stays so
  pub settled_on : (place : Place) → IsSettled plan apart a place → IsSettled plan apart b place
  settled_on place h =
      ⊎_elim (λ (x : IsApart plan apart place). inl x)
      (λ (y : IsListed a place). inr (grows place y)) h

  pub pairs_on : (fork : Fork) (n : ℕ) → AreSettled plan apart a fork n
      → AreSettled plan apart b fork n
  pairs_on fork n h x y less below = settled_on (place_at fork x y) (h x y less below)

  -- so is each of the first ways with a later one, and the next with it
  pub before_more : (fork : Fork) (second first : ℕ)
      → ((x : ℕ) → x < first → IsSettled plan apart a (place_at fork x second))
      → IsSettled plan apart b (place_at fork first second)
      → (x : ℕ) → x < first + 1 → IsSettled plan apart b (place_at fork x second)
  before_more fork second first before here =
      below_more (λ x. IsSettled plan apart b (place_at fork x second)) first
      (λ x less. settled_on (place_at fork x second) (before x less)) here

  -- so are each two of the first ways, and these with the next
  pub pairs_more : (fork : Fork) (second : ℕ) → AreSettled plan apart a fork second
      → ((x : ℕ) → x < second → IsSettled plan apart b (place_at fork x second))
      → AreSettled plan apart b fork (second + 1)
  pairs_more fork second before here x y less below =
      below_more (λ z. (x : ℕ) → x < z → IsSettled plan apart b (place_at fork x z)) second
      (λ z under w smaller. settled_on (place_at fork w z) (before w z smaller under)) here y below
      x
      less

  -- so are the ways of the first selections of a list, and those of the next part
  pub parts_more : (ps : List PlannedPart) (list i : ℕ)
      → ((k n : ℕ) → k < i → IsPartFork ps k n → AreSettled plan apart a (forks.Selection list k) n)
      → ((n : ℕ) → IsPartFork ps i n → AreSettled plan apart b (forks.Selection list i) n)
      → (k n : ℕ) → k < i + 1 → IsPartFork ps k n
      → AreSettled plan apart b (forks.Selection list k) n
  parts_more ps list i before here k n less is =
      below_more (λ j. (n : ℕ) → IsPartFork ps j n
      → AreSettled plan apart b (forks.Selection list j) n) i
      (λ j under q p. pairs_on (forks.Selection list j) q (before j q under p)) here k less n is

  -- so are the ways of the selections of the first lists, and of the next
  pub lists_more : (i : ℕ)
      → ((k part n : ℕ) → k < i → IsFork plan (forks.Selection k part) n
      → AreSettled plan apart a (forks.Selection k part) n)
      → ((part n : ℕ) → IsFork plan (forks.Selection i part) n
      → AreSettled plan apart b (forks.Selection i part) n)
      → (k part n : ℕ) → k < i + 1 → IsFork plan (forks.Selection k part) n
      → AreSettled plan apart b (forks.Selection k part) n
  lists_more i before here k part n less is =
      below_more (λ j. (part n : ℕ) → IsFork plan (forks.Selection j part) n
      → AreSettled plan apart b (forks.Selection j part) n) i
      (λ j under q w p. pairs_on (forks.Selection j q) w (before j q w under p)) here k less part n
      is

  -- and of enums
  pub enums_more : (i : ℕ)
      → ((k n : ℕ) → k < i → IsFork plan (forks.Enum k) n
      → AreSettled plan apart a (forks.Enum k) n)
      → ((n : ℕ) → IsFork plan (forks.Enum i) n → AreSettled plan apart b (forks.Enum i) n)
      → (k n : ℕ) → k < i + 1 → IsFork plan (forks.Enum k) n
      → AreSettled plan apart b (forks.Enum k) n
  enums_more i before here k n less is =
      below_more (λ j. (n : ℕ) → IsFork plan (forks.Enum j) n
      → AreSettled plan apart b (forks.Enum j) n) i
      (λ j under q p. pairs_on (forks.Enum j) q (before j q under p)) here k less n is

-- a fork of a list is one of its parts
pub part_fork : (plan : Plan) (list part n : ℕ) (l : PlannedList)
    → slice_get plan.lists.items list ≡ Some l → IsFork plan (forks.Selection list part) n
    → IsPartFork l.parts.items part n
part_fork plan list part n l at is =
    let same : is.0 ≡ l = some_is (sym is.1 ∙ at) in
    subst (λ (z : PlannedList). IsPartFork z.parts.items part n) same is.2

-- a fork of a part is one of the part that stands there
pub ways_of_part : (ps : List PlannedPart) (part n : ℕ) (p : PlannedPart)
    → slice_get ps part ≡ Some p → IsPartFork ps part n → HasWays p n
ways_of_part ps part n p at is =
    let same : is.0 ≡ p = some_is (sym is.1 ∙ at) in subst (λ z. HasWays z n) same is.2

-- what follows where there was no error
pub on_ok : {T E : Type 0} (r : Result T E) (P Q : Type 0) → (P → Q) → OnOk r P → OnOk r Q
on_ok (Ok x) P Q f h = f h
on_ok (Err e) P Q f h = h

-- the ways of a selection are its branches
pub ways_settled : (plan : Plan) (apart : Apart) (places : List Place) (fork : Fork)
    (part : PlannedPart) (p : PlannedSelection) → part ≡ parts.Selection p
    → AreSettled plan apart places fork (length p.branches.items) → (n : ℕ)
    → HasWays part n → AreSettled plan apart places fork n
ways_settled plan apart places fork part p is h n w =
    let count : length p.branches.items ≡ n = subst (λ z. HasWays z n) is w in
    subst (AreSettled plan apart places fork) count h

-- what is no selection has none
pub no_ways : (part : PlannedPart) → ((p : PlannedSelection) → part ≡ parts.Selection p → ⊥)
    → (n : ℕ) → HasWays part n → ⊥
no_ways (parts.Selection p) other n w = other p refl
no_ways (parts.Member p) other n w = w
no_ways (parts.CatchAll p) other n w = w

-- the ways of an enum
pub enum_ways : (plan : Plan) (target n : ℕ) (t : PlannedTarget)
    → slice_get plan.targets.items target ≡ Some t → IsFork plan (forks.Enum target) n
    → way_count t.end ≡ n
enum_ways plan target n t at is =
    let same : is.0 ≡ t = some_is (sym is.1 ∙ at) in
    subst (λ (z : PlannedTarget). way_count z.end ≡ n) same is.2

-- each fork is a selection or an enum
pub all_settled : (plan : Plan) (apart : Apart) (places : List Place)
    → ((list part n : ℕ) → IsFork plan (forks.Selection list part) n
    → AreSettled plan apart places (forks.Selection list part) n)
    → ((target n : ℕ) → IsFork plan (forks.Enum target) n
    → AreSettled plan apart places (forks.Enum target) n)
    → AllSettled plan apart places
all_settled plan apart places lists enums = go
  where
    go : (fork : Fork) (n : ℕ) → IsFork plan fork n → AreSettled plan apart places fork n
    go (forks.Selection list part) n is = lists list part n is
    go (forks.Enum target) n is = enums target n is
