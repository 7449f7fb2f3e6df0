-- What lists of things that say something say.
use Rattle.std.proofs.Common.{◌≡◌, ◌∙◌, ◌||◌, ◌+◌, ◌<◌, ◌≤◌, ℕ, zero, suc, Bool, true, false, List, [], ◌∷◌, Option, Some, None, ap, arith, refl, cond, drop, get_or, length, map, nat_lt, not, option_map, position, slice_get, take}
use Rattle.std.specs.List.{filter, find, list_any, prefix_len}

-- one passes if what it says does
pub any_said : {X Y : Type 0} (p : Y → Bool) (f : X → Y) (xs : List X) → list_any (λ x. p (f x)) xs ≡ list_any p (map f xs)
any_said p f [] = refl
any_said p f (x ∷ xs) = ap (λ b. p (f x) || b) (any_said p f xs)

said_cond : {X Y : Type 0} (f : X → Y) (b : Bool) (x : X) (o : Option X)
    → option_map f (cond b (Some x) o) ≡ cond b (Some (f x)) (option_map f o)
said_cond f true x o = refl
said_cond f false x o = refl

-- the first that passes says the first text that does
pub find_said : {X Y : Type 0} (p : Y → Bool) (f : X → Y) (xs : List X) → option_map f (find (λ x. p (f x)) xs) ≡ find p (map f xs)
find_said p f [] = refl
find_said p f (x ∷ xs) =
    said_cond f (p (f x)) x (find (λ x. p (f x)) xs) ∙ ap (λ o. cond (p (f x)) (Some (f x)) o) (find_said p f xs)

map_cond : {X Y : Type 0} (f : X → Y) (b : Bool) (x : X) (xs : List X)
    → map f (cond b (x ∷ xs) xs) ≡ cond b (f x ∷ map f xs) (map f xs)
map_cond f true x xs = refl
map_cond f false x xs = refl

-- those that pass say the texts that do
pub filter_said : {X Y : Type 0} (p : Y → Bool) (f : X → Y) (xs : List X) → map f (filter (λ x. p (f x)) xs) ≡ filter p (map f xs)
filter_said p f [] = refl
filter_said p f (x ∷ xs) =
    map_cond f (p (f x)) x (filter (λ x. p (f x)) xs) ∙ ap (λ ys. cond (p (f x)) (f x ∷ ys) ys) (filter_said p f xs)

prefix_said : {X Y : Type 0} (p : Y → Bool) (f : X → Y) (xs : List X) → prefix_len (λ x. p (f x)) xs ≡ prefix_len p (map f xs)
prefix_said p f [] = refl
prefix_said p f (x ∷ xs) = ap (λ n. cond (p (f x)) (1 + n) 0) (prefix_said p f xs)

length_said : {X Y : Type 0} (f : X → Y) (xs : List X) → length xs ≡ length (map f xs)
length_said f [] = refl
length_said f (x ∷ xs) = ap suc (length_said f xs)

-- where the first that passes stands, the first text stands that does
pub position_said : {X Y : Type 0} (p : Y → Bool) (f : X → Y) (xs : List X) → position (λ x. p (f x)) xs ≡ position p (map f xs)
position_said p f xs =
    ap (λ n. cond (nat_lt n (length xs)) (Some n) None) (prefix_said (λ y. not (p y)) f xs)
    ∙ ap (λ l. cond (nat_lt (prefix_len (λ y. not (p y)) (map f xs)) l) (Some (prefix_len (λ y. not (p y)) (map f xs))) None) (length_said f xs)

-- the first so many say the first so many texts
pub take_said : {X Y : Type 0} (f : X → Y) (k : ℕ) (xs : List X) → map f (take k xs) ≡ take k (map f xs)
take_said f zero [] = refl
take_said f zero (x ∷ xs) = refl
take_said f (suc k) [] = refl
take_said f (suc k) (x ∷ xs) = ap (λ ys. f x ∷ ys) (take_said f k xs)

-- the others say the others
pub drop_said : {X Y : Type 0} (f : X → Y) (k : ℕ) (xs : List X) → map f (drop k xs) ≡ drop k (map f xs)
drop_said f zero [] = refl
drop_said f zero (x ∷ xs) = refl
drop_said f (suc k) [] = refl
drop_said f (suc k) (x ∷ xs) = drop_said f k xs

-- nothing stands past the last
pub get_past : {X : Type 0} (xs : List X) (k : ℕ) → length xs ≤ k → None ≡ slice_get xs k
get_past [] k past = refl
get_past (x ∷ xs) zero past = absurd (omega arith)
get_past (x ∷ xs) (suc k) past = get_past xs k (omega arith)

-- what stands at an index is found there
pub get_at : {X : Type 0} (xs : List X) (k : ℕ) (x : X) → k < length xs → x ≡ get_or xs k x → Some x ≡ slice_get xs k
get_at [] k x within is = absurd (omega arith)
get_at (y ∷ ys) zero x within is = ap Some is
get_at (y ∷ ys) (suc k) x within is = get_at ys k x (omega arith) is
