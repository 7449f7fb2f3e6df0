-- Lists that a loop makes of another, element by element.
use Rattle.std.proofs.Common.{◌≡◌, ◌∙◌, sym, ap, refl, ℕ, ◌+◌, ◌<◌, ◌≤◌, List, [], ◌∷◌, ◌++◌}
use Rattle.std.proofs.Common.{Option, Some, None, Bor, append_assoc, get_or, length, slice_get}
use Rattle.std.proofs.Common.{take}
use Rattle.std.specs.List.{cons_option, filter_map, flat_map}
use Rattle.std.specs.Option.{option_to_list}
use Rattle.std.proofs.lemmas.List.{append-nil, take_more}
use Rattle.std.proofs.lemmas.List.Elements.{filter_map-append}
use Rattle.std.proofs.lemmas.Option.{slice_get_read}
use Rattle.facet_solver_shape.specs.Names.{Name}
use Rattle.std.proofs.lemmas.List.Concat.{flat_map-append}
use Rattle.facet_solver_reader.proofs.Pairs.{take_past}

-- the first elements and one more
more : {X : Type 0} (xs : List X) (i : ℕ) (x : X) → i < length xs → x ≡ get_or xs i x
    → take (i + 1) xs ≡ take i xs ++ x ∷ []
more xs i x within is = take_more xs i x within ∙ ap (λ y. take i xs ++ y ∷ []) (sym is)

-- an option as a list
one_option : {Y : Type 0} (o : Option Y) → cons_option o [] ≡ option_to_list o
one_option None = refl
one_option (Some y) = refl

module _ {X Y : Type 0} where
  module _ (f : X → Option Y) (xs : List X) (start : List Y) where
    -- one step of a loop that adds what a function gives of each element, if it does
    pub filtered_more : (i : ℕ) (x : X) (old new : List Y) → i < length xs → x ≡ get_or xs i x
        → old ≡ start ++ filter_map f (take i xs) → new ≡ old ++ option_to_list (f x)
        → new ≡ start ++ filter_map f (take (i + 1) xs)
    filtered_more i x old new within is before added =
        added ∙ ap (λ ys. ys ++ option_to_list (f x)) before
        ∙ append_assoc start (filter_map f (take i xs)) (option_to_list (f x))
        ∙ ap (λ ys. start ++ ys)
        (ap (λ ys. filter_map f (take i xs) ++ ys) (sym (one_option (f x)))
        ∙ sym (filter_map-append f (take i xs) (x ∷ []))
        ∙ ap (filter_map f) (sym (more xs i x within is)))

    -- its end
    pub filtered_all : (i : ℕ) (made : List Y) → length xs ≤ i
        → made ≡ start ++ filter_map f (take i xs) → made ≡ start ++ filter_map f xs
    filtered_all i made past is = is ∙ ap (λ ys. start ++ filter_map f ys) (take_past i xs past)

  module _ (f : X → List Y) (xs : List X) where
    -- one step of a loop that adds what a function gives of each element
    pub joined_more : (i : ℕ) (d : X) (old new : List Y) → i < length xs
        → old ≡ flat_map f (take i xs) → new ≡ old ++ f (get_or xs i d)
        → new ≡ flat_map f (take (i + 1) xs)
    joined_more i d old new within before added =
        let x = get_or xs i d in
        added ∙ ap (λ ys. ys ++ f x) before
        ∙ ap (λ ys. flat_map f (take i xs) ++ ys) (sym (append-nil (f x)))
        ∙ sym (flat_map-append f (take i xs) (x ∷ []))
        ∙ ap (flat_map f) (sym (take_more xs i d within))

    -- its end
    pub joined_all : (i : ℕ) (made : List Y) → length xs ≤ i
        → made ≡ flat_map f (take i xs) → made ≡ flat_map f xs
    joined_all i made past is = is ∙ ap (flat_map f) (take_past i xs past)

-- what a list of names is read past its end
abbrev pub no_name : Bor Name
no_name = record { ref_ptr = (0, 0); now = [] }

-- an element that was read of a list in memory stands in the list
pub read_at : {X : Type 0} (read list : List X) (i : ℕ) (x : X) → read ≡ list → i < length read
    → x ≡ get_or read i x → slice_get list i ≡ Some x
read_at read list i x same within at =
    ap (λ xs. slice_get xs i) (sym same)
    ∙ slice_get_read read (length read) i x refl within at
