-- A place in the text of two sources is that of its offset in one of them.
use Rattle.std.proofs.Common.{◌≡◌, ◌∙◌, ℕ, ◌+◌, ◌-◌, ◌≤◌, List, [], ◌∷◌, ◌++◌, length, take, Bool, true, false, cond, ap, refl, sym, arith, append_assoc}
use Rattle.std.specs.Prelude.{reverse, not, ◌&&◌, ◌==◌, nat_eq, nat_le, codes}
use Rattle.std.specs.List.{count_by, take_while}
use Rattle.std.proofs.Math.Seq.{take-append-add, take-length}
use Rattle.std.proofs.lemmas.Bool.Decides.{nat_tests}
use Rattle.std.proofs.lemmas.List.{reverse-append, take-append-le}
use Rattle.std.proofs.lemmas.List.Sums.{sum_by-append, sum_by-take-le, take_while-cons}
use Rattle.facet_solver_types.specs.Places.{begins_character, column_after, is_line_feed, line_at, place_at, without_mark}
use Rattle.facet_solver_types.specs.Sources.{LeadsBack, end_place, module_begin, module_end, place, stand_in_place, text}
use Rattle.facet_solver_types.specs.declared.place.Place.{Place}
use Rattle.facet_solver_types.specs.declared.sources.SourcePlace.{SourcePlace}
use Rattle.facet_solver_types.specs.declared.sources.SourcePlace.TheVariants.{StandIns, Types}

-- bytes that stand last first, up to the line feed before them
abbrev in_line : List ℕ → List ℕ
in_line = take_while (λ byte. not (is_line_feed byte))

in_line-append : (xs ys : List ℕ) → in_line (xs ++ 10 ∷ ys) ≡ in_line xs
in_line-append [] ys = refl
in_line-append (x ∷ xs) ys =
    let stays : ℕ → Bool = λ byte. not (is_line_feed byte) in
    take_while-cons stays x (xs ++ 10 ∷ ys) ∙ ap (λ bytes. cond (stays x) (x ∷ bytes) []) (in_line-append xs ys) ∙ sym (take_while-cons stays x xs)

reverse-behind : (xs ys : List ℕ) → reverse (xs ++ 10 ∷ ys) ≡ reverse ys ++ 10 ∷ reverse xs
reverse-behind xs ys =
    reverse-append xs (10 ∷ ys) ∙ ap (λ bytes. bytes ++ reverse xs) (reverse-append (10 ∷ []) ys) ∙ append_assoc (reverse ys) (10 ∷ []) (reverse xs)

-- what stands before a line feed has no part in a column
column_after-append : (xs ys : List ℕ) → column_after (xs ++ 10 ∷ ys) ≡ column_after ys
column_after-append xs ys =
    ap (λ bytes. 1 + count_by begins_character (in_line bytes)) (reverse-behind xs ys) ∙ ap (λ bytes. 1 + count_by begins_character bytes) (in_line-append (reverse ys) (reverse xs))

first_false : (b : Bool) (xs ys : List ℕ) → cond (b && false) xs ys ≡ ys
first_false true xs ys = refl
first_false false xs ys = refl

second_false : (a b : Bool) (xs ys : List ℕ) → cond (a && (b && false)) xs ys ≡ ys
second_false true b xs ys = first_false b xs ys
second_false false b xs ys = refl

cond-append : (b : Bool) (xs ys zs : List ℕ) → cond b (xs ++ zs) (ys ++ zs) ≡ cond b xs ys ++ zs
cond-append true xs ys zs = refl
cond-append false xs ys zs = refl

-- a mark stands before a line feed or nowhere
without_mark-append : (xs ys : List ℕ) → without_mark (xs ++ 10 ∷ ys) ≡ without_mark xs ++ 10 ∷ ys
without_mark-append [] ys = refl
without_mark-append (x ∷ []) ys = first_false (nat_eq 0xef x) _ _ ∙ ap (λ bytes. bytes ++ 10 ∷ ys) (sym (first_false (nat_eq 0xef x) _ (x ∷ [])))
without_mark-append (x ∷ y ∷ []) ys =
    second_false (nat_eq 0xef x) (nat_eq 0xbb y) _ _ ∙ ap (λ bytes. bytes ++ 10 ∷ ys) (sym (second_false (nat_eq 0xef x) (nat_eq 0xbb y) _ (x ∷ y ∷ [])))
without_mark-append (x ∷ y ∷ z ∷ rest) ys = cond-append _ rest (x ∷ y ∷ z ∷ rest) (10 ∷ ys)

-- the place behind some bytes
abbrev place_of : List ℕ → Place
place_of bytes = record { line = 1 + count_by is_line_feed bytes; column = column_after bytes }

-- no line of a text is behind that of its end
line_at-le : (offset : ℕ) (bytes : List ℕ) → line_at offset bytes ≤ line_at (length bytes) bytes
line_at-le offset bytes =
    let all : count_by is_line_feed (take (length bytes) bytes) ≡ count_by is_line_feed bytes = ap (count_by is_line_feed) (take-length bytes) in
    let fewer : count_by is_line_feed (take offset bytes) ≤ count_by is_line_feed bytes = sum_by-take-le _ bytes offset in
    omega arith

-- the first of two, where a test holds
taken : (b : Bool) (x y : SourcePlace) → b ≡ true → cond b x y ≡ x
taken b x y holds = ap (λ t. cond t x y) holds

-- the second, where it does not
passed : (b : Bool) (x y : SourcePlace) → b ≡ false → cond b x y ≡ y
passed b x y fails = ap (λ t. cond t x y) fails

-- what stands in the text behind the types
abbrev behind : List ℕ → List ℕ
behind standing = module_begin ++ (without_mark standing ++ module_end)

unmarked : (types standing : List ℕ) → without_mark (text types standing) ≡ without_mark types ++ behind standing
unmarked types standing = without_mark-append types _

place-in_types : (types standing : List ℕ) (offset : ℕ) → offset ≤ length (without_mark types) → place types standing (place_at offset (without_mark (text types standing))) ≡ Types (place_at offset (without_mark types))
place-in_types types standing offset within =
    let bare = without_mark types in
    let same : place_at offset (without_mark (text types standing)) ≡ place_at offset bare =
    ap (place_at offset) (unmarked types standing) ∙ ap place_of (take-append-le offset bare (behind standing) within) in
    let above : nat_le (line_at offset bare) (end_place types).line ≡ true = grind (arith, nat_tests, line_at-le offset bare) in
    ap (place types standing) same ∙ taken _ _ _ above

take-in_stand_ins : (types standing : List ℕ) (offset : ℕ) → offset ≤ length (without_mark standing) → take (length (without_mark types) + (length module_begin + offset)) (without_mark (text types standing)) ≡ without_mark types ++ (module_begin ++ take offset (without_mark standing))
take-in_stand_ins types standing offset within =
    let bare = without_mark types in
    let bytes = without_mark standing in
    ap (take (length bare + (length module_begin + offset))) (unmarked types standing)
    ∙ take-append-add bare (behind standing) (length module_begin + offset)
    ∙ ap (λ tail. bare ++ tail) (take-append-add module_begin (bytes ++ module_end) offset)
    ∙ ap (λ tail. bare ++ (module_begin ++ tail)) (take-append-le offset bytes module_end within)

-- the column of a byte of the stand-ins
column-in_stand_ins : (front bytes : List ℕ) → column_after (front ++ (module_begin ++ bytes)) ≡ column_after bytes
column-in_stand_ins front bytes =
    let head = codes "\nmod stand_ins {" in
    ap column_after (sym (append_assoc front head (10 ∷ bytes))) ∙ column_after-append (front ++ head) bytes

-- its line, two behind the last of the types
line-in_stand_ins : (front bytes : List ℕ) → count_by is_line_feed (front ++ (module_begin ++ bytes)) ≡ count_by is_line_feed front + (2 + count_by is_line_feed bytes)
line-in_stand_ins front bytes =
    sum_by-append _ front (module_begin ++ bytes) ∙ ap (λ n. count_by is_line_feed front + n) (sum_by-append _ module_begin bytes)

-- a place that is in the stand-ins' lines stays
stand_in_place-within : (standing : List ℕ) (line column : ℕ) → line + 1 ≤ (end_place standing).line → stand_in_place standing (record { line = 1 + line; column = column }) ≡ record { line = 1 + line; column = column }
stand_in_place-within standing line column within =
    let some : (1 + line == 0) ≡ false = grind (arith, nat_tests) in
    let above : nat_le (1 + line) (end_place standing).line ≡ true = grind (arith, nat_tests) in
    ap (λ t. cond t (record { line = 1; column = 1 }) (cond (nat_le (1 + line) (end_place standing).line) (record { line = 1 + line; column = column }) (end_place standing))) some
    ∙ ap (λ t. cond t (record { line = 1 + line; column = column }) (end_place standing)) above

-- a place behind the line of the module's begin is one of the stand-ins
place-behind : (types standing : List ℕ) (line column : ℕ) → place types standing (record { line = (end_place types).line + (2 + line); column = column }) ≡ StandIns (stand_in_place standing (record { line = 1 + line; column = column }))
place-behind types standing line column =
    let last = (end_place types).line in
    let told : Place = record { line = last + (2 + line); column = column } in
    let below : nat_le (last + (2 + line)) last ≡ false = grind (arith, nat_tests) in
    let next : last + (2 + line) - last - 1 ≡ 1 + line = omega arith in
    let later : (1 + line == 0) ≡ false = grind (arith, nat_tests) in
    passed _ _ _ below
    ∙ ap (λ n. cond (n == 0 && nat_le column 1) (Types (end_place types)) (StandIns (stand_in_place standing (record { line = n; column = column })))) next
    ∙ ap (λ t. cond (t && nat_le column 1) (Types (end_place types)) (StandIns (stand_in_place standing (record { line = 1 + line; column = column })))) later

place-in_stand_ins : (types standing : List ℕ) (offset : ℕ) → offset ≤ length (without_mark standing) → place types standing (place_at (length (without_mark types) + (length module_begin + offset)) (without_mark (text types standing))) ≡ StandIns (place_at offset (without_mark standing))
place-in_stand_ins types standing offset within =
    let bare = without_mark types in
    let bytes = take offset (without_mark standing) in
    let line = count_by is_line_feed bytes in
    let all : count_by is_line_feed (take (length bare) bare) ≡ count_by is_line_feed bare = ap (count_by is_line_feed) (take-length bare) in
    let lines : 1 + count_by is_line_feed (bare ++ (module_begin ++ bytes)) ≡ (end_place types).line + (2 + line) = grind (arith, all, line-in_stand_ins bare bytes) in
    let same : place_of (bare ++ (module_begin ++ bytes)) ≡ record { line = (end_place types).line + (2 + line); column = column_after bytes } =
    ap (λ n. record { line = n; column = column_after (bare ++ (module_begin ++ bytes)) }) lines
    ∙ ap (λ n. record { line = (end_place types).line + (2 + line); column = n }) (column-in_stand_ins bare bytes) in
    let few : line + 1 ≤ (end_place standing).line = grind (arith, line_at-le offset (without_mark standing)) in
    ap (λ taken. place types standing (place_of taken)) (take-in_stand_ins types standing offset within)
    ∙ ap (place types standing) same
    ∙ place-behind types standing line (column_after bytes)
    ∙ ap StandIns (stand_in_place-within standing line (column_after bytes) few)

-- the place that is found leads back
pub leads_back : (types standing : List ℕ) (told : Place) (found : SourcePlace) → found ≡ place types standing told → LeadsBack types standing told found
leads_back types standing told found is = record {
  in_types = λ offset within at. is ∙ ap (place types standing) at ∙ place-in_types types standing offset within;
  in_stand_ins = λ offset within at. is ∙ ap (place types standing) at ∙ place-in_stand_ins types standing offset within;
}
