-- Texts between quotes are read back.
use Rattle.std.proofs.Common.{◌≡◌, ℕ, Bool, true, false, cond, eqb, List, [], ◌∷◌, ◌++◌, ◌&&◌, ◌||◌, Option, Some, None, option_map, ap, sym, refl, subst, ◌∙◌, arith}
use Rattle.std.specs.List.{flat_map}
use Rattle.std.specs.Str.{chars, IsUtf8}
use lib.Utf8.{encode, encodes, scalar, scalars}
use Rattle.std.proofs.lemmas.Bool.{false≢true}
use Rattle.std.proofs.lemmas.Bool.Decides.{nat_tests}
use Rattle.std.proofs.lemmas.List.{append-nil}
use Rattle.std.proofs.lemmas.Str.{encodes-append, encodes-chars, chars-encodes, scalars-chars}
use Rattle.facet_solver_shape.specs.Names.{Name}
use Rattle.facet_solver_types.specs.Literals.{said, nothing, onto, unix_lines, has_return, begins_with_feed, quoted_value}
use Rattle.facet_solver_types.specs.PrintedTexts.{escaped}

-- nothing before letters changes none
onto_nothing : (m : Option (List ℕ)) → onto [] m ≡ m
onto_nothing None = refl
onto_nothing (Some cs) = refl

-- the letters that are written for one
record IsReadBack (c : ℕ) : Type 0 where
  written : List ℕ
  bytes : escaped c ≡ encodes written
  are_scalars : scalar c ≡ true → scalars written ≡ true
  no_return : has_return written ≡ false
  says_it : (rest : List ℕ) → said nothing (written ++ rest) ≡ onto (c ∷ []) (said nothing rest)

by_34 : IsReadBack 34
unfolding encode
by_34 = record { written = 92 ∷ 34 ∷ []; bytes = refl; are_scalars = λ s. refl; no_return = refl; says_it = λ rest. onto_nothing (onto (34 ∷ []) (said nothing rest)) }

by_92 : IsReadBack 92
unfolding encode
by_92 = record { written = 92 ∷ 92 ∷ []; bytes = refl; are_scalars = λ s. refl; no_return = refl; says_it = λ rest. onto_nothing (onto (92 ∷ []) (said nothing rest)) }

by_10 : IsReadBack 10
unfolding encode
by_10 = record { written = 92 ∷ 110 ∷ []; bytes = refl; are_scalars = λ s. refl; no_return = refl; says_it = λ rest. onto_nothing (onto (10 ∷ []) (said nothing rest)) }

by_13 : IsReadBack 13
unfolding encode
by_13 = record { written = 92 ∷ 114 ∷ []; bytes = refl; are_scalars = λ s. refl; no_return = refl; says_it = λ rest. onto_nothing (onto (13 ∷ []) (said nothing rest)) }

by_9 : IsReadBack 9
unfolding encode
by_9 = record { written = 92 ∷ 116 ∷ []; bytes = refl; are_scalars = λ s. refl; no_return = refl; says_it = λ rest. onto_nothing (onto (9 ∷ []) (said nothing rest)) }

by_0 : IsReadBack 0
unfolding encode
by_0 = record { written = 92 ∷ 48 ∷ []; bytes = refl; are_scalars = λ s. refl; no_return = refl; says_it = λ rest. onto_nothing (onto (0 ∷ []) (said nothing rest)) }

by_itself : (c : ℕ) → eqb c 34 ≡ false → eqb c 92 ≡ false → eqb c 10 ≡ false → eqb c 13 ≡ false → eqb c 9 ≡ false → eqb c 0 ≡ false → IsReadBack c
by_itself c e34 e92 e10 e13 e9 e0 = record {
  written = c ∷ [];
  bytes = rw (e34, e92, e10, e13, e9, e0) (sym (append-nil (encode c)));
  are_scalars = λ s. rw s refl;
  no_return = rw e13 refl;
  says_it = λ rest. rw (e92, e34, e13) refl;
}

-- each letter is read back
read_back : (c : ℕ) → IsReadBack c
read_back c = quote (eqb c 34) refl
  where
    nul : (b : Bool) → eqb c 0 ≡ b → eqb c 34 ≡ false → eqb c 92 ≡ false → eqb c 10 ≡ false → eqb c 13 ≡ false → eqb c 9 ≡ false → IsReadBack c
    nul true e e34 e92 e10 e13 e9 = let same : c ≡ 0 = grind (arith, nat_tests) in subst IsReadBack (sym same) by_0
    nul false e e34 e92 e10 e13 e9 = by_itself c e34 e92 e10 e13 e9 e

    tab : (b : Bool) → eqb c 9 ≡ b → eqb c 34 ≡ false → eqb c 92 ≡ false → eqb c 10 ≡ false → eqb c 13 ≡ false → IsReadBack c
    tab true e e34 e92 e10 e13 = let same : c ≡ 9 = grind (arith, nat_tests) in subst IsReadBack (sym same) by_9
    tab false e e34 e92 e10 e13 = nul (eqb c 0) refl e34 e92 e10 e13 e

    carriage_return : (b : Bool) → eqb c 13 ≡ b → eqb c 34 ≡ false → eqb c 92 ≡ false → eqb c 10 ≡ false → IsReadBack c
    carriage_return true e e34 e92 e10 = let same : c ≡ 13 = grind (arith, nat_tests) in subst IsReadBack (sym same) by_13
    carriage_return false e e34 e92 e10 = tab (eqb c 9) refl e34 e92 e10 e

    line_feed : (b : Bool) → eqb c 10 ≡ b → eqb c 34 ≡ false → eqb c 92 ≡ false → IsReadBack c
    line_feed true e e34 e92 = let same : c ≡ 10 = grind (arith, nat_tests) in subst IsReadBack (sym same) by_10
    line_feed false e e34 e92 = carriage_return (eqb c 13) refl e34 e92 e

    backslash : (b : Bool) → eqb c 92 ≡ b → eqb c 34 ≡ false → IsReadBack c
    backslash true e e34 = let same : c ≡ 92 = grind (arith, nat_tests) in subst IsReadBack (sym same) by_92
    backslash false e e34 = line_feed (eqb c 10) refl e34 e

    quote : (b : Bool) → eqb c 34 ≡ b → IsReadBack c
    quote true e = let same : c ≡ 34 = grind (arith, nat_tests) in subst IsReadBack (sym same) by_34
    quote false e = backslash (eqb c 92) refl e

-- the letters that are written for all
all_written : List ℕ → List ℕ
all_written [] = []
all_written (c ∷ cs) = (read_back c).written ++ all_written cs

all_bytes : (cs : List ℕ) → flat_map escaped cs ≡ encodes (all_written cs)
unfolding all_written
all_bytes [] = refl
all_bytes (c ∷ cs) =
    ap (λ bs. bs ++ flat_map escaped cs) (read_back c).bytes
    ∙ ap (λ bs. encodes (read_back c).written ++ bs) (all_bytes cs)
    ∙ sym (encodes-append (read_back c).written (all_written cs))

-- where both of two tests pass each does
both : (a b : Bool) → (a && b) ≡ true → (a ≡ true) × (b ≡ true)
both true b e = (refl, e)
both false b e = absurd (false≢true e)

-- where none of two passes neither does
neither : (a b : Bool) → (a || b) ≡ false → (a ≡ false) × (b ≡ false)
neither true b e = absurd (false≢true (sym e))
neither false b e = (refl, e)

more_scalars : (xs ys : List ℕ) → scalars xs ≡ true → scalars ys ≡ true → scalars (xs ++ ys) ≡ true
more_scalars [] ys s t = t
more_scalars (x ∷ xs) ys s t =
    let each = both (scalar x) (scalars xs) s in
    ap (λ b. b && scalars (xs ++ ys)) each.0 ∙ more_scalars xs ys each.1 t

all_scalars : (cs : List ℕ) → scalars cs ≡ true → scalars (all_written cs) ≡ true
unfolding all_written
all_scalars [] s = refl
all_scalars (c ∷ cs) s =
    let each = both (scalar c) (scalars cs) s in
    more_scalars (read_back c).written (all_written cs) ((read_back c).are_scalars each.0) (all_scalars cs each.1)

no_more_returns : (xs ys : List ℕ) → has_return xs ≡ false → has_return ys ≡ false → has_return (xs ++ ys) ≡ false
no_more_returns [] ys s t = t
no_more_returns (x ∷ xs) ys s t =
    let each = neither (eqb x 13) (has_return xs) s in
    ap (λ b. b || has_return (xs ++ ys)) each.0 ∙ no_more_returns xs ys each.1 t

no_returns : (cs : List ℕ) → has_return (all_written cs) ≡ false
unfolding all_written
no_returns [] = refl
no_returns (c ∷ cs) = no_more_returns (read_back c).written (all_written cs) (read_back c).no_return (no_returns cs)

-- lines without a carriage return stay
same_lines : (cs : List ℕ) → has_return cs ≡ false → unix_lines cs ≡ cs
same_lines [] e = refl
same_lines (c ∷ cs) e =
    let each = neither (eqb c 13) (has_return cs) e in
    ap (λ b. cond (b && begins_with_feed cs) [] (c ∷ []) ++ unix_lines cs) each.0
    ∙ ap (λ ys. c ∷ ys) (same_lines cs each.1)

all_said : (cs : List ℕ) → said nothing (all_written cs) ≡ Some cs
unfolding all_written
all_said [] = refl
all_said (c ∷ cs) = (read_back c).says_it (all_written cs) ∙ ap (onto (c ∷ [])) (all_said cs)

-- what is printed between quotes says the text
pub reads_back : (text : Name) → IsUtf8 text → quoted_value (flat_map escaped (chars text)) ≡ Some text
reads_back text utf8 =
    let cs = chars text in
    let written = all_written cs in
    ap (λ ds. option_map encodes (said nothing (unix_lines ds)))
    (ap chars (all_bytes cs) ∙ chars-encodes written (all_scalars cs (scalars-chars text utf8)))
    ∙ ap (λ ds. option_map encodes (said nothing ds)) (same_lines written (no_returns cs))
    ∙ ap (option_map encodes) (all_said cs)
    ∙ ap Some (encodes-chars text utf8)
