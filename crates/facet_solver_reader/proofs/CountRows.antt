-- How many values have a property, and how many readings a value: the definitions, row by row.
use Rattle.std.proofs.Common.{◌≡◌, ◌≢◌, ◌<◌, ◌≤◌, ℕ, zero, suc, true, [], ◌∷◌, refl, sym, ap, ◌∙◌, inl, inr, arith, codes}
use Rattle.facet_solver_reader.specs.Choices.{Reading, a_value, a_variant}
use Rattle.facet_solver_reader.specs.Counted.{AreTwo, Counted, IsOnly}
use Rattle.facet_solver_reader.specs.Documents.{number, text, truth}
use Rattle.facet_solver_reader.specs.Parts.{of_shape, of_struct, of_tag}
use Rattle.facet_solver_reader.specs.Readings.{ReadsValue}
use Rattle.facet_solver_reader.specs.Rules.{Alternative, Rules, an_untagged_variant, other}
use Rattle.facet_solver_reader.specs.Told.{IsOnlyTold}
use Rattle.facet_solver_reader.specs.Values.{ReadsDown, ReadsWithin}
use Rattle.facet_solver_reader.specs.declared.count.Count.TheVariants.{None, One, Several}
use Rattle.facet_solver_reader.specs.declared.reading.Reading as code
use Rattle.facet_solver_reader.proofs.SampleTypes.{five, lenient, shapes}
use Rattle.facet_solver_reader.proofs.ValueRows.{only_as_it_is, reads_number, reads_value_fails}

-- below 1 there is one number
pub only_holds : IsOnly (λ (n : ℕ). n < 1) × Counted (λ (n : ℕ). n < 1) One
only_holds = (one, one)
  where
    one : IsOnly (λ (n : ℕ). n < 1)
    one = record { value = 0; has = omega arith; only = λ n below. omega (arith, below) }

-- below 2 there are two, and below 0 none
pub only_fails :
    (¬ (IsOnly (λ (n : ℕ). n < 2)))
    × (¬ (Counted (λ (n : ℕ). n < 2) One))
    × (¬ (IsOnly (λ (n : ℕ). n < 0)))
only_fails = (not_two, not_two, λ one. let below = one.has in omega (arith, below))
  where
    not_two : ¬ (IsOnly (λ (n : ℕ). n < 2))
    not_two one = let first = one.only 0 (omega arith) in let second = one.only 1 (omega arith) in omega (arith, first, second)

-- below 2 there are two
pub two_holds : AreTwo (λ (n : ℕ). n < 2) × Counted (λ (n : ℕ). n < 2) Several
two_holds = (two, two)
  where
    two : AreTwo (λ (n : ℕ). n < 2)
    two = record {
      first = 0;
      second = 1;
      has_first = omega arith;
      has_second = omega arith;
      differ = λ same. omega (arith, same);
    }

-- below 1 there are not
pub two_fails : (¬ (AreTwo (λ (n : ℕ). n < 1))) × (¬ (Counted (λ (n : ℕ). n < 1) Several))
two_fails = (not_one, not_one)
  where
    not_one : ¬ (AreTwo (λ (n : ℕ). n < 1))
    not_one two = two.differ (let first = two.has_first in let second = two.has_second in omega (arith, first, second))

-- below 0 there is none, and below 1 there is one
pub none_rows : Counted (λ (n : ℕ). n < 0) None × (¬ (Counted (λ (n : ℕ). n < 1) None))
none_rows = (λ n below. omega (arith, below), λ none. none 0 (omega arith))

-- which variant a reading is of
abbrev variant_of : Reading → ℕ
variant_of (a_variant k r) = k
variant_of _ = 0

-- a variant that is the text `x`
abbrev text_x : Alternative
text_x = record { kind = other; content = of_tag (codes "x") }

-- what a type says of which each shape is a text `x`, by either of two variants
abbrev pub either : Rules
either = record lenient { end_of = λ id. an_untagged_variant (of_struct 9) (text_x ∷ text_x ∷ []) }

-- such a text is read by each of the two
by_either :
    ReadsValue either (of_shape 0) (text (codes "x")) (a_variant 0 a_value)
    × ReadsValue either (of_shape 0) (text (codes "x")) (a_variant 1 a_value)
unfolding ReadsValue
by_either = (record { least = 2; holds = first }, record { least = 2; holds = second })
  where
    first : (n : ℕ) → 2 ≤ n
        → ReadsWithin either (ReadsDown either 0) n (of_shape 0) (text (codes "x")) (a_variant 0 a_value)
    first zero from = let no : ⊥ = omega (arith, from) in absurd no
    first (suc zero) from = let no : ⊥ = omega (arith, from) in absurd no
    first (suc (suc n)) from = inl (inr refl)

    second : (n : ℕ) → 2 ≤ n
        → ReadsWithin either (ReadsDown either 0) n (of_shape 0) (text (codes "x")) (a_variant 1 a_value)
    second zero from = let no : ⊥ = omega (arith, from) in absurd no
    second (suc zero) from = let no : ⊥ = omega (arith, from) in absurd no
    second (suc (suc n)) from = inl (inr refl)

-- the two differ
pub two_differ : a_variant 0 a_value ≢ a_variant 1 a_value
two_differ same = let k = ap variant_of same in omega (arith, k)

-- no reading of a truth as a number, one of 5, and two where either variant reads
pub reading_rows :
    Counted (ReadsValue lenient (of_shape 0) (truth true)) None
    × Counted (ReadsValue lenient (of_shape 0) (number five)) One
    × Counted (ReadsValue either (of_shape 0) (text (codes "x"))) Several
    × (¬ (Counted (ReadsValue either (of_shape 0) (text (codes "x"))) One))
reading_rows = (
  reads_value_fails.0,
  record { value = a_value; has = reads_number; only = only_as_it_is },
  record {
    first = a_variant 0 a_value;
    second = a_variant 1 a_value;
    has_first = by_either.0;
    has_second = by_either.1;
    differ = two_differ;
  },
  λ one. two_differ (one.only _ by_either.0 ∙ sym (one.only _ by_either.1)),
)

-- no reading is the only one of such a text
pub only_told_fails :
    (w : code.Reading) → ¬ (IsOnlyTold either shapes (of_shape 0) (text (codes "x")) w)
only_told_fails w h = two_differ (h.only _ by_either.0 ∙ sym (h.only _ by_either.1))
