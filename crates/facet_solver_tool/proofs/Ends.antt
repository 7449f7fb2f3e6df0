-- How a check ends, by its ambiguities.
use Rattle.std.proofs.Common.{◌≡◌, ◌∙◌, ◌==◌, ◌&&◌, ◌||◌, ℕ, Bool, true, false, List, [], ◌∷◌, ap, arith, cond, filter, length, map, not, refl, string_bytes, suc, sym}
use Rattle.std.proofs.lemmas.Bool.{ne_eqb}
use Rattle.std.specs.Borrow.{Bor}
use Rattle.std.specs.List.{list_any}
use Rattle.facet_solver_witnesses.specs.declared.ambiguity.Ambiguity.{Ambiguity}
use Rattle.facet_solver_tool.specs.declared.check.finding.Finding as finding
use Rattle.facet_solver_tool.specs.declared.status.Status.{Status}
use Rattle.facet_solver_tool.specs.declared.status.Status.TheVariants.{Answered, Ambiguous, MaybeAmbiguous, Outdated}
use Rattle.facet_solver_tool.specs.AmbiguityKeys.{key}
use Rattle.facet_solver_tool.specs.Checks as checks
use Rattle.facet_solver_tool.specs.Checks.{is_outdated, is_outdated_by, is_witness, lines_view, status_of}
use Rattle.facet_solver_tool.specs.Findings.{counts, counts_as_shown, end_of, finding_of, finding_view, keys_view}
use Rattle.facet_solver_tool.proofs.Words.{any_said}

-- the keys of findings are those that are seen of them
seen_keys : (found : List finding.Finding) → keys_view found ≡ map (λ f. f.key) (map finding_view found)
seen_keys [] = refl
seen_keys (f ∷ fs) = ap (λ ks. string_bytes f.key ∷ ks) (seen_keys fs)

own_keys : (lines : List (List ℕ)) (told : List Ambiguity) → map (λ f. f.key) (map (finding_of lines) told) ≡ map key told
own_keys lines [] = refl
own_keys lines (a ∷ others) = ap (λ ks. key a ∷ ks) (own_keys lines others)

-- those of the findings of ambiguities are theirs
pub keys_are : (lines : List (List ℕ)) (told : List Ambiguity) (found : List finding.Finding)
    → map finding_view found ≡ map (finding_of lines) told → keys_view found ≡ map key told
keys_are lines told found same = seen_keys found ∙ ap (map (λ f. f.key)) same ∙ own_keys lines told

some_are : (n : ℕ) → suc n ≡ 0 → ⊥
some_are n is = omega arith

filtered_one : {X : Type 0} (b : Bool) (x : X) (xs : List X) (any : Bool) → (length xs == 0) ≡ not any
    → (length (cond b (x ∷ xs) xs) == 0) ≡ not (b || any)
filtered_one true x xs any is = ne_eqb (length (x ∷ xs)) 0 (some_are (length xs))
filtered_one false x xs any is = is

-- none is left of those that pass exactly if none passes
pub none_filtered : {X : Type 0} (p : X → Bool) (xs : List X) → (length (filter p xs) == 0) ≡ not (list_any p xs)
none_filtered p [] = refl
none_filtered p (x ∷ xs) = filtered_one (p x) x (filter p xs) (list_any p xs) (none_filtered p xs)

turned : (b : Bool) → cond (not b) Answered Outdated ≡ cond b Outdated Answered
turned true = refl
turned false = refl

-- the end by what is found is that by the ambiguities
pub end_is : (lines : List (List ℕ)) (told : List Ambiguity) (needed : Bool)
    → needed ≡ not (list_any (is_outdated told) lines)
    → end_of (map (finding_of lines) told) needed ≡ status_of lines told
end_is lines told needed is =
    ap (λ b. cond b Ambiguous (cond (list_any counts (map (finding_of lines) told)) MaybeAmbiguous (cond needed Answered Outdated)))
    (sym (any_said counts_as_shown (finding_of lines) told))
    ∙ ap (λ b. cond (list_any (λ a. is_witness a.evidence && checks.counts lines a) told) Ambiguous (cond b MaybeAmbiguous (cond needed Answered Outdated)))
    (sym (any_said counts (finding_of lines) told))
    ∙ ap (λ s. cond (list_any (λ a. is_witness a.evidence && checks.counts lines a) told) Ambiguous (cond (list_any (checks.counts lines) told) MaybeAmbiguous s))
    (ap (λ b. cond b Answered Outdated) is ∙ turned (list_any (is_outdated told) lines))

-- a check ends by its ambiguities that ends by what is found of them and by the lines that are left
pub ended : (lines left : List (Bor (List ℕ))) (told : List Ambiguity) (found : List finding.Finding) (s : Status)
    → s ≡ end_of (map finding_view found) (length left == 0)
    → map finding_view found ≡ map (finding_of (lines_view lines)) told
    → left ≡ filter (λ line. is_outdated_by (keys_view found) line.now) lines
    → s ≡ status_of (lines_view lines) told
ended lines left told found s is same kept =
    is
    ∙ ap (λ fs. end_of fs (length left == 0)) same
    ∙ end_is (lines_view lines) told (length left == 0)
    (ap (λ ls. length ls == 0) kept
    ∙ none_filtered (λ line. is_outdated_by (keys_view found) line.now) lines
    ∙ ap not (any_said (is_outdated_by (keys_view found)) (λ line. line.now) lines)
    ∙ ap (λ ks. not (list_any (is_outdated_by ks) (lines_view lines))) (keys_are (lines_view lines) told found same))
