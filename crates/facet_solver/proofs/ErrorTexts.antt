-- Texts that are stated where names are ASCII, and texts of lists that are written one element
-- after another.
use Rattle.std.proofs.Common.{◌≡◌, ℕ, zero, suc, ◌<◌, Bool, true, false, cond, List, [], ◌∷◌, ◌++◌, length, get_or, take, ◌+◌, Option, Some, None, refl, sym, ◌∙◌, ap, arith, map, codes}
use Rattle.std.specs.declared.fmt.Error.{Error}
use Rattle.std.specs.declared.fmt.Formatter.{Formatter}
use Rattle.std.specs.declared.result.Result.{Result}
use Rattle.std.specs.Fmt.{DisplaysOnOk, WritesOnOk, debug_str}
use Rattle.std.specs.Char.{is_ascii}
use Rattle.std.specs.List.{list_all, flat_map}
use Rattle.std.proofs.Output.{displays_on_ok_of_eq}
use Rattle.std.proofs.lemmas.Bool.{and_parts}
use Rattle.std.proofs.lemmas.List.{flat_map_more, take_more}
use Rattle.std.proofs.lemmas.List.Folds.{list_all-append, list_all-map, flat_map-map}
use Rattle.facet_solver_shape.specs.Names.{Name}
use Rattle.facet_solver.specs.declared.error.MissingFieldInfo.{MissingFieldInfo}
use Rattle.facet_solver.specs.error.ErrorTexts.{missing_names}
use Rattle.facet_solver.specs.error.QuotedNames.{quoted, later_text, all_ascii, where_ascii}
use Rattle.facet_solver.specs.error.ErrorView.{missing_view}
use Rattle.facet_solver.proofs.QuotedNames.{debug_name}

-- ---- texts that are stated where names are ASCII
module _ {W : Type 0} (took : W → List ℕ → W → Type 0) (f g : Formatter W) (r : Result (Unit {0}) Error) where
  owed_if : (b : Bool) (text : List ℕ) → (b ≡ true → WritesOnOk took f r text g) → DisplaysOnOk took f r (cond b (Some text) None) g
  owed_if true text writes = writes refl
  owed_if false text writes = tt

  -- what is stated of a text is written, if the text is written where the names are ASCII
  pub owed_when : (names : List Name) (text : List ℕ) → (all_ascii names ≡ true → WritesOnOk took f r text g) → DisplaysOnOk took f r (where_ascii names text) g
  owed_when names text writes = owed_if (all_ascii names) text writes

  -- what was written, where its text is known
  pub written : (o : Option (List ℕ)) (text : List ℕ) → o ≡ Some text → DisplaysOnOk took f r o g → WritesOnOk took f r text g
  written o text is writes = displays_on_ok_of_eq took f g r o (Some text) is writes

-- the text itself, where the names are ASCII
pub text_of : (names : List Name) (text : List ℕ) → all_ascii names ≡ true → where_ascii names text ≡ Some text
text_of names text ascii = ap (λ b. cond b (Some text) None) ascii

-- `{:?}` of an ASCII name
pub text_of_name : (name : Name) → list_all is_ascii name ≡ true → debug_str name ≡ Some (quoted name)
text_of_name name ascii = debug_name name ∙ ap (λ b. cond b (Some (quoted name)) None) ascii

-- ---- names that are all ASCII
-- the names of two lists
ascii_parts : (names others : List Name) → all_ascii (names ++ others) ≡ true → (all_ascii names ≡ true) × (all_ascii others ≡ true)
ascii_parts names others ascii = and_parts _ _ (sym (list_all-append (λ name. list_all is_ascii name) names others) ∙ ascii)

-- each element of a list that passes
pub all_at : {X : Type 0} (p : X → Bool) (xs : List X) (i : ℕ) (d : X) → i < length xs → list_all p xs ≡ true → p (get_or xs i d) ≡ true
all_at p [] i d within all = absurd (omega (arith, within))
all_at p (x ∷ xs) zero d within all = (and_parts (p x) _ all).0
all_at p (x ∷ xs) (suc i) d within all = all_at p xs i d (omega (arith, within)) (and_parts (p x) _ all).1

-- the names of one of several lists
pub ascii_at : {X : Type 0} (lists : X → List Name) (xs : List X) (i : ℕ) (d : X) → i < length xs → all_ascii (flat_map lists xs) ≡ true → all_ascii (lists (get_or xs i d)) ≡ true
ascii_at lists [] i d within ascii = absurd (omega (arith, within))
ascii_at lists (x ∷ xs) zero d within ascii = (ascii_parts (lists x) _ ascii).0
ascii_at lists (x ∷ xs) (suc i) d within ascii = ascii_at lists xs i d (omega (arith, within)) (ascii_parts (lists x) _ ascii).1

-- ---- one element after another
-- one more element
pub flat_map_next : {X : Type 0} (h : X → List ℕ) (xs : List X) (i : ℕ) (x : X) → i < length xs → x ≡ get_or xs i x → flat_map h (take i xs) ++ h x ≡ flat_map h (take (i + 1) xs)
flat_map_next h xs i x within is =
    flat_map_more h [] (take i xs) x ∙ ap (λ y. flat_map h (take i xs ++ y ∷ [])) is ∙ ap (flat_map h) (sym (take_more xs i x within))

-- the names of missing fields are ASCII where each is
pub ascii_each : (fields : List MissingFieldInfo) → list_all (λ m. list_all is_ascii (missing_view m).name) fields ≡ all_ascii (missing_names (map missing_view fields))
ascii_each fields =
    sym (list_all-map (λ m. list_all is_ascii m.name) missing_view fields)
    ∙ sym (list_all-map (λ name. list_all is_ascii name) (λ m. m.name) (map missing_view fields))

-- the names of missing fields, each after a comma
pub later_each : (fields : List MissingFieldInfo) → flat_map (λ m. codes ", " ++ quoted (missing_view m).name) fields ≡ later_text (missing_names (map missing_view fields))
later_each fields =
    sym (flat_map-map (λ m. codes ", " ++ quoted m.name) missing_view fields)
    ∙ sym (flat_map-map (λ name. codes ", " ++ quoted name) (λ m. m.name) (map missing_view fields))
