-- Names of a number and `_`.
use Rattle.std.proofs.Common.{◌≡◌, ℕ, zero, suc, cond, ◌||◌, drop-cons, ◌+◌, ◌-◌, ◌<◌, ◌↔◌, Bool, true, false, List, [], ◌∷◌, ◌++◌, length, get_or, drop, replicate, codes, append_assoc, add-one, ap, sym, refl, ◌∙◌, arith}
use Rattle.std.specs.Fmt.{decimal}
use Rattle.std.specs.String.{string_bytes}
use Rattle.std.proofs.lemmas.Slice.Eq.{bytes_eq-Decides}
use Rattle.facet_solver_shape.specs.declared.shape.Variant.{Variant}
use Rattle.facet_solver_shape.specs.Names.{Name, name_eq, variant_names}
use Rattle.facet_solver_types.specs.Cases.{underscore}
use Rattle.facet_solver_types.specs.PrintedNames.{numbered, is_taken, marks_from}
use Rattle.facet_solver_types.proofs.Decimals.{same_ends}

-- one `_` more stands at the end
marks_more : (k : ℕ) → replicate (suc k) underscore ≡ replicate k underscore ++ underscore ∷ []
marks_more zero = refl
marks_more (suc k) = ap (λ ys. underscore ∷ ys) (marks_more k)

numbered_more : (n k : ℕ) → numbered n (suc k) ≡ numbered n k ++ underscore ∷ []
numbered_more n k =
    ap (λ ys. codes "V" ++ (decimal n ++ ys)) (marks_more k)
    ∙ ap (λ ys. codes "V" ++ ys) (sym (append_assoc (decimal n) (replicate k underscore) (underscore ∷ [])))

-- a name that ends in `_` is a number with one `_` more than what is before it
pub one_mark_more : (n marks : ℕ) (name front : Name) (last : ℕ) → 0 < marks → name ≡ front ++ last ∷ [] → last ≡ underscore
    → (front ≡ numbered n (marks - 1)) ↔ (name ≡ numbered n marks)
one_mark_more n marks name front last some split is =
    let next : marks ≡ suc (marks - 1) = omega arith in
    let ends : numbered n marks ≡ numbered n (marks - 1) ++ underscore ∷ [] = ap (numbered n) next ∙ numbered_more n (marks - 1) in (
      λ e. split ∙ ap (λ ys. ys ++ last ∷ []) e ∙ ap (λ b. numbered n (marks - 1) ++ b ∷ []) is ∙ sym ends,
      λ e. (same_ends front (numbered n (marks - 1)) last underscore (sym split ∙ e ∙ ends)).0,
    )

-- a name that ends otherwise is none with a `_`
pub no_mark : (n marks : ℕ) (name front : Name) (last : ℕ) → 0 < marks → name ≡ front ++ last ∷ []
    → name ≡ numbered n marks → last ≡ underscore
no_mark n marks name front last some split e =
    let next : marks ≡ suc (marks - 1) = omega arith in
    (same_ends front (numbered n (marks - 1)) last underscore
    (sym split ∙ e ∙ ap (numbered n) next ∙ numbered_more n (marks - 1))).1

-- where so many `_` are taken, one more is tried
pub next_try : (names : List Name) (n marks tries rest : ℕ) → tries ≡ suc rest → is_taken names n marks ≡ true
    → marks_from names n (marks + 1) rest ≡ marks_from names n marks tries
next_try names n marks tries rest more taken =
    let next = marks_from names n (marks + 1) rest in
    sym (ap (marks_from names n marks) more ∙ ap (λ b. cond b next marks) taken)

-- what isn't true is false
not_true : (b : Bool) → ¬ (b ≡ true) → b ≡ false
not_true true denied = absurd (denied refl)
not_true false denied = refl

-- the variants that are left
module _ (variants : List Variant) (i : ℕ) (v : Variant) (n marks : ℕ) (within : i < length variants) (is : v ≡ get_or variants i v) where
  left : drop i variants ≡ v ∷ drop (i + 1) variants
  left =
      drop-cons variants i v within ∙ ap (λ w. w ∷ drop (suc i) variants) (sym is)
      ∙ ap (λ k. v ∷ drop k variants) (sym (add-one i))

  -- whether others have the name
  others : Bool
  others = is_taken (variant_names (drop (i + 1) variants)) n marks

  first_or_others : is_taken (variant_names (drop i variants)) n marks ≡ (name_eq (string_bytes v.name) (numbered n marks) || others)
  unfolding others
  first_or_others = ap (λ vs. is_taken (variant_names vs) n marks) left

  -- the first of them has the name
  pub taken_now : string_bytes v.name ≡ numbered n marks → is_taken (variant_names (drop i variants)) n marks ≡ true
  taken_now e =
      first_or_others
      ∙ ap (λ b. b || others) ((bytes_eq-Decides (string_bytes v.name) (numbered n marks)).1 e)

  -- or the others tell
  pub taken_later : ¬ (string_bytes v.name ≡ numbered n marks)
      → is_taken (variant_names (drop i variants)) n marks ≡ is_taken (variant_names (drop (i + 1) variants)) n marks
  unfolding others
  taken_later differs =
      first_or_others
      ∙ ap (λ b. b || others)
      (not_true (name_eq (string_bytes v.name) (numbered n marks))
      (λ e. differs ((bytes_eq-Decides (string_bytes v.name) (numbered n marks)).0 e)))
