-- What `{:?}` writes of texts and of lists of them, where they are ASCII.
use Rattle.std.proofs.Common.{◌≡◌, ℕ, ◌<◌, Bool, true, false, cond, ◌&&◌, ◌||◌, ltb, eqb, ltb-true, ltb-false, eqb-true, ◌⊎◌, inl, inr, arith, subst, List, [], ◌∷◌, ◌++◌, map, codes, Some, None, refl, sym, ap, append_assoc}
use Rattle.std.specs.Char.{is_ascii}
use Rattle.std.specs.Fmt.{debug_str, debug_list, debug_items, debug_escape, digits, comma_space, ◌++?◌}
use Rattle.std.specs.List.{list_all, flat_map}
use Rattle.std.proofs.lemmas.Fmt.{hex_one_digit, hex_two_digits}
use Rattle.facet_solver_shape.specs.Names.{Name}
use Rattle.facet_solver.specs.error.QuotedNames.{hex, escaped, quoted, later_text, all_ascii, where_ascii, list_output}

-- a text, and then others
joined : (b c : Bool) (lead x y : List ℕ) → Some lead ++? (cond b (Some x) None ++? cond c (Some y) None) ≡ cond (b && c) (Some (lead ++ (x ++ y))) None
joined true true lead x y = refl
joined true false lead x y = refl
joined false c lead x y = refl

-- the same in brackets
bracketed : (b c : Bool) (x y : List ℕ) → Some (codes "[") ++? ((Some [] ++? (cond b (Some x) None ++? cond c (Some y) None)) ++? Some (codes "]")) ≡ cond (b && c) (Some (codes "[" ++ (x ++ (y ++ codes "]")))) None
bracketed true true x y = ap (λ t. Some (codes "[" ++ t)) (append_assoc x y (codes "]"))
bracketed true false x y = refl
bracketed false c x y = refl

test : (b : Bool) → (b ≡ true) ⊎ (b ≡ false)
test true = inl refl
test false = inr refl

hexed : (c : ℕ) → (ltb c 32 || eqb c 127) ≡ true → digits 16 false c ≡ hex c
hexed c control = elim (test (ltb c 16)) [
  | inl low ↦ rw low (hex_one_digit false c (ltb-true c 16 low))
  | inr high ↦ rw high (hex_two_digits false c (ltb-false c 16 high) small)
]
  where
    small : c < 256
    small = elim (test (ltb c 32)) [
      | inl low ↦ omega (arith, ltb-true c 32 low)
      | inr high ↦ let last : eqb c 127 ≡ true = rw high at control in omega (arith, eqb-true c 127 last)
    ]

-- the escapes of `{:?}`
pub same_escape : (c : ℕ) → debug_escape 34 c ≡ escaped c
unfolding debug_escape digits escaped
same_escape c = elim (test (eqb c 34)) [
  | inl e ↦ at_code (eqb-true c 34 e) refl
  | inr n34 ↦ elim (test (eqb c 0)) [
    | inl e ↦ at_code (eqb-true c 0 e) refl
    | inr n0 ↦ elim (test (eqb c 9)) [
      | inl e ↦ at_code (eqb-true c 9 e) refl
      | inr n9 ↦ elim (test (eqb c 10)) [
        | inl e ↦ at_code (eqb-true c 10 e) refl
        | inr n10 ↦ elim (test (eqb c 13)) [
          | inl e ↦ at_code (eqb-true c 13 e) refl
          | inr n13 ↦ elim (test (eqb c 92)) [
            | inl e ↦ at_code (eqb-true c 92 e) refl
            | inr n92 ↦ rw (n34, n0, n9, n10, n13, n92) (others (ltb c 32 || eqb c 127) refl)
          ]
        ]
      ]
    ]
  ]
]
  where
    at_code : {k : ℕ} → c ≡ k → debug_escape 34 k ≡ escaped k → debug_escape 34 c ≡ escaped c
    at_code e same = subst (λ n. debug_escape 34 n ≡ escaped n) (sym e) same

    others : (b : Bool) → (ltb c 32 || eqb c 127) ≡ b → cond b (92 ∷ 117 ∷ 123 ∷ (digits 16 false c ++ 125 ∷ [])) (c ∷ []) ≡ cond b (codes "\\u{" ++ (hex c ++ codes "}")) (c ∷ [])
    others true control = ap (λ ds. codes "\\u{" ++ (ds ++ codes "}")) (hexed c control)
    others false control = refl

same_escapes : (name : Name) → flat_map (debug_escape 34) name ≡ flat_map escaped name
same_escapes [] = refl
same_escapes (c ∷ name) = (λ i. same_escape c i ++ same_escapes name i)

-- `{:?}` of a text
pub debug_name : (name : Name) → debug_str name ≡ cond (list_all is_ascii name) (Some (quoted name)) None
debug_name name = ap (λ t. cond (list_all is_ascii name) (Some (codes "\"" ++ (t ++ codes "\""))) None) (same_escapes name)

module _ {X : Type 0} (name : X → Name) where
  later : (xs : List X) → debug_items (λ x. debug_str (name x)) comma_space xs ≡ where_ascii (map name xs) (later_text (map name xs))
  later [] = refl
  later (x ∷ xs) = rw (later xs, debug_name (name x)) (joined (list_all is_ascii (name x)) (all_ascii (map name xs)) (codes ", ") (quoted (name x)) _)

  -- what `{:?}` of a list of texts writes
  pub debug_names : (xs : List X) → debug_list (λ x. debug_str (name x)) xs ≡ list_output (map name xs)
  debug_names [] = refl
  debug_names (x ∷ xs) = rw (later xs, debug_name (name x)) (bracketed (list_all is_ascii (name x)) (all_ascii (map name xs)) (quoted (name x)) _)

bracketed_later : (b c : Bool) (x y : List ℕ) → Some (codes "[") ++? (cond b (Some x) None ++? (cond c (Some y) None ++? Some (codes "]"))) ≡ cond (b && c) (Some (codes "[" ++ (x ++ (y ++ codes "]")))) None
bracketed_later true true x y = refl
bracketed_later true false x y = refl
bracketed_later false c x y = refl

-- the first name, and the others with what stands before each
pub first_and_later : (name : Name) (names : List Name) → Some (codes "[") ++? (debug_str name ++? (where_ascii names (later_text names) ++? Some (codes "]"))) ≡ list_output (name ∷ names)
first_and_later name names = rw (debug_name name) (bracketed_later (list_all is_ascii name) (all_ascii names) (quoted name) (later_text names))
