-- The first types of each id, one after the other.
use Rattle.std.proofs.Common.{◌≡◌, Bool, true, false, ◌||◌, not, List, [], ◌∷◌, ◌++◌, if◌then◌else◌, refl, sym, ap, ◌∙◌, append_assoc, append-nil}
use Rattle.std.specs.List.{fold}
use Rattle.std.proofs.Math.Bool.{or-true}
use Rattle.std.proofs.lemmas.List.Folds.{list_any-append}
use Rattle.std.proofs.lemmas.Slice.Eq.{bytes_eq-Decides}
use Rattle.facet_solver_shape.specs.Names.{Name, name_eq}
use Rattle.facet_solver_types.specs.DeclaredEntries.{distinct, has_id, with_new}
use Rattle.facet_solver_types.specs.FirstEntries.{are_first, are_first_behind, marked}
use Rattle.facet_solver_types.specs.TypeEntries.{TypeEntry}

-- what was found has the ids of all before
pub record IsSifted (before found : List TypeEntry) : Type 0 where
  pub same : (id : Name) → has_id id found ≡ has_id id before

-- nothing has no ids
pub sifted_none : IsSifted [] []
sifted_none = record { same = λ id. refl }

-- the ids of some types, and one more
more : (id : Name) (xs : List TypeEntry) (e : TypeEntry)
    → has_id id (xs ++ e ∷ []) ≡ (has_id id xs || (name_eq e.id id || false))
more id xs e = list_any-append (λ (x : TypeEntry). name_eq x.id id) xs (e ∷ [])

module _ (before found : List TypeEntry) (e : TypeEntry) (sifted : IsSifted before found) where
  -- the first of its id
  pub sifted_new : IsSifted (before ++ e ∷ []) (found ++ e ∷ [])
  sifted_new = record {
    same = λ id. more id found e ∙ ap (λ b. b || (name_eq e.id id || false)) (sifted.same id) ∙ sym (more id before e);
  }

  -- another of an id
  pub sifted_old : has_id e.id before ≡ true → IsSifted (before ++ e ∷ []) found
  sifted_old had = record { same = λ id. sifted.same id ∙ sym (more id before e ∙ go id (name_eq e.id id) refl) }
    where
      or_none : (b : Bool) → (b || false) ≡ b
      or_none true = refl
      or_none false = refl

      go : (id : Name) (b : Bool) → name_eq e.id id ≡ b
          → (has_id id before || (b || false)) ≡ has_id id before
      go id true same =
          let named : e.id ≡ id = (bytes_eq-Decides e.id id).0 same in
          let there : has_id id before ≡ true = ap (λ n. has_id n before) (sym named) ∙ had in
          or-true (has_id id before) ∙ sym there
      go id false other = or_none (has_id id before)

  -- what is found with the first of its id, and with another
  pub found_new : has_id e.id before ≡ false → with_new found e ≡ found ++ e ∷ []
  found_new fresh = ap (λ b. if b then found else found ++ e ∷ []) (sifted.same e.id ∙ fresh)

  pub found_old : has_id e.id before ≡ true → with_new found e ≡ found
  found_old had = ap (λ b. if b then found else found ++ e ∷ []) (sifted.same e.id ∙ had)

-- those that are the first of their ids are added one by one
first_are_added : (before found es : List TypeEntry) → IsSifted before found
    → found ++ marked (are_first_behind before es) es ≡ fold with_new found es
first_are_added before found [] sifted = append-nil found
first_are_added before found (e ∷ es) sifted =
    go (has_id e.id before) refl
    (λ had. first_are_added (before ++ e ∷ []) found es (sifted_old before found e sifted had))
    (first_are_added (before ++ e ∷ []) (found ++ e ∷ []) es (sifted_new before found e sifted))
  where
    later : List TypeEntry
    later = marked (are_first_behind (before ++ e ∷ []) es) es

    go : (b : Bool) → has_id e.id before ≡ b
        → (has_id e.id before ≡ true → found ++ later ≡ fold with_new found es)
        → (found ++ e ∷ []) ++ later ≡ fold with_new (found ++ e ∷ []) es
        → found ++ ((if not (has_id e.id before) then e ∷ [] else []) ++ later)
        ≡ fold with_new (with_new found e) es
    go true had old new =
        ap (λ b. found ++ ((if not b then e ∷ [] else []) ++ later)) had
        ∙ old had
        ∙ ap (λ l. fold with_new l es) (sym (found_old before found e sifted had))
    go false fresh old new =
        ap (λ b. found ++ ((if not b then e ∷ [] else []) ++ later)) fresh
        ∙ sym (append_assoc found (e ∷ []) later)
        ∙ new
        ∙ ap (λ l. fold with_new l es) (sym (found_new before found e sifted fresh))

-- the types that are the first of their ids are the first of each id
pub first_are_distinct : (entries : List TypeEntry) → marked (are_first entries) entries ≡ distinct entries
first_are_distinct entries = first_are_added [] [] entries sifted_none
