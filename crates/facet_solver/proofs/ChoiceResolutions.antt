-- What choices resolve to: one resolution for each, whose flat fields go by their names.
use Rattle.facet_solver.specs.build.Build.{Build}
use Rattle.std.proofs.Common.{◌≡◌, ◌+◌, ◌≤◌, ℕ, suc, List, [], ◌∷◌, ◌++◌, Some, sym, refl, ap, ◌∙◌, subst, length, arith, IsSome, slice_get, take}
use Rattle.std.proofs.lemmas.List as lists
use Rattle.std.proofs.lemmas.List.{take_more}
use Rattle.std.proofs.lemmas.Option.{get_or_from_slice_get, slice_get_within}
use Rattle.facet_solver_shape.specs.declared.resolution.error.SchemaError as schema
use Rattle.facet_solver_shape.specs.declared.resolution.error.SchemaError.TheVariants.{DuplicateField, OutOfMemory}
use Rattle.facet_solver.specs.build.Walk.{walk_root}
use Rattle.facet_solver_shape.specs.Resolved.{Resolved, nothing}
use Rattle.facet_solver.specs.build.Outcome.{Duplicate, Outcome, resolved, duplicate, take_all, effect, StopsBy, duplicate_view}
use Rattle.facet_solver.specs.build.Choice.{IsChoice, IsResolution, IsChoiceDuplicate, IsRefusal}
use Rattle.facet_solver.specs.build.Count.{count_of_root}
use Rattle.facet_solver.specs.build.Listing.{choices_of_root}
use Rattle.facet_solver.proofs.Choice.{choices_listed}
use Rattle.facet_solver.proofs.Count.{root_count}
use Rattle.facet_solver.proofs.Outcome.{built, has_duplicates}
use Rattle.std.specs.List.{AllZip}

-- ---- one resolution for each choice, one by one
module _ (build : Build) (root : ℕ) where
  -- a choice was walked
  pub choice-walked : (c : List ℕ) → IsChoice build root c → IsSome (walk_root build root c)
  choice-walked c h = rw h.1 refl

  -- the effect of a choice on nothing is its resolution
  pub resolution-is : (c rest : List ℕ) (r : Resolved) → IsChoice build root c → effect nothing (walk_root build root c) ≡ Some (resolved r, rest) → IsResolution build root c r
  resolution-is c rest r h e =
      let f : Some (take_all nothing h.0, []) ≡ Some (resolved r, rest) = sym (ap (effect nothing) h.1) ∙ e in
      let p : (take_all nothing h.0, []) ≡ (resolved r, rest) = cc in
      let b = built h.0 r (ap (λ (x : Outcome × List ℕ). x.0) p) in
      record { emissions = h.0; emitted = h.1; put_together = b.is; no_duplicates = b.free }

  -- and where it stops, a duplicate key
  pub duplicate-is : (c rest : List ℕ) (d : Duplicate) → IsChoice build root c → effect nothing (walk_root build root c) ≡ Some (duplicate d, rest) → IsChoiceDuplicate build root d.name d.first_path d.second_path
  duplicate-is c rest d h e =
      let f : Some (take_all nothing h.0, []) ≡ Some (duplicate d, rest) = sym (ap (effect nothing) h.1) ∙ e in
      let p : (take_all nothing h.0, []) ≡ (duplicate d, rest) = cc in
      let b = has_duplicates h.0 d (ap (λ (x : Outcome × List ℕ). x.0) p) in
      record { choice = c; emissions = h.0; emitted = h.1; first = b.first; second = b.second; duplicates = b.duplicates; same_name = ap (λ (d : Duplicate). d.name) b.names; first_is = ap (λ (d : Duplicate). d.first_path) b.names; second_is = ap (λ (d : Duplicate). d.second_path) b.names }

  pub stops-duplicate : (c : List ℕ) (err : schema.SchemaError) → IsChoice build root c → StopsBy (effect nothing (walk_root build root c)) err → IsRefusal build root err
  stops-duplicate c (DuplicateField d) h s = duplicate-is c s.0 (duplicate_view d) h s.1
  stops-duplicate c OutOfMemory h s = tt

  resolves-push : (cs : List (List ℕ)) (rs : List Resolved) (c : List ℕ) (r : Resolved) → AllZip (IsResolution build root) cs rs → IsResolution build root c r → AllZip (IsResolution build root) (cs ++ c ∷ []) (rs ++ r ∷ [])
  resolves-push [] [] c r h i = (i, tt)
  resolves-push [] (s ∷ rs) c r h i = absurd h
  resolves-push (b ∷ cs) [] c r h i = absurd h
  resolves-push (b ∷ cs) (s ∷ rs) c r h i = (h.0, resolves-push cs rs c r h.1 i)

  -- what is listed at a rank is a choice
  pub choice_of_rank : (n : ℕ) (c : List ℕ) → slice_get (choices_of_root build root) n ≡ Some c → IsChoice build root c
  choice_of_rank n c e =
      let cs = choices_of_root build root in
      (choices_listed build root).each_is c (n, slice_get_within cs n c e, get_or_from_slice_get cs n c c e)

  -- one more rank
  pub resolved-more : (n : ℕ) (c : List ℕ) (rs : List Resolved) (r : Resolved) → slice_get (choices_of_root build root) n ≡ Some c
      → AllZip (IsResolution build root) (take n (choices_of_root build root)) rs → IsResolution build root c r
      → AllZip (IsResolution build root) (take (n + 1) (choices_of_root build root)) (rs ++ r ∷ [])
  resolved-more n c rs r e h this =
      let cs = choices_of_root build root in
      let more = take_more cs n c (slice_get_within cs n c e) ∙ ap (λ (d : List ℕ). take n cs ++ d ∷ []) (get_or_from_slice_get cs n c c e) in
      subst (λ (ds : List (List ℕ)). AllZip (IsResolution build root) ds (rs ++ r ∷ [])) (sym more) (resolves-push (take n cs) rs c r h this)

  -- no rank is left
  pub resolved-end : (n : ℕ) (rs : List Resolved) → count_of_root build root ≤ n → AllZip (IsResolution build root) (take n (choices_of_root build root)) rs → AllZip (IsResolution build root) (choices_of_root build root) rs
  resolved-end n rs le h =
      let cs = choices_of_root build root in
      let long = root_count build root in
      subst (λ (ds : List (List ℕ)). AllZip (IsResolution build root) ds rs) (lists.take_all n cs (omega (arith, le, long))) h

  pub resolves-length : (cs : List (List ℕ)) (rs : List Resolved) → AllZip (IsResolution build root) cs rs → length rs ≡ length cs
  resolves-length [] [] h = refl
  resolves-length [] (r ∷ rs) h = absurd h
  resolves-length (c ∷ cs) [] h = absurd h
  resolves-length (c ∷ cs) (r ∷ rs) h = ap suc (resolves-length cs rs h.1)
