-- Going through seen keys as the fields of a resolution rise.
use Rattle.std.proofs.Common.{◌≡◌, Bool, true, ◌||◌, ◌&&◌, not, List, [], ◌∷◌, ◌++◌, Option, Some, None, Bor, MatchOption, map, refl, ap, sym, ◌∙◌, append_assoc}
use Rattle.std.specs.FinMap as finite
use Rattle.std.specs.List.{list_all, list_any}
use Rattle.std.proofs.lemmas.Bool.{or_right}
use Rattle.std.proofs.lemmas.List.Folds.{list_any-append}
use Rattle.std.proofs.Math.Bool.{or-true}
use Rattle.facet_solver_shape.specs.declared.resolution.key.FieldKey.{FieldKey}
use Rattle.facet_solver_shape.specs.Fields.{FieldView, entry_view, matches}
use Rattle.facet_solver_shape.specs.Keys.{Key, key_cmp, key_of}
use Rattle.facet_solver_shape.proofs.Lists.{list_any-map}
use Rattle.facet_solver.specs.solver.Failure.{is_met}
use Rattle.facet_solver.specs.solver.SeenNames.{IsSuffixOf, keys_from}

-- what a cursor goes on to
pub keys_on : (next : Option (Bor FieldKey)) (before after : List FieldKey)
    → MatchOption next ((before ≡ []) × (after ≡ [])) (λ k. before ≡ k.now ∷ after) → keys_from next after ≡ before
keys_on None before after h = h.1 ∙ sym h.0
keys_on (Some k) before after h = sym h

-- an end of an end
pub end_of_end : (keys behind all : List FieldKey) → IsSuffixOf keys behind → IsSuffixOf behind all → IsSuffixOf keys all
end_of_end keys behind all inner outer =
    (outer.0 ++ inner.0, append_assoc outer.0 inner.0 keys ∙ ap (λ ks. outer.0 ++ ks) inner.1 ∙ outer.1)

-- a field that one of the last seen keys matches is met
pub met_behind : (keys seen : List FieldKey) (f : FieldView) → IsSuffixOf keys seen → list_any (λ k. matches (key_of k) f) keys ≡ true → true ≡ is_met (map key_of seen) f
met_behind keys seen f end found =
    let some : list_any (λ (k : FieldKey). matches (key_of k) f) seen ≡ true =
    ap (list_any (λ (k : FieldKey). matches (key_of k) f)) (sym end.1)
    ∙ list_any-append (λ (k : FieldKey). matches (key_of k) f) end.0 keys
    ∙ or_right (list_any (λ (k : FieldKey). matches (key_of k) f) end.0) (list_any (λ (k : FieldKey). matches (key_of k) f) keys) found in
    sym (ap (λ b. not f.is_required || b) (list_any-map (λ (k : Key). matches k f) key_of seen ∙ some) ∙ or-true (not f.is_required))

-- a field that is required is met where some seen key matches it
pub met_by_match : (seen : List FieldKey) (f : FieldView) → f.is_required ≡ true → list_any (λ k. matches (key_of k) f) seen ≡ is_met (map key_of seen) f
met_by_match seen f required =
    sym (list_any-map (λ (k : Key). matches k f) key_of seen) ∙ ap (λ b. not b || list_any (λ (k : Key). matches k f) (map key_of seen)) (sym required)

all_viewed : (p : FieldView → Bool) (es : List (FieldKey × FieldView)) → list_all (λ (e : FieldKey × FieldView). p e.1) es ≡ list_all p (map (λ (e : Key × FieldView). e.1) (map entry_view es))
all_viewed p [] = refl
all_viewed p (e ∷ es) = ap (λ b. p e.1 && b) (all_viewed p es)

-- entries in order tell the fields of a map
pub each_of_fields : (es : List (FieldKey × FieldView)) (fields : finite.FinMap key_cmp FieldView) (p : FieldView → Bool) → map entry_view es ≡ finite.entries fields
    → list_all (λ (e : FieldKey × FieldView). p e.1) es ≡ list_all p (finite.values fields)
each_of_fields es fields p in_order = all_viewed p es ∙ ap (λ (entries : List (Key × FieldView)). list_all p (map (λ (e : Key × FieldView). e.1) entries)) in_order
