-- What a tag with the text under it tells of the candidates that are left.
use Rattle.std.proofs.Common.{◌≡◌, ◌≢◌, ℕ, arith, refl, ap, sym, subst, ◌∙◌, Bool, true, false, List, [], ◌∷◌, Option, Some, None, filter, is_some, slice_get}
use Rattle.std.specs.Prelude.{Contains}
use Rattle.std.specs.Option.{option_and_then, option_map_or}
use Rattle.facet_solver.specs.Fields.{FieldView}
use Rattle.facet_solver.specs.Keys.{Key, flat_key}
use Rattle.facet_solver.specs.Names.{Name, name_eq}
use Rattle.facet_solver.specs.Resolved.{Resolved, field_by_key}
use Rattle.facet_solver.specs.Resolutions.{has_key, passes}
use Rattle.facet_solver.specs.schema.Schema.{SchemaView}
use Rattle.facet_solver.specs.schema.ResolutionHandle.{IsHandleOf, index_of, resolution_of}
use Rattle.facet_solver.specs.declared.ResolutionHandle.{ResolutionHandle}
use Rattle.facet_solver.specs.solver.State.{State, new_solver, or_all, passing, retain, see_key, where_any}
use Rattle.facet_solver.specs.solver.Tag.{has_no_other_under, has_variant_under, last_variant, see_tag}
use Rattle.facet_solver.specs.solver.Told.{see_keys}
use Rattle.facet_solver.specs.solver.Report.{viable}
use Rattle.facet_solver_uses.specs.LoadConfig.{IsFound, NamesVariant, told}
use Rattle.facet_solver_uses.proofs.KeptElements.{kept_among, kept_passes, none_passes}
use Rattle.facet_solver_uses.proofs.LoadConfig.{told_schema}

or_all_among : (xs all : List ℕ) (x : ℕ) → (Contains xs x → Contains all x) → Contains (or_all xs all) x → Contains all x
or_all_among [] all x among c = c
or_all_among (y ∷ ys) all x among c = among c

-- each candidate of a state passes a test
abbrev AllPass : (Resolved → Bool) → State → Type 0
AllPass test s = (index : ℕ) → Contains s.candidates index → passes test s.schema.resolutions index ≡ true

-- a key that is seen leaves it so
see_key_keeps : (test : Resolved → Bool) (key : Key) (s : State) → AllPass test s → AllPass test (see_key key s)
see_key_keeps test key s all index among =
    all index (or_all_among (passing (has_key key) s) s.candidates index (kept_among (passes (has_key key) s.schema.resolutions) s.candidates index) among)

see_keys_keep : (test : Resolved → Bool) (keys : List Key) (s : State) → AllPass test s → AllPass test (see_keys keys s)
see_keys_keep test [] s all = all
see_keys_keep test (key ∷ keys) s all = see_keys_keep test keys (see_key key s) (see_key_keeps test key s all)

-- a resolution with a variant under a tag has the tag
has_its_tag : (tag variant : Name) (o : Option Resolved) → option_map_or (has_variant_under tag variant) o false ≡ true → option_map_or (has_key (flat_key tag)) o false ≡ true
has_its_tag tag variant None e = e
has_its_tag tag variant (Some r) e = go (field_by_key (flat_key tag) r) e
  where
    go : (found : Option FieldView) → option_map_or (λ other. name_eq other variant) (option_and_then (λ f. last_variant f.path) found) false ≡ true → is_some found ≡ true
    go None e = absurd (cc)
    go (Some f) e = refl

-- where some candidate has the variant under the tag, each has the tag
seen_has_tag : (tag variant : Name) (s : State) → passing (has_variant_under tag variant) (see_key (flat_key tag) s) ≢ [] → AllPass (has_key (flat_key tag)) (see_key (flat_key tag) s)
seen_has_tag tag variant s named = go (passing (has_key (flat_key tag)) s) refl named
  where
    go : (xs : List ℕ) → filter (passes (has_key (flat_key tag)) s.schema.resolutions) s.candidates ≡ xs → filter (passes (has_variant_under tag variant) s.schema.resolutions) (or_all xs s.candidates) ≢ [] → (index : ℕ) → Contains (or_all xs s.candidates) index → passes (has_key (flat_key tag)) s.schema.resolutions index ≡ true
    go [] none named index among =
        absurd (named (none_passes (passes (has_key (flat_key tag)) s.schema.resolutions) (passes (has_variant_under tag variant) s.schema.resolutions) (λ x. has_its_tag tag variant (slice_get s.schema.resolutions x)) s.candidates none))
    go (i ∷ rest) some named index among =
        kept_passes (passes (has_key (flat_key tag)) s.schema.resolutions) s.candidates index (subst (λ (xs : List ℕ). Contains xs index) (sym some) among)

where_some : (named : List ℕ) (some none : State) → named ≢ [] → where_any named some none ≡ some
where_some [] some none named = absurd (named refl)
where_some (index ∷ rest) some none named = refl

-- then each has the tag after the text under it too, and no other variant there
tag_has_tag : (tag variant : Name) (s : State) → passing (has_variant_under tag variant) (see_key (flat_key tag) s) ≢ [] → AllPass (has_key (flat_key tag)) (see_tag tag variant s)
tag_has_tag tag variant s named =
    let seen = see_key (flat_key tag) s in
    let kept = retain (has_no_other_under tag variant) seen in
    subst (λ (t : State). AllPass (has_key (flat_key tag)) t) (sym (where_some (passing (has_variant_under tag variant) seen) kept seen named))
    (λ index among. seen_has_tag tag variant s named index (kept_among (passes (has_no_other_under tag variant) s.schema.resolutions) seen.candidates index among))

tag_of_variant : (tag variant : Name) (s : State) → passing (has_variant_under tag variant) (see_key (flat_key tag) s) ≢ [] → AllPass (has_no_other_under tag variant) (see_tag tag variant s)
tag_of_variant tag variant s named =
    let seen = see_key (flat_key tag) s in
    let kept = retain (has_no_other_under tag variant) seen in
    subst (λ (t : State). AllPass (has_no_other_under tag variant) t) (sym (where_some (passing (has_variant_under tag variant) seen) kept seen named))
    (λ index among. kept_passes (passes (has_no_other_under tag variant) s.schema.resolutions) seen.candidates index among)

-- the only viable resolution is a candidate
alone_among : (s : State) (index : ℕ) → viable s ≡ index ∷ [] → Contains s.candidates index
alone_among s index alone =
    kept_among _ s.candidates index (subst (λ (xs : List ℕ). Contains xs index) (sym alone) (0, omega arith, refl))

-- so it passes what each candidate passes
alone_passes : (test : Resolved → Bool) (schema : SchemaView) (s : State) (index : ℕ) (r : Resolved) → AllPass test s → s.schema ≡ schema → viable s ≡ index ∷ [] → slice_get schema.resolutions index ≡ Some r → test r ≡ true
alone_passes test schema s index r all same alone there =
    ap (λ o. option_map_or test o false) (sym there)
    ∙ ap (λ (t : SchemaView). passes test t.resolutions index) (sym same)
    ∙ all index (alone_among s index alone)

-- the only viable resolution has the tag, and no other variant under it
pub found : (schema : SchemaView) (tag variant : Name) (keys : List Key) (handle : ResolutionHandle) → NamesVariant schema tag variant → viable (told schema tag variant keys) ≡ index_of handle ∷ [] → IsHandleOf schema handle → IsFound schema tag variant keys handle
found schema tag variant keys handle named alone there =
    let told_it = told schema tag variant keys in
    let start = new_solver schema in
    let by_test = λ (test : Resolved → Bool) (all : AllPass test (see_tag tag variant start)).
    alone_passes test schema told_it (index_of handle) (resolution_of handle) (see_keys_keep test keys (see_tag tag variant start) all) (told_schema schema tag variant keys) alone there in
    record {
      named = named;
      alone = alone;
      of_schema = there;
      has_tag = by_test (has_key (flat_key tag)) (tag_has_tag tag variant start named);
      of_variant = by_test (has_no_other_under tag variant) (tag_of_variant tag variant start named);
    }
