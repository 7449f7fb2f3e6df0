-- Names, each once, the variants that candidates have under a tag, and what is told of a
-- configuration.
use Rattle.std.proofs.Common.{◌≡◌, ℕ, ◌<◌, ◌+◌, Bool, true, false, cond, ◌||◌, ◌&&◌, not, List, [], ◌∷◌, ◌++◌, Option, Bor, All, filter, map, length, get_or, take, refl, ap, sym, ◌∙◌, append-nil}
use lib.Pointwise.{bytes_decides}
use Rattle.std.specs.Cmp.Lexicographic.{nat_list_eq_equiv, texts_ties}
use Rattle.std.specs.List.{AllByRecursion, cons_option, filter_map, list_any}
use Rattle.std.specs.Option.{option_map}
use Rattle.std.specs.Ordering.{is_eq}
use Rattle.std.proofs.lemmas.List.{map-append, take_more}
use Rattle.std.proofs.lemmas.List.Elements.{filter-append, filter_map-append, recursion_from_All}
use Rattle.std.proofs.lemmas.Map.Views.{any-filter_same}
use Rattle.facet_solver.specs.Keys.{Key, flat_key}
use Rattle.facet_solver.specs.Names.{Name, name_eq, name_ref_cmp, names_of}
use Rattle.facet_solver.specs.schema.Schema.{SchemaView}
use Rattle.facet_solver.specs.schema.ResolutionHandle.{IsHandleOf, index_of, resolution_of}
use Rattle.facet_solver.specs.solver.Report.{resolutions_at}
use Rattle.facet_solver.specs.solver.State.{State, new_solver, passing, retain, see_key, where_any}
use Rattle.facet_solver.specs.solver.Tag.{has_no_other_under, has_variant_under, see_tag, variant_under}
use Rattle.facet_solver.specs.solver.Told.{see_keys}
use Rattle.facet_solver.specs.declared.ResolutionHandle.{ResolutionHandle}
use Rattle.facet_solver_uses.specs.LoadConfig.{each_once, told}

-- whether a name is one of some names
abbrev is_among : Name → List Name → Bool
is_among name names = list_any (λ other. name_eq other name) names

one_more : (p : Name → Bool) (xs : List Name) (f g : Name) (here same : Bool) → p g ≡ not same → f ∷ filter p (cond here xs (xs ++ g ∷ [])) ≡ cond (same || (not same && here)) (f ∷ filter p xs) ((f ∷ filter p xs) ++ g ∷ [])
one_more p xs f g true true e = refl
one_more p xs f g true false e = refl
one_more p xs f g false true e =
    ap (λ k. f ∷ k) (filter-append p xs (g ∷ []) ∙ ap (λ b. filter p xs ++ cond b (g ∷ []) []) e ∙ append-nil (filter p xs))
one_more p xs f g false false e =
    ap (λ k. f ∷ k) (filter-append p xs (g ∷ []) ∙ ap (λ b. filter p xs ++ cond b (g ∷ []) []) e)

-- one more name is new, or stands there already
each_once-push : (xs : List Name) (g : Name) → each_once (xs ++ g ∷ []) ≡ cond (is_among g (each_once xs)) (each_once xs) (each_once xs ++ g ∷ [])
each_once-push [] g = refl
each_once-push (f ∷ fs) g =
    let firsts = each_once fs in
    let other : Name → Bool = λ h. not (name_eq h f) in
    let same = name_eq f g in
    let here = is_among g firsts in
    let apart : name_eq g f ≡ same = nat_list_eq_equiv.symm g f in
    let left : is_among g (filter other firsts) ≡ (not same && here) =
    any-filter_same (λ (h : Name). name_eq h g) other (not same) (λ h is. ap (λ (k : Name). not (name_eq k f)) ((bytes_decides h g).0 is) ∙ ap not apart) firsts in
    ap (λ k. f ∷ filter other k) (each_once-push fs g)
    ∙ one_more other firsts f g here same (ap not apart)
    ∙ ap (λ b. cond (same || b) (f ∷ filter other firsts) ((f ∷ filter other firsts) ++ g ∷ [])) (sym left)

among_refs : (names : List (Bor Name)) (name : Name) → is_among name (names_of names) ≡ list_any (λ (other : Bor Name). name_eq other.now name) names
among_refs [] name = refl
among_refs (other ∷ names) name = ap (λ b. name_eq other.now name || b) (among_refs names name)

-- a name that is there already
name_stays : (met : List Name) (names : List (Bor Name)) (name : Name) → names_of names ≡ each_once met → list_any (λ (other : Bor Name). name_eq other.now name) names ≡ true → names_of names ≡ each_once (met ++ name ∷ [])
name_stays met names name so_far there =
    so_far
    ∙ sym (each_once-push met name
    ∙ ap (λ b. cond b (each_once met) (each_once met ++ name ∷ [])) (ap (is_among name) (sym so_far) ∙ among_refs names name ∙ there))

-- a name that is new
name_added : (met : List Name) (names : List (Bor Name)) (new : Bor Name) → names_of names ≡ each_once met → list_any (λ (other : Bor Name). name_eq other.now new.now) names ≡ false → names_of (names ++ new ∷ []) ≡ each_once (met ++ new.now ∷ [])
name_added met names new so_far is_new =
    map-append (λ (n : Bor Name). n.now) names (new ∷ [])
    ∙ ap (λ (ns : List Name). ns ++ new.now ∷ []) so_far
    ∙ sym (each_once-push met new.now
    ∙ ap (λ b. cond b (each_once met) (each_once met ++ new.now ∷ [])) (ap (is_among new.now) (sym so_far) ∙ among_refs names new.now ∙ is_new))

-- a name, by whether it is there
pub name_told : (met : List Name) (names : List (Bor Name)) (new : Bor Name) (there : Bool)
    → list_any (λ (other : Bor Name). name_eq other.now new.now) names ≡ there
    → names_of names ≡ each_once met
    → names_of (cond there names (names ++ new ∷ [])) ≡ each_once (met ++ new.now ∷ [])
name_told met names new true is so_far = name_stays met names new.now so_far is
name_told met names new false is so_far = name_added met names new so_far is

-- the variants that the resolutions of some handles have under a tag
abbrev pub variants_of_handles : Name → List ResolutionHandle → List Name
variants_of_handles tag handles = filter_map (λ handle. variant_under tag (resolution_of handle)) handles

-- one handle more
pub handle_more : (tag : Name) (handles : List ResolutionHandle) (i : ℕ) (d : ResolutionHandle) → i < length handles → variants_of_handles tag (take (i + 1) handles) ≡ variants_of_handles tag (take i handles) ++ cons_option (variant_under tag (resolution_of (get_or handles i d))) []
handle_more tag handles i d low =
    ap (variants_of_handles tag) (take_more handles i d low)
    ∙ filter_map-append (λ (handle : ResolutionHandle). variant_under tag (resolution_of handle)) (take i handles) (get_or handles i d ∷ [])

at_handles : (tag : Name) (schema : SchemaView) (handles : List ResolutionHandle) → AllByRecursion (IsHandleOf schema) handles → variants_of_handles tag handles ≡ filter_map (variant_under tag) (resolutions_at schema.resolutions (map index_of handles))
at_handles tag schema [] all = refl
at_handles tag schema (handle ∷ handles) all =
    ap (λ (ns : List Name). cons_option (variant_under tag (resolution_of handle)) ns) (at_handles tag schema handles all.1)
    ∙ sym (ap (λ o. filter_map (variant_under tag) (cons_option o (resolutions_at schema.resolutions (map index_of handles)))) all.0)

-- handles at the candidates have their resolutions
pub variants_at : (tag : Name) (schema : SchemaView) (handles : List ResolutionHandle) (indices : List ℕ) → map index_of handles ≡ indices → All (IsHandleOf schema) handles → variants_of_handles tag handles ≡ filter_map (variant_under tag) (resolutions_at schema.resolutions indices)
variants_at tag schema handles indices same all =
    at_handles tag schema handles (recursion_from_All (IsHandleOf schema) handles all)
    ∙ ap (λ (is : List ℕ). filter_map (variant_under tag) (resolutions_at schema.resolutions is)) same

-- keys that are seen leave the schema
see_keys_schema : (keys : List Key) (s : State) → (see_keys keys s).schema ≡ s.schema
see_keys_schema [] s = refl
see_keys_schema (key ∷ keys) s = see_keys_schema keys (see_key key s)

-- a tag that is seen leaves the schema
see_tag_schema : (tag variant : Name) (s : State) → (see_tag tag variant s).schema ≡ s.schema
see_tag_schema tag variant s = go (passing (has_variant_under tag variant) (see_key (flat_key tag) s))
  where
    go : (named : List ℕ) → (where_any named (retain (has_no_other_under tag variant) (see_key (flat_key tag) s)) (see_key (flat_key tag) s)).schema ≡ s.schema
    go [] = refl
    go (index ∷ rest) = refl

-- a configuration that is told leaves the schema
pub told_schema : (schema : SchemaView) (tag variant : Name) (keys : List Key) → (told schema tag variant keys).schema ≡ schema
told_schema schema tag variant keys =
    see_keys_schema keys (see_tag tag variant (new_solver schema))
    ∙ see_tag_schema tag variant (new_solver schema)

-- one handle more, by the variant that was found in its resolution
pub names_more : (tag : Name) (handles : List ResolutionHandle) (i : ℕ) (d : ResolutionHandle) (found : Option (Bor Name)) → i < length handles → option_map (λ variant. variant.now) found ≡ variant_under tag (resolution_of (get_or handles i d)) → each_once (variants_of_handles tag (take (i + 1) handles)) ≡ each_once (variants_of_handles tag (take i handles) ++ cons_option (option_map (λ variant. variant.now) found) [])
names_more tag handles i d found low is =
    ap each_once (handle_more tag handles i d low)
    ∙ ap (λ (o : Option Name). each_once (variants_of_handles tag (take i handles) ++ cons_option o [])) (sym is)

-- whether one of a name and others is known: the name itself, or one of the others
known_before : (here first others : Bool) → cond here true (first || others) ≡ (first || cond here true others)
known_before here true others = known_anyway here
  where
    known_anyway : (here : Bool) → cond here true true ≡ true
    known_anyway true = refl
    known_anyway false = refl
known_before here false others = refl

known_alone : (here : Bool) → cond here true false ≡ (here || false)
known_alone true = refl
known_alone false = refl

-- a name behind some names is known as they are, and is itself known
pub known_more : (names : List (Bor Name)) (new name : Bor Name)
    → cond (is_eq (name_ref_cmp new name)) true (list_any (λ (other : Bor Name). name_eq other.now name.now) names)
    ≡ list_any (λ (other : Bor Name). name_eq other.now name.now) (names ++ new ∷ [])
known_more [] new name =
    ap (λ b. cond b true false) (sym (texts_ties new.now name.now))
    ∙ known_alone (name_eq new.now name.now)
known_more (first ∷ names) new name =
    known_before (is_eq (name_ref_cmp new name)) (name_eq first.now name.now)
    (list_any (λ (other : Bor Name). name_eq other.now name.now) names)
    ∙ ap (λ b. name_eq first.now name.now || b) (known_more names new name)
