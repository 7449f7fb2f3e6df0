-- The fields of a resolution are those that are emitted.
use Rattle.std.proofs.Common.{◌≡◌, ◌⊎◌, inl, inr, ⊎_elim, refl, sym, ap, ◌∙◌, subst, Bool, true}
use Rattle.std.proofs.Common.{false, cond, List, [], ◌∷◌, Option, Some, IsSome}
use Rattle.std.specs.Prelude.{fold, if◌then◌else◌}
use Rattle.std.specs.Cmp.Lexicographic.{slice_cmp}
use Rattle.std.specs.FinMap as finite
use Rattle.std.specs.FinSet as set
use Rattle.std.specs.Ordering.{eq_by_cmp, is_eq, nat_cmp}
use Rattle.std.proofs.lemmas.Bool.{or_left, or_right}
use Rattle.std.proofs.lemmas.Cmp.{nat_list_cmp_total, tied_itself}
use Rattle.facet_solver_shape.specs.Fields.{FieldView, key_of_field}
use Rattle.facet_solver_shape.specs.Keys.{Key, key_cmp}
use Rattle.facet_solver_shape.specs.Names.{Name}
use Rattle.facet_solver_shape.specs.Resolved.{Resolved, nothing}
use Rattle.facet_solver_shape.proofs.Finite.{equal, none_is_some, same_value}
use Rattle.facet_solver_shape.proofs.Keys.{key_cmp_same, key_cmp_total}
use Rattle.facet_solver.specs.build.Choice.{resolution_from, with_emission}
use Rattle.facet_solver.specs.build.Emissions.{Emission, a_field, some_key_paths, a_selection}
use Rattle.facet_solver.specs.build.Emissions.{a_catch_all}
use Rattle.facet_solver.specs.build.Nested.{with_key_paths}

-- a field is emitted
abbrev pub IsEmitted : FieldView → List Emission → Type 0
IsEmitted f [] = ⊥
IsEmitted f (a_field g ∷ es) = (g ≡ f) ⊎ IsEmitted f es
IsEmitted f (some_key_paths p ∷ es) = IsEmitted f es
IsEmitted f (a_selection s ∷ es) = IsEmitted f es
IsEmitted f (a_catch_all g ∷ es) = IsEmitted f es

-- ---- what stands in a resolution is emitted
from_emissions : (es : List Emission) (r : Resolved) (k : Key) (f : FieldView)
    → finite.get (fold with_emission r es).fields k ≡ Some f
    → (finite.get r.fields k ≡ Some f) ⊎ (IsEmitted f es × (k ≡ key_of_field f))
unfolding with_key_paths
from_emissions [] r k f e = inl e
from_emissions (a_field g ∷ es) r k f e =
    ⊎_elim here (λ later. inr (inr later.0, later.1))
    (from_emissions es (with_emission r (a_field g)) k f e)
  where
    here : finite.get (with_emission r (a_field g)).fields k ≡ Some f
        → (finite.get r.fields k ≡ Some f) ⊎ (IsEmitted f (a_field g ∷ es) × (k ≡ key_of_field f))
    here found =
        go (eq_by_cmp key_cmp k (key_of_field g)) refl
        (sym (finite.get-insert key_cmp_total r.fields (key_of_field g) g k) ∙ found)
      where
        go : (b : Bool) → eq_by_cmp key_cmp k (key_of_field g) ≡ b
            → cond b (Some g) (finite.get r.fields k) ≡ Some f
            → (finite.get r.fields k ≡ Some f)
            ⊎ (IsEmitted f (a_field g ∷ es) × (k ≡ key_of_field f))
        go true tie found =
            let same : g ≡ f = same_value g f found in
            inr (
              inl same,
              key_cmp_same k (key_of_field g) (equal (key_cmp k (key_of_field g)) tie)
                  ∙ ap (λ (x : FieldView). key_of_field x) same,
            )
        go false tie found = inl found
from_emissions (some_key_paths p ∷ es) r k f e =
    from_emissions es (with_emission r (some_key_paths p)) k f e
from_emissions (a_selection s ∷ es) r k f e =
    from_emissions es (with_emission r (a_selection s)) k f e
from_emissions (a_catch_all g ∷ es) r k f e =
    from_emissions es (with_emission r (a_catch_all g)) k f e

pub is_emitted : (es : List Emission) (k : Key) (f : FieldView)
    → finite.get (resolution_from es).fields k ≡ Some f → IsEmitted f es × (k ≡ key_of_field f)
unfolding resolution_from
is_emitted es k f e =
    ⊎_elim
    (λ none. none_is_some f (sym (finite.get-empty {X = FieldView} key_cmp k) ∙ none))
    (λ is. is) (from_emissions es nothing k f e)

-- ---- what is emitted stands in it
stays : (es : List Emission) (r : Resolved) (k : Key) → IsSome (finite.get r.fields k)
    → IsSome (finite.get (fold with_emission r es).fields k)
unfolding with_key_paths
stays [] r k h = h
stays (a_field g ∷ es) r k h =
    stays es (with_emission r (a_field g)) k
    (subst (λ (o : Option FieldView). IsSome o)
    (sym (finite.get-insert key_cmp_total r.fields (key_of_field g) g k))
    (go (eq_by_cmp key_cmp k (key_of_field g))))
  where
    go : (b : Bool) → IsSome (cond b (Some g) (finite.get r.fields k))
    go true = refl
    go false = h
stays (some_key_paths p ∷ es) r k h = stays es (with_emission r (some_key_paths p)) k h
stays (a_selection s ∷ es) r k h = stays es (with_emission r (a_selection s)) k h
stays (a_catch_all g ∷ es) r k h = stays es (with_emission r (a_catch_all g)) k h

put_in : (es : List Emission) (r : Resolved) (f : FieldView) → IsEmitted f es
    → IsSome (finite.get (fold with_emission r es).fields (key_of_field f))
unfolding with_key_paths
put_in [] r f h = absurd h
put_in (a_field g ∷ es) r f (inl same) =
    let now = with_emission r (a_field g) in
    stays es now (key_of_field f)
    (subst (λ (x : FieldView). IsSome (finite.get now.fields (key_of_field x))) same own)
  where
    own : IsSome (finite.get (with_emission r (a_field g)).fields (key_of_field g))
    own =
        subst (λ (o : Option FieldView). IsSome o)
        (sym (finite.get-insert key_cmp_total r.fields (key_of_field g) g (key_of_field g)
        ∙ ap (λ o. cond (is_eq o) (Some g) (finite.get r.fields (key_of_field g)))
        (tied_itself key_cmp_total (key_of_field g))))
        refl
put_in (a_field g ∷ es) r f (inr h) = put_in es (with_emission r (a_field g)) f h
put_in (some_key_paths p ∷ es) r f h = put_in es (with_emission r (some_key_paths p)) f h
put_in (a_selection s ∷ es) r f h = put_in es (with_emission r (a_selection s)) f h
put_in (a_catch_all g ∷ es) r f h = put_in es (with_emission r (a_catch_all g)) f h

pub is_stored : (es : List Emission) (f : FieldView) → IsEmitted f es
    → IsSome (finite.get (resolution_from es).fields (key_of_field f))
unfolding resolution_from
is_stored es f h = put_in es nothing f h

-- ---- and so is a required name
abbrev Names : Type 0
Names = set.FinSet (slice_cmp nat_cmp)

name_put : (names : Names) (b : Bool) (x y : Name) → set.contains names x ≡ true
    → set.contains (if b then set.insert names y else names) x ≡ true
name_put names true x y h =
    set.contains-insert nat_list_cmp_total names y x
    ∙ or_right (eq_by_cmp (slice_cmp nat_cmp) x y) (set.contains names x) h
name_put names false x y h = h

own_name : (names : Names) (b : Bool) (x : Name) → b ≡ true
    → set.contains (if b then set.insert names x else names) x ≡ true
own_name names true x e =
    set.contains-insert nat_list_cmp_total names x x
    ∙ or_left (eq_by_cmp (slice_cmp nat_cmp) x x) (set.contains names x)
    (ap is_eq (tied_itself nat_list_cmp_total x))
own_name names false x e = absurd (cc)

name_stays : (es : List Emission) (r : Resolved) (x : Name) → set.contains r.required_names x ≡ true
    → set.contains (fold with_emission r es).required_names x ≡ true
unfolding with_key_paths
name_stays [] r x h = h
name_stays (a_field g ∷ es) r x h =
    name_stays es (with_emission r (a_field g)) x
    (name_put r.required_names g.is_required x g.name h)
name_stays (some_key_paths p ∷ es) r x h = name_stays es (with_emission r (some_key_paths p)) x h
name_stays (a_selection s ∷ es) r x h = name_stays es (with_emission r (a_selection s)) x h
name_stays (a_catch_all g ∷ es) r x h = name_stays es (with_emission r (a_catch_all g)) x h

name_in : (es : List Emission) (r : Resolved) (f : FieldView) → IsEmitted f es
    → f.is_required ≡ true
    → set.contains (fold with_emission r es).required_names f.name ≡ true
unfolding with_key_paths
name_in [] r f h required = absurd h
name_in (a_field g ∷ es) r f (inl same) required =
    let now = with_emission r (a_field g) in
    let own : g.is_required ≡ true = ap (λ (x : FieldView). x.is_required) same ∙ required in
    name_stays es now f.name
    (subst (λ (x : FieldView). set.contains now.required_names x.name ≡ true) same
    (own_name r.required_names g.is_required g.name own))
name_in (a_field g ∷ es) r f (inr h) required =
    name_in es (with_emission r (a_field g)) f h required
name_in (some_key_paths p ∷ es) r f h required =
    name_in es (with_emission r (some_key_paths p)) f h required
name_in (a_selection s ∷ es) r f h required =
    name_in es (with_emission r (a_selection s)) f h required
name_in (a_catch_all g ∷ es) r f h required =
    name_in es (with_emission r (a_catch_all g)) f h required

pub is_required_name : (es : List Emission) (f : FieldView) → IsEmitted f es → f.is_required ≡ true
    → set.contains (resolution_from es).required_names f.name ≡ true
unfolding resolution_from
is_required_name es f h required = name_in es nothing f h required
