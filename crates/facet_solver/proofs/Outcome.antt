-- Emissions taken in one by one come to their resolution, or to a duplicate key.
use Rattle.std.proofs.Common.{◌≡◌, ℕ, List, [], ◌∷◌, ◌++◌, Option, Some, None, sym, refl, ap, ◌∙◌, IsSome, subst, ◌⊎◌, inl, inr, zero, suc, Bool, true, false, cond, slice_get, length, append_assoc, append-nil, arith}
use Rattle.std.specs.Prelude.{Result, IsErrAnd, IsSomeAnd}
use Rattle.std.specs.FinMap as finite
use Rattle.std.proofs.lemmas.Result.{err_from_is_err_and}
use Rattle.facet_solver_shape.specs.declared.resolution.error.SchemaError as schema
use Rattle.facet_solver_shape.specs.declared.resolution.error.SchemaError.TheVariants.{DuplicateField, OutOfMemory}
use Rattle.facet_solver.specs.build.Outcome.{Gives, ErrorOf, duplicate_view, Outcome, Duplicate, resolved, duplicate, next, with_known, take_in, take_all, effect}
use Rattle.facet_solver.specs.build.Nested.{KeyPaths, behind_prefix, named, with_key_paths, with_paths_behind}
use Rattle.facet_solver.specs.build.Emissions.{Emission, a_field, some_key_paths, a_selection, a_catch_all}
use Rattle.facet_solver.specs.build.Walk.{Walked, put_before, and_then}
use Rattle.facet_solver_shape.specs.Fields.{FieldView, key_of_field}
use Rattle.std.specs.FinSet as set
use Rattle.facet_solver_shape.proofs.Resolved.{names_kept, names_put, nothing_required}
use Rattle.facet_solver_shape.specs.Resolved.{AreRequiredNames, Selection, Resolved, IsAdded, with_selection, with_catch_all, IsRefusalOf, nothing, with_field, with_key_path}
use Rattle.facet_solver_shape.specs.Names.{Name}
use Rattle.facet_solver.proofs.NestedSets.{with_key_paths-insert}
use Rattle.std.specs.List.{fold}
use Rattle.std.specs.Ordering.{eq_by_cmp}
use Rattle.std.proofs.lemmas.List.Sums.{fold-append}
use Rattle.std.proofs.lemmas.Option.{slice_get_within}
use Rattle.std.proofs.lemmas.Cmp.{eq_by_cmp_equiv}
use Rattle.std.proofs.lemmas.Bool.{false≢true}
use Rattle.facet_solver_shape.specs.Keys.{Key, key_cmp}
use Rattle.facet_solver_shape.proofs.Finite.{equal}
use Rattle.facet_solver_shape.proofs.Keys.{key_cmp_total, key_cmp_same}
use Rattle.facet_solver.specs.build.Choice.{AreDuplicates, HasNoDuplicates, with_emission, resolution_from}

-- ---- emissions one by one
pub take_all-one : (r : Resolved) (e : Emission) → take_all r (e ∷ []) ≡ take_in r e
unfolding take_all
take_all-one r e = go (take_in r e)
  where
    go : (o : Outcome) → next o (λ s. resolved s) ≡ o
    go (resolved s) = refl
    go (duplicate d) = refl

pub take_all-next : (r s : Resolved) (e : Emission) (es : List Emission) → take_in r e ≡ resolved s → take_all r (e ∷ es) ≡ take_all s es
unfolding take_all
take_all-next r s e es h = ap (λ (o : Outcome). next o (λ s. take_all s es)) h

pub take_all-stop : (r : Resolved) (d : Duplicate) (e : Emission) (es : List Emission) → take_in r e ≡ duplicate d → take_all r (e ∷ es) ≡ duplicate d
unfolding take_all
take_all-stop r d e es h = ap (λ (o : Outcome). next o (λ s. take_all s es)) h

pub take_all-append : (r : Resolved) (es fs : List Emission) → take_all r (es ++ fs) ≡ next (take_all r es) (λ s. take_all s fs)
unfolding take_all
take_all-append r [] fs = refl
take_all-append r (e ∷ es) fs = go (take_in r e) (λ s. take_all-append s es fs)
  where
    go : (o : Outcome) → ((s : Resolved) → take_all s (es ++ fs) ≡ next (take_all s es) (λ t. take_all t fs)) → next o (λ s. take_all s (es ++ fs)) ≡ next (next o (λ s. take_all s es)) (λ s. take_all s fs)
    go (resolved s) h = h s
    go (duplicate d) h = refl

pub take_all-nil : (r : Resolved) → take_all r [] ≡ resolved r
unfolding take_all
take_all-nil r = refl

-- what stands behind emissions was walked
pub put_before-some : (es : List Emission) (w : Walked) → IsSome (put_before es w) → IsSome w
put_before-some es None k = absurd (cc)
put_before-some es (Some w) k = refl

-- a walk after emissions
pub effect-put_before : (r s : Resolved) (es : List Emission) (w : Walked) → take_all r es ≡ resolved s → effect r (put_before es w) ≡ effect s w
effect-put_before r s es None h = refl
effect-put_before r s es (Some w) h =
    ap (λ (o : Outcome). Some (o, w.1)) (take_all-append r es w.0 ∙ ap (λ (o : Outcome). next o (λ s. take_all s w.0)) h)

pub effect-stopped : (r : Resolved) (d : Duplicate) (es : List Emission) (w : Walked) → take_all r es ≡ duplicate d → IsSome w → (rest : List ℕ) × (effect r (put_before es w) ≡ Some (duplicate d, rest))
effect-stopped r d es None h k = absurd (cc)
effect-stopped r d es (Some w) h k =
    (w.1, ap (λ (o : Outcome). Some (o, w.1)) (take_all-append r es w.0 ∙ ap (λ (o : Outcome). next o (λ s. take_all s w.0)) h))

pub effect-and_then-stopped : (r : Resolved) (d : Duplicate) (w : Walked) (ns : List ℕ) (go : List ℕ → Walked) → effect r w ≡ Some (duplicate d, ns) → IsSome (and_then w go) → (rest : List ℕ) × (effect r (and_then w go) ≡ Some (duplicate d, rest))
effect-and_then-stopped r d None ns go h k = absurd (cc)
effect-and_then-stopped r d (Some w) ns go h k =
    let p : (take_all r w.0, w.1) ≡ (duplicate d, ns) = cc in
    effect-stopped r d w.0 (go w.1) (ap (λ (p : Outcome × List ℕ). p.0) p) (put_before-some w.0 (go w.1) k)

-- walks of one effect have one effect before what follows
behind : Outcome → Walked → Option (Outcome × List ℕ)
behind o None = None
behind o (Some w) = Some (next o (λ s. take_all s w.0), w.1)

effect-behind : (r : Resolved) (es : List Emission) (w : Walked) → effect r (put_before es w) ≡ behind (take_all r es) w
unfolding behind
effect-behind r es None = refl
effect-behind r es (Some w) = ap (λ (o : Outcome). Some (o, w.1)) (take_all-append r es w.0)

pub effect-then : (r s : Resolved) (w x : Walked) (go : List ℕ → Walked) → effect r w ≡ effect s x → effect r (and_then w go) ≡ effect s (and_then x go)
effect-then r s None None go h = refl
effect-then r s None (Some x) go h = absurd (cc)
effect-then r s (Some w) None go h = absurd (cc)
effect-then r s (Some w) (Some x) go h =
    let p : (take_all r w.0, w.1) ≡ (take_all s x.0, x.1) = cc in
    effect-behind r w.0 (go w.1)
    ∙ ap (λ (p : Outcome × List ℕ). behind p.0 (go p.1)) p
    ∙ sym (effect-behind s x.0 (go x.1))

-- what calls that take in emissions give
module _ {T : Type 0} (result : Result T schema.SchemaError) (new : Resolved) where
  pub gives-next : (r s : Resolved) (e : Emission) (es : List Emission) → take_in r e ≡ resolved s → Gives (take_all s es) result new → Gives (take_all r (e ∷ es)) result new
  gives-next r s e es h g = subst (λ (o : Outcome). Gives o result new) (sym (take_all-next r s e es h)) g

-- an error stays that of the whole
pub error-next : (r : Resolved) (e : Emission) (es : List Emission) (err : schema.SchemaError) → ErrorOf (take_in r e) err → ErrorOf (take_all r (e ∷ es)) err
error-next r e es (DuplicateField d) h = take_all-stop r (duplicate_view d) e es h
error-next r e es OutOfMemory h = tt

-- an error of the emissions before is one of the whole
pub error-append : (r : Resolved) (es fs : List Emission) (err : schema.SchemaError) → ErrorOf (take_all r es) err → ErrorOf (take_all r (es ++ fs)) err
error-append r es fs (DuplicateField d) h = take_all-append r es fs ∙ ap (λ (o : Outcome). next o (λ s. take_all s fs)) h
error-append r es fs OutOfMemory h = tt

-- the exit of a `?` in the first of two parts
pub gives-stopped : {T : Type 0} (result : Result T schema.SchemaError) (new r : Resolved) (es fs : List Emission) (err : schema.SchemaError) → IsErrAnd result (λ e. e ≡ err) → ErrorOf (take_all r es) err → Gives (take_all r (es ++ fs)) result new
gives-stopped result new r es fs err h k =
    let p = err_from_is_err_and result h in
    rw (p.1, p.2) (error-append r es fs err k)

pub take_all-both : (r s t : Resolved) (es fs : List Emission) → take_all r es ≡ resolved s → take_all s fs ≡ resolved t → take_all r (es ++ fs) ≡ resolved t
take_all-both r s t es fs h k = take_all-append r es fs ∙ ap (λ (o : Outcome). next o (λ s. take_all s fs)) h ∙ k

-- the exit of a `?`
pub gives-exit : {T : Type 0} (result : Result T schema.SchemaError) (new : Resolved) (o : Outcome) (err : schema.SchemaError) → IsErrAnd result (λ e. e ≡ err) → ErrorOf o err → Gives o result new
gives-exit result new o err h k =
    let p = err_from_is_err_and result h in
    rw (p.1, p.2) k

-- what the calls of a resolution take in
pub taken-field : (r s : Resolved) (f : FieldView) → IsAdded r f s → take_in r (a_field f) ≡ resolved s
unfolding take_in
taken-field r s f h = ap (λ (o : Option FieldView). with_known o r f) h.fresh ∙ ap resolved (sym h.after)

pub refused-field : (r : Resolved) (f : FieldView) (err : schema.SchemaError) → IsRefusalOf r.fields f err → ErrorOf (take_in r (a_field f)) err
unfolding take_in
refused-field r f OutOfMemory h = tt
refused-field r f (DuplicateField d) h = go (finite.get r.fields (key_of_field f)) h.taken
  where
    go : (o : Option FieldView) → IsSomeAnd o (λ g. g.path ≡ d.first_path) → with_known o r f ≡ duplicate (duplicate_view d)
    go None k = absurd k
    go (Some g) k = λ i. duplicate record { name = sym h.same_name i; first_path = k i; second_path = sym h.same_path i }

pub taken-paths : (r s : Resolved) (ps : KeyPaths) → s ≡ with_key_paths r ps → take_in r (some_key_paths ps) ≡ resolved s
unfolding take_in
taken-paths r s ps h = ap resolved (sym h)

pub taken-selection : (r s : Resolved) (p : Selection) → s ≡ with_selection r p → take_in r (a_selection p) ≡ resolved s
unfolding take_in
taken-selection r s p h = ap resolved (sym h)

pub taken-catch_all : (r s : Resolved) (f : FieldView) → s ≡ with_catch_all r f.category f → take_in r (a_catch_all f) ≡ resolved s
unfolding take_in
taken-catch_all r s f h = ap resolved (sym h)

-- a field, and then key paths
pub taken-field_and_paths : (r s t : Resolved) (f : FieldView) (ps : KeyPaths) → IsAdded r f s → t ≡ with_key_paths s ps → take_all r (a_field f ∷ some_key_paths ps ∷ []) ≡ resolved t
taken-field_and_paths r s t f ps h k =
    take_all-next r s (a_field f) (some_key_paths ps ∷ []) (taken-field r s f h) ∙ take_all-one s (some_key_paths ps) ∙ taken-paths s t ps k

-- a field with the key path of its name, and then those behind the name
pub taken-named_field : (r u t : Resolved) (f : FieldView) (name : Name) (ps : KeyPaths) → f.name ≡ name → finite.get r.fields (key_of_field f) ≡ None → u ≡ with_key_path (with_field r f) (f.name ∷ [])
    → t ≡ with_paths_behind u (name ∷ []) ps → take_all r (a_field f ∷ some_key_paths (named name ps) ∷ []) ≡ resolved t
taken-named_field r u t f name ps same fresh after behind =
    let s = with_field r f in
    taken-field_and_paths r s t f (named name ps) (record { fresh = fresh; after = refl })
    (behind
    ∙ ap (λ (v : Resolved). with_paths_behind v (name ∷ []) ps) (after ∙ ap (λ (n : Name). with_key_path s (n ∷ [])) same)
    ∙ sym (with_key_paths-insert s (behind_prefix (name ∷ []) ps) (name ∷ [])))

-- a field that is refused, before key paths
pub refused-field_and_paths : {T : Type 0} (result : Result T schema.SchemaError) (new r : Resolved) (f : FieldView) (ps : KeyPaths) (err : schema.SchemaError) → IsErrAnd result (λ e. e ≡ err) → IsRefusalOf r.fields f err
    → Gives (take_all r (a_field f ∷ some_key_paths ps ∷ [])) result new
refused-field_and_paths result new r f ps err h k =
    gives-exit result new (take_all r (a_field f ∷ some_key_paths ps ∷ [])) err h (error-next r (a_field f) (some_key_paths ps ∷ []) err (refused-field r f err k))

pub ruleset takes = (take_all-nil, take_all-one, take_all-next, take_all-stop)

-- ---- emissions taken in one by one come to their resolution, or to a duplicate key
-- an item of the first of two lists
get_left : {X : Type 0} (xs ys : List X) (k : ℕ) (x : X) → slice_get xs k ≡ Some x → slice_get (xs ++ ys) k ≡ Some x
get_left [] ys k x h = absurd (cc)
get_left (y ∷ xs) ys zero x h = h
get_left (y ∷ xs) ys (suc k) x h = get_left xs ys k x h

-- an item between two lists
get_mid : {X : Type 0} (xs ys : List X) (x : X) → slice_get (xs ++ x ∷ ys) (length xs) ≡ Some x
get_mid [] ys x = refl
get_mid (y ∷ xs) ys x = get_mid xs ys x

-- an item after a push is an earlier one or the one pushed
pub get_push : {X : Type 0} (xs : List X) (x y : X) (k : ℕ) → slice_get (xs ++ x ∷ []) k ≡ Some y → (slice_get xs k ≡ Some y) ⊎ ((k ≡ length xs) × (x ≡ y))
get_push [] x y zero h = inr (refl, cc)
get_push [] x y (suc k) h = absurd (cc)
get_push (z ∷ xs) x y zero h = inl h
get_push (z ∷ xs) x y (suc k) h = elim (get_push xs x y k h) [ inl e ↦ inl e | inr e ↦ inr (ap suc e.0, e.1) ]

-- a field was emitted with this key
record Emitted (es : List Emission) (k : Key) (g : FieldView) : Type 0 where
  index : ℕ
  there : slice_get es index ≡ Some (a_field g)
  by_key : key_of_field g ≡ k

-- r is what the emissions put together, and no two of them are duplicates
record IsDone (done : List Emission) (r : Resolved) : Type 0 where
  is : r ≡ fold with_emission nothing done
  held : (k : Key) (g : FieldView) → finite.get r.fields k ≡ Some g → Emitted done k g
  missing : (k : Key) (g : FieldView) → finite.get r.fields k ≡ None → Emitted done k g → ⊥
  free : HasNoDuplicates done

no_duplicates-nil : HasNoDuplicates []
no_duplicates-nil f g k = let h = k.first_is in absurd (cc)

nothing_done : IsDone [] nothing
nothing_done = record {
  is = refl;
  held = λ k g h. absurd (let none = finite.get-empty {X = FieldView} key_cmp k in cc);
  missing = λ k g h e. let there = e.there in absurd (cc);
  free = no_duplicates-nil;
}

later : (done : List Emission) (e : Emission) (k : Key) (g : FieldView) → Emitted done k g → Emitted (done ++ e ∷ []) k g
later done e k g h = record { index = h.index; there = get_left done (e ∷ []) h.index _ h.there; by_key = h.by_key }

-- what was emitted after one more was emitted before, or is the one
split : (done : List Emission) (e : Emission) (k : Key) (g : FieldView) → Emitted (done ++ e ∷ []) k g → Emitted done k g ⊎ (e ≡ a_field g)
split done e k g h = elim (get_push done e (a_field g) h.index h.there) [
  | inl a ↦ inl record { index = h.index; there = a; by_key = h.by_key }
  | inr a ↦ inr a.1
]

-- a duplicate key after one more was one before, or is with the one
duplicates-split : (done : List Emission) (e : Emission) (f g : FieldView) → AreDuplicates (done ++ e ∷ []) f g → AreDuplicates done f g ⊎ ((e ≡ a_field g) × Emitted done (key_of_field g) f)
duplicates-split done e f g k =
    elim (get_push done e (a_field f) k.first_at k.first_is) [
      | inl a ↦ elim (get_push done e (a_field g) k.second_at k.second_is) [
        | inl b ↦ inl record { first_at = k.first_at; second_at = k.second_at; in_order = k.in_order; first_is = a; second_is = b; same_key = k.same_key }
        | inr b ↦ inr (b.1, record { index = k.first_at; there = a; by_key = k.same_key })
      ]
      | inr a ↦ elim (get_push done e (a_field g) k.second_at k.second_is) [
        | inl b ↦ (let lt = slice_get_within done k.second_at (a_field g) b in let o = k.in_order in let e = a.0 in absurd (omega arith))
        | inr b ↦ (let o = k.in_order in let e = a.0 in let d = b.0 in absurd (omega arith))
      ]
    ]

is-push : (done : List Emission) (r : Resolved) (e : Emission) → r ≡ fold with_emission nothing done → with_emission r e ≡ fold with_emission nothing (done ++ e ∷ [])
is-push done r e h = ap (λ (r : Resolved). with_emission r e) h ∙ sym (fold-append with_emission nothing done (e ∷ []))

-- one more that is no field
done-other : (done : List Emission) (r : Resolved) (e : Emission) → IsDone done r → (with_emission r e).fields ≡ r.fields → ((f : FieldView) → e ≡ a_field f → ⊥) → IsDone (done ++ e ∷ []) (with_emission r e)
done-other done r e d same other = record {
  is = is-push done r e d.is;
  held = λ k g h. later done e k g (d.held k g (ap (λ (m : finite.FinMap key_cmp FieldView). finite.get m k) (sym same) ∙ h));
  missing = λ k g h x. elim (split done e k g x) [ inl a ↦ d.missing k g (ap (λ (m : finite.FinMap key_cmp FieldView). finite.get m k) (sym same) ∙ h) a | inr a ↦ other g a ];
  free = λ f g k. elim (duplicates-split done e f g k) [ inl a ↦ d.free f g a | inr a ↦ other g a.0 ];
}

-- one more field, whose key is free
done-field : (done : List Emission) (r : Resolved) (f : FieldView) → IsDone done r → finite.get r.fields (key_of_field f) ≡ None → IsDone (done ++ a_field f ∷ []) (with_field r f)
done-field done r f d fresh = record {
  is = is-push done r (a_field f) d.is;
  held = λ k g h. found k g (eq_by_cmp key_cmp k (key_of_field f)) refl (sym (put k) ∙ h);
  missing = λ k g h x. lost k g x (eq_by_cmp key_cmp k (key_of_field f)) refl (sym (put k) ∙ h);
  free = λ g h k. elim (duplicates-split done (a_field f) g h k) [ inl a ↦ d.free g h a | inr a ↦ (let same : f ≡ h = cc in d.missing (key_of_field f) g fresh (subst (λ (x : FieldView). Emitted done (key_of_field x) g) (sym same) a.1)) ];
}
  where
    put : (k : Key) → finite.get (finite.insert r.fields (key_of_field f) f) k ≡ cond (eq_by_cmp key_cmp k (key_of_field f)) (Some f) (finite.get r.fields k)
    put k = finite.get-insert key_cmp_total r.fields (key_of_field f) f k

    found : (k : Key) (g : FieldView) (b : Bool) → eq_by_cmp key_cmp k (key_of_field f) ≡ b → cond b (Some f) (finite.get r.fields k) ≡ Some g → Emitted (done ++ a_field f ∷ []) k g
    found k g true e h =
        let same : f ≡ g = cc in record {
          index = length done;
          there = get_mid done [] (a_field f) ∙ ap (λ (x : FieldView). Some (a_field x)) same;
          by_key = ap key_of_field (sym same) ∙ sym (key_cmp_same k (key_of_field f) (equal (key_cmp k (key_of_field f)) e));
        }
    found k g false e h = later done (a_field f) k g (d.held k g h)

    lost : (k : Key) (g : FieldView) → Emitted (done ++ a_field f ∷ []) k g → (b : Bool) → eq_by_cmp key_cmp k (key_of_field f) ≡ b → cond b (Some f) (finite.get r.fields k) ≡ None → ⊥
    lost k g x true e h = absurd (cc)
    lost k g x false e h = elim (split done (a_field f) k g x) [
      | inl a ↦ d.missing k g h a
      | inr a ↦ (let same : f ≡ g = cc in false≢true (sym e ∙ ap (eq_by_cmp key_cmp k) (ap key_of_field same ∙ x.by_key) ∙ (eq_by_cmp_equiv key_cmp_total).refl k))
    ]

-- one more that is taken in
push : (done : List Emission) (q r : Resolved) (e : Emission) → IsDone done q → take_in q e ≡ resolved r → IsDone (done ++ e ∷ []) r
unfolding take_in with_key_paths
push done q r (a_field f) d h = go (finite.get q.fields (key_of_field f)) refl h
  where
    go : (o : Option FieldView) → finite.get q.fields (key_of_field f) ≡ o → with_known o q f ≡ resolved r → IsDone (done ++ a_field f ∷ []) r
    go None e h = let same : with_field q f ≡ r = cc in subst (IsDone (done ++ a_field f ∷ [])) same (done-field done q f d e)
    go (Some g) e h = absurd (cc)
push done q r (some_key_paths p) d h =
    let same : with_emission q (some_key_paths p) ≡ r = cc in
    subst (IsDone (done ++ some_key_paths p ∷ [])) same (done-other done q (some_key_paths p) d refl (λ f e. absurd (cc)))
push done q r (a_selection p) d h =
    let same : with_emission q (a_selection p) ≡ r = cc in
    subst (IsDone (done ++ a_selection p ∷ [])) same (done-other done q (a_selection p) d refl (λ f e. absurd (cc)))
push done q r (a_catch_all f) d h =
    let same : with_emission q (a_catch_all f) ≡ r = cc in
    subst (IsDone (done ++ a_catch_all f ∷ [])) same (done-other done q (a_catch_all f) d refl (λ f e. absurd (cc)))

-- one that is refused
record IsRefused (done : List Emission) (e : Emission) (d : Duplicate) : Type 0 where
  first : FieldView
  second : FieldView
  emitted : e ≡ a_field second
  before : Emitted done (key_of_field second) first
  names : d ≡ record { name = second.name; first_path = first.path; second_path = second.path }

refused : (done : List Emission) (q : Resolved) (e : Emission) (d : Duplicate) → IsDone done q → take_in q e ≡ duplicate d → IsRefused done e d
unfolding take_in
refused done q (a_field f) d x h = go (finite.get q.fields (key_of_field f)) refl h
  where
    go : (o : Option FieldView) → finite.get q.fields (key_of_field f) ≡ o → with_known o q f ≡ duplicate d → IsRefused done (a_field f) d
    go None e h = absurd (cc)
    go (Some g) e h = record { first = g; second = f; emitted = refl; before = x.held (key_of_field f) g e; names = cc }
refused done q (some_key_paths p) d x h = absurd (cc)
refused done q (a_selection p) d x h = absurd (cc)
refused done q (a_catch_all f) d x h = absurd (cc)

-- emissions without duplicate keys, and what they put together
pub record Built (es : List Emission) (r : Resolved) : Type 0 where
  pub is : r ≡ resolution_from es
  pub free : HasNoDuplicates es

-- emissions with duplicate keys, and what a refusal says of it
pub record HasDuplicates (es : List Emission) (d : Duplicate) : Type 0 where
  pub first : FieldView
  pub second : FieldView
  pub duplicates : AreDuplicates es first second
  pub names : d ≡ record { name = second.name; first_path = first.path; second_path = second.path }

built_from : (done es : List Emission) (q r : Resolved) → IsDone done q → take_all q es ≡ resolved r → Built (done ++ es) r
unfolding take_all resolution_from
built_from done [] q r d h =
    let same : q ≡ r = cc in
    record { is = sym same ∙ d.is ∙ ap (fold with_emission nothing) (sym (append-nil done)); free = subst HasNoDuplicates (sym (append-nil done)) d.free }
built_from done (e ∷ es) q r d h = go (take_in q e) refl h (λ s k. built_from (done ++ e ∷ []) es s r k)
  where
    go : (o : Outcome) → take_in q e ≡ o → next o (λ s. take_all s es) ≡ resolved r → ((s : Resolved) → IsDone (done ++ e ∷ []) s → take_all s es ≡ resolved r → Built ((done ++ e ∷ []) ++ es) r) → Built (done ++ e ∷ es) r
    go (resolved s) is k rest = subst (λ (xs : List Emission). Built xs r) (append_assoc done (e ∷ []) es) (rest s (push done q s e d is) k)
    go (duplicate d) is k rest = absurd (cc)

has_duplicates_from : (done es : List Emission) (q : Resolved) (d : Duplicate) → IsDone done q → take_all q es ≡ duplicate d → HasDuplicates (done ++ es) d
unfolding take_all
has_duplicates_from done [] q d x h = absurd (cc)
has_duplicates_from done (e ∷ es) q d x h = go (take_in q e) refl h (λ s k. has_duplicates_from (done ++ e ∷ []) es s d k)
  where
    go : (o : Outcome) → take_in q e ≡ o → next o (λ s. take_all s es) ≡ duplicate d → ((s : Resolved) → IsDone (done ++ e ∷ []) s → take_all s es ≡ duplicate d → HasDuplicates ((done ++ e ∷ []) ++ es) d) → HasDuplicates (done ++ e ∷ es) d
    go (resolved s) is k rest = subst (λ (xs : List Emission). HasDuplicates xs d) (append_assoc done (e ∷ []) es) (rest s (push done q s e x is) k)
    go (duplicate d') is k rest =
        let same : d' ≡ d = cc in
        let r = refused done q e d' x is in
        record {
          first = r.first;
          second = r.second;
          duplicates = record {
            first_at = r.before.index;
            second_at = length done;
            in_order = slice_get_within done r.before.index (a_field r.first) r.before.there;
            first_is = get_left done (e ∷ es) r.before.index _ r.before.there;
            second_is = get_mid done es e ∙ ap (λ (x : Emission). Some x) r.emitted;
            same_key = r.before.by_key;
          };
          names = sym same ∙ r.names;
        }

-- all emissions taken in
pub built : (es : List Emission) (r : Resolved) → take_all nothing es ≡ resolved r → Built es r
built es r h = built_from [] es nothing r nothing_done h

-- and where that stops
pub has_duplicates : (es : List Emission) (d : Duplicate) → take_all nothing es ≡ duplicate d → HasDuplicates es d
has_duplicates es d h = has_duplicates_from [] es nothing d nothing_done h

-- ---- the names that emissions require
-- a field whose key is free contributes its name where it is required
added_names : (q : Resolved) (f : FieldView) → finite.get q.fields (key_of_field f) ≡ None → AreRequiredNames q.fields q.required_names
    → AreRequiredNames (with_field q f).fields (with_field q f).required_names
added_names q f fresh are = go f.is_required refl
  where
    go : (b : Bool) → f.is_required ≡ b → AreRequiredNames (finite.insert q.fields (key_of_field f) f) (cond b (set.insert q.required_names f.name) q.required_names)
    go true required = names_put q.fields f fresh q.required_names required are
    go false optional = names_kept q.fields f fresh q.required_names optional are

names_from : (done es : List Emission) (q : Resolved) → IsDone done q → AreRequiredNames q.fields q.required_names → HasNoDuplicates (done ++ es)
    → AreRequiredNames (fold with_emission q es).fields (fold with_emission q es).required_names
unfolding with_key_paths
names_from done [] q d are free = are
names_from done (a_field f ∷ es) q d are free =
    go (finite.get q.fields (key_of_field f)) refl
    (λ fresh. names_from (done ++ a_field f ∷ []) es (with_field q f) (done-field done q f d fresh) (added_names q f fresh are)
    (subst HasNoDuplicates (sym (append_assoc done (a_field f ∷ []) es)) free))
  where
    later : Type 0
    later = AreRequiredNames (fold with_emission (with_field q f) es).fields (fold with_emission (with_field q f) es).required_names

    go : (o : Option FieldView) → finite.get q.fields (key_of_field f) ≡ o → (finite.get q.fields (key_of_field f) ≡ None → later) → later
    go None fresh rest = rest fresh
    go (Some g) there rest =
        let before = d.held (key_of_field f) g there in
        absurd (free g f record {
          first_at = before.index;
          second_at = length done;
          in_order = slice_get_within done before.index (a_field g) before.there;
          first_is = get_left done (a_field f ∷ es) before.index _ before.there;
          second_is = get_mid done es (a_field f);
          same_key = before.by_key;
        })
names_from done (some_key_paths p ∷ es) q d are free =
    names_from (done ++ some_key_paths p ∷ []) es (with_emission q (some_key_paths p)) (done-other done q (some_key_paths p) d refl (λ f e. absurd (cc))) are
    (subst HasNoDuplicates (sym (append_assoc done (some_key_paths p ∷ []) es)) free)
names_from done (a_selection p ∷ es) q d are free =
    names_from (done ++ a_selection p ∷ []) es (with_emission q (a_selection p)) (done-other done q (a_selection p) d refl (λ f e. absurd (cc))) are
    (subst HasNoDuplicates (sym (append_assoc done (a_selection p ∷ []) es)) free)
names_from done (a_catch_all f ∷ es) q d are free =
    names_from (done ++ a_catch_all f ∷ []) es (with_emission q (a_catch_all f)) (done-other done q (a_catch_all f) d refl (λ g e. absurd (cc))) are
    (subst HasNoDuplicates (sym (append_assoc done (a_catch_all f ∷ []) es)) free)

-- where no two fields are duplicates, the required names are those of the required fields
pub required_names : (es : List Emission) → HasNoDuplicates es → AreRequiredNames (resolution_from es).fields (resolution_from es).required_names
unfolding resolution_from
required_names es free = names_from [] es nothing nothing_done nothing_required free
