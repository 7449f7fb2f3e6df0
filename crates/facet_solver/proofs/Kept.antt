-- What the entry of a key says of the candidates.
use Rattle.std.proofs.Common.{◌≡◌, ℕ, ◌<◌, ◌≤◌, Bool, true, false, cond, not, nat_eq, List, [], ◌∷◌, Option, Some, None, MatchOption, All, filter, length, map, refl, ap, sym, ◌∙◌, subst, arith}
use Rattle.std.specs.List.{AllByRecursion, cons_option, filter_map}
use Rattle.std.specs.Option.{option_and_then, is_some}
use Rattle.std.proofs.lemmas.Bool.Decides.{Decides-eqb}
use Rattle.std.proofs.lemmas.List.Elements.{All-filter}
use Rattle.std.proofs.lemmas.List.Filters.{length-filter_both}
use Rattle.std.proofs.lemmas.Option.{slice_get_past}
use Rattle.std.specs.BTreeSet.{insert_key}
use Rattle.facet_solver_shape.specs.Keys.{Key, key_cmp, key_of}
use Rattle.facet_solver_shape.specs.contracts.resolution.key.FieldKeyOrd.TheImpl as key_order
use Rattle.facet_solver_shape.specs.declared.resolution.key.FieldKey.{FieldKey}
use Rattle.facet_solver_shape.specs.Fields.{FieldView}
use Rattle.facet_solver_shape.specs.Resolved.{Resolved, field_by_key}
use Rattle.facet_solver.specs.set.IndexSet.{HowMany, no_index, one_index, several_indices, how_many, IndexSet, has_index}
use Rattle.facet_solver.specs.schema.Indexed.{AgreesOn, Differs, IsIndexEntry}
use Rattle.facet_solver.specs.solver.FirstOfEach.{first_of_each}
use Rattle.facet_solver.specs.solver.KeyResult.{HaveShape, unambiguous, unknown, solved_or, distinct_fields, fields_by_key, key_result, of_fields, with_score}
use Rattle.facet_solver.specs.Resolutions.{field_at, has_key, passes}
use Rattle.facet_solver.specs.schema.Schema.{SchemaView}
use Rattle.facet_solver.specs.solver.State.{State, or_all, passing, see_key}
use Rattle.facet_solver.specs.build.Build.{Catalogue}
use Rattle.facet_solver.specs.declared.schema.index.entry.Entry.{Entry}
use Rattle.facet_solver.proofs.IndexSet.{has_passing, none_of_none}
use Rattle.facet_solver.proofs.LookUps.{has_field}
use Rattle.facet_solver.proofs.State.{seen_with}

absent_past : (key : Key) (rs : List Resolved) (i : ℕ) → length rs ≤ i → is_some (field_at key rs i) ≡ false
absent_past key rs i past = ap (λ o. is_some (option_and_then (field_by_key key) o)) (slice_get_past rs i past)

-- the members of an entry are the resolutions in which a field is meant
pub members_mean : (key : Key) (rs : List Resolved) (entry : Entry) → IsIndexEntry (length rs) (field_at key rs) entry → (i : ℕ) → has_index entry.set.members i ≡ is_some (field_at key rs i)
members_mean key rs entry is i =
    ap (λ (s : IndexSet). has_index s.members i) is.set ∙ has_passing (λ j. is_some (field_at key rs j)) (length rs) i (absent_past key rs)

-- so they are the resolutions that have the key
pub members_pass : (key : Key) (rs : List Resolved) (entry : Entry) → IsIndexEntry (length rs) (field_at key rs) entry → (xs : List ℕ) → filter (has_index entry.set.members) xs ≡ filter (passes (has_key key) rs) xs
members_pass key rs entry is xs = ap (λ p. filter p xs) (λ j i. (members_mean key rs entry is i ∙ has_field key rs i) j)

cases_of : {X : Type 0} (h : ℕ → Option X) (x : ℕ) (fs : List X) (xs : List ℕ) (o : Option X) → h x ≡ o → filter_map h xs ≡ fs
    → filter_map h (cond (is_some o) (x ∷ xs) xs) ≡ cons_option o fs
cases_of h x fs xs None e same = same
cases_of h x fs xs (Some y) e same = ap (λ o. cons_option o (filter_map h xs)) e ∙ ap (λ ys. y ∷ ys) same

-- numbers that give nothing may be left out
pub fields_kept : {X : Type 0} (h : ℕ → Option X) (q : ℕ → Bool) → ((i : ℕ) → q i ≡ is_some (h i)) → (xs : List ℕ) → filter_map h (filter q xs) ≡ filter_map h xs
fields_kept h q same [] = refl
fields_kept h q same (x ∷ xs) =
    ap (λ b. filter_map h (cond b (x ∷ filter q xs) (filter q xs))) (same x)
    ∙ cases_of h x (filter_map h xs) (filter q xs) (h x) refl (fields_kept h q same xs)

-- the fields of the candidates that the entry has
fields_of_kept : (key : Key) (s : State) (entry : Entry) → IsIndexEntry (length s.schema.resolutions) (field_at key s.schema.resolutions) entry
    → fields_by_key key s.schema.resolutions (filter (has_index entry.set.members) s.candidates) ≡ fields_by_key key s.schema.resolutions s.candidates
fields_of_kept key s entry is = fields_kept (field_at key s.schema.resolutions) (has_index entry.set.members) (members_mean key s.schema.resolutions entry is) s.candidates

-- the answer by the candidates that the entry has
pub result_by : (key : Key) (s : State) (entry : Entry) → IsIndexEntry (length s.schema.resolutions) (field_at key s.schema.resolutions) entry → (kept : List ℕ)
    → kept ≡ filter (has_index entry.set.members) s.candidates
    → solved_or (of_fields (distinct_fields key s.schema kept)) (how_many kept) ≡ key_result key s
result_by key s entry is kept kept_is =
    let rs = s.schema.resolutions in
    let shown : List FieldView → List (FieldView × ℕ) = λ fs. map (with_score s.schema.build.catalogue) (first_of_each (λ (f : FieldView). f.shape) fs) in
    (λ j. solved_or (of_fields (shown ((ap (fields_by_key key rs) kept_is ∙ fields_of_kept key s entry is) j))) (how_many ((kept_is ∙ members_pass key rs entry is s.candidates) j)))

-- and how many they are
pub kept_count : (key : Key) (s : State) (entry : Entry) → IsIndexEntry (length s.schema.resolutions) (field_at key s.schema.resolutions) entry → (kept : List ℕ)
    → kept ≡ filter (has_index entry.set.members) s.candidates → length kept ≡ length (passing (has_key key) s)
kept_count key s entry is kept kept_is = ap length (kept_is ∙ members_pass key s.schema.resolutions entry is s.candidates)

-- fields of one shape
all_shape : (h : ℕ → Option FieldView) (shape : ℕ) → ((i : ℕ) (f : FieldView) → h i ≡ Some f → f.shape ≡ shape) → (xs : List ℕ) → AllByRecursion (λ (f : FieldView). f.shape ≡ shape) (filter_map h xs)
all_shape h shape each [] = tt
all_shape h shape each (x ∷ xs) = go (h x) refl (all_shape h shape each xs)
  where
    go : (o : Option FieldView) → h x ≡ o → AllByRecursion (λ (f : FieldView). f.shape ≡ shape) (filter_map h xs) → AllByRecursion (λ (f : FieldView). f.shape ≡ shape) (cons_option o (filter_map h xs))
    go None e later = later
    go (Some f) e later = (each x f e, later)

filter_each : (p : FieldView → Bool) (shape : ℕ) (fs : List FieldView) → AllByRecursion (λ (f : FieldView). f.shape ≡ shape) fs → AllByRecursion (λ (f : FieldView). f.shape ≡ shape) (filter p fs)
filter_each p shape [] all = tt
filter_each p shape (f ∷ fs) all = go (p f) (filter_each p shape fs all.1)
  where
    go : (b : Bool) → AllByRecursion (λ (g : FieldView). g.shape ≡ shape) (filter p fs) → AllByRecursion (λ (g : FieldView). g.shape ≡ shape) (cond b (f ∷ filter p fs) (filter p fs))
    go true later = (all.0, later)
    go false later = later

firsts_each : (shape : ℕ) (fs : List FieldView) → AllByRecursion (λ (f : FieldView). f.shape ≡ shape) fs → AllByRecursion (λ (f : FieldView). f.shape ≡ shape) (first_of_each (λ (f : FieldView). f.shape) fs)
firsts_each shape [] all = tt
firsts_each shape (f ∷ fs) all = (all.0, filter_each (λ g. not (nat_eq g.shape f.shape)) shape (first_of_each (λ (f : FieldView). f.shape) fs) (firsts_each shape fs all.1))

none_other : (f : FieldView) (shape : ℕ) (fs : List FieldView) → f.shape ≡ shape → AllByRecursion (λ (g : FieldView). g.shape ≡ shape) fs → filter (λ g. not (nat_eq g.shape f.shape)) fs ≡ []
none_other f shape [] here all = refl
none_other f shape (g ∷ fs) here all =
    ap (λ b. cond (not b) (g ∷ filter (λ e. not (nat_eq e.shape f.shape)) fs) (filter (λ e. not (nat_eq e.shape f.shape)) fs)) ((Decides-eqb g.shape f.shape).1 (all.0 ∙ sym here))
    ∙ none_other f shape fs here all.1

one_shape : (cat : Catalogue) (shape : ℕ) (fs : List FieldView) → AllByRecursion (λ (f : FieldView). f.shape ≡ shape) fs → (fs ≡ [] → ⊥) → of_fields (map (with_score cat) (first_of_each (λ (f : FieldView). f.shape) fs)) ≡ unambiguous shape
one_shape cat shape [] all some = absurd (some refl)
one_shape cat shape (f ∷ fs) all some =
    ap (λ rest. of_fields (map (with_score cat) (f ∷ rest))) (none_other f shape (first_of_each (λ (f : FieldView). f.shape) fs) all.0 (firsts_each shape fs all.1)) ∙ ap (λ n. unambiguous n) all.0

-- where the resolutions of the entry agree on the shape, it is the answer
pub result_agreed : (key : Key) (schema : SchemaView) (entry : Entry) (shape first second : ℕ) (rest : List ℕ) → entry.shape ≡ Some shape → IsIndexEntry (length schema.resolutions) (field_at key schema.resolutions) entry
    → has_index entry.set.members first ≡ true
    → unambiguous shape ≡ solved_or (of_fields (distinct_fields key schema (first ∷ second ∷ rest))) (how_many (first ∷ second ∷ rest))
result_agreed key schema entry shape first second rest shape_is is member =
    let at = field_at key schema.resolutions in
    let one : AgreesOn shape at = subst (λ o. MatchOption o (Differs at) (λ n. AgreesOn n at)) shape_is is.shape in
    sym (one_shape schema.build.catalogue shape (filter_map at (first ∷ second ∷ rest)) (all_shape at shape one.all (first ∷ second ∷ rest))
    (go (at first) (sym (members_mean key schema.resolutions entry is first) ∙ member)))
  where
    go : (o : Option FieldView) → is_some o ≡ true → cons_option o (filter_map (field_at key schema.resolutions) (second ∷ rest)) ≡ [] → ⊥
    go None e = cc
    go (Some f) e = λ none. cc

-- where the fields that a key means have one shape, its entry knows it
pub knows_shape : (key : Key) (resolutions : List Resolved) (entry : Entry) (shape : ℕ) → IsIndexEntry (length resolutions) (field_at key resolutions) entry
    → HaveShape shape key resolutions → entry.shape ≡ None → ⊥
knows_shape key resolutions entry shape is same unknown_shape =
    let at = field_at key resolutions in
    let two : Differs at = subst (λ o. MatchOption o (Differs at) (λ n. AgreesOn n at)) unknown_shape is.shape in
    two.apart (same two.first two.one two.one_present ∙ sym (same two.second two.other two.other_present))

-- the first number that is kept passes
pub first_kept : (q : ℕ → Bool) (xs : List ℕ) (first : ℕ) (rest : List ℕ) → filter q xs ≡ first ∷ rest → q first ≡ true
first_kept q [] first rest e = cc
first_kept q (x ∷ xs) first rest e = go (q x) refl e (first_kept q xs first rest)
  where
    go : (b : Bool) → q x ≡ b → cond b (x ∷ filter q xs) (filter q xs) ≡ first ∷ rest → (filter q xs ≡ first ∷ rest → q first ≡ true) → q first ≡ true
    go true passes same later =
        let head : x ≡ first = cc in
        ap q (sym head) ∙ passes
    go false fails same later = later same

-- and is below the bound of all
pub first_within : (bound : ℕ) (q : ℕ → Bool) (xs : List ℕ) (first : ℕ) (rest : List ℕ) → All (λ i. i < bound) xs → filter q xs ≡ first ∷ rest → first < bound
first_within bound q xs first rest each e =
    let all : All (λ i. i < bound) (first ∷ rest) = subst (All (λ i. i < bound)) e (All-filter q (λ i. i < bound) xs each) in
    all 0 0 (omega arith)

filter_nothing : (p : ℕ → Bool) → ((i : ℕ) → p i ≡ false) → (xs : List ℕ) → filter p xs ≡ []
filter_nothing p none [] = refl
filter_nothing p none (x ∷ xs) = ap (λ b. cond b (x ∷ filter p xs) (filter p xs)) (none x) ∙ filter_nothing p none xs

-- a key that no resolution has is unknown
pub unknown_key : (key : Key) (s : State) → ((i : ℕ) → field_at key s.schema.resolutions i ≡ None) → key_result key s ≡ unknown
unknown_key key s none =
    let nothing : passing (has_key key) s ≡ [] =
    filter_nothing (passes (has_key key) s.schema.resolutions) (λ i. sym (has_field key s.schema.resolutions i) ∙ ap is_some (none i)) s.candidates in
    ap (λ xs. solved_or (of_fields (distinct_fields key s.schema s.candidates)) (how_many xs)) nothing

results_known : (fields : List (FieldView × ℕ)) → of_fields fields ≡ unknown → ⊥
results_known [] e = cc
results_known (f ∷ []) e = cc
results_known (f ∷ g ∷ fs) e = cc

unknown_number : (fields : List (FieldView × ℕ)) (n : HowMany) → solved_or (of_fields fields) n ≡ unknown → n ≡ no_index
unknown_number fields no_index e = refl
unknown_number fields (one_index i) e = cc
unknown_number fields several_indices e = absurd (results_known fields e)

pub or_all_some : (xs all : List ℕ) → (xs ≡ [] → ⊥) → or_all xs all ≡ xs
or_all_some [] all some = absurd (some refl)
or_all_some (x ∷ xs) all some = refl

or_all_long : (xs all : List ℕ) → length xs ≤ length (or_all xs all)
or_all_long [] all = omega arith
or_all_long (x ∷ xs) all = omega arith

-- no more have the key than are left after it
pub left_long : (key : Key) (s : State) → length (passing (has_key key) s) ≤ length (see_key key s).candidates
left_long key s = or_all_long (passing (has_key key) s) s.candidates

-- nor than there are
pub passing_long : (key : Key) (s : State) → length (passing (has_key key) s) ≤ length s.candidates
passing_long key s =
    let p = passes (has_key key) s.schema.resolutions in
    omega (arith, length-filter_both p (λ i. not (p i)) (λ i. refl) s.candidates)

-- the candidates after a key that some of them have
pub left_known : (key : Key) (s : State) → (key_result key s ≡ unknown → ⊥) → passing (has_key key) s ≡ (see_key key s).candidates
left_known key s known =
    sym (or_all_some _ s.candidates (λ none. known (ap (λ xs. solved_or (of_fields (distinct_fields key s.schema s.candidates)) (how_many xs)) none)))

-- and after one that none of them has
pub left_unknown : (key : Key) (s : State) → key_result key s ≡ unknown → s.candidates ≡ (see_key key s).candidates
left_unknown key s e =
    sym (ap (λ xs. or_all xs s.candidates) (none_of_none _ (unknown_number (distinct_fields key s.schema s.candidates) (how_many (passing (has_key key) s)) e)))

-- from the parts of a state to the state
pub seen_from : (key : Key) (s : State) (cs : List ℕ) (ks : List FieldKey) (k : FieldKey) (keys : List FieldKey) → s.seen ≡ map key_of keys → key ≡ key_of k → cs ≡ (see_key key s).candidates → ks ≡ insert_key (key_order.ghosts).cmp keys k
    → record { schema = s.schema; candidates = cs; seen = map key_of ks } ≡ see_key key s
seen_from key s cs ks k keys seen_is key_is cs_are ks_are =
    let seen_now : map key_of ks ≡ insert_key key_cmp s.seen key =
    ap (map key_of) ks_are ∙ seen_with keys k ∙ (λ j. insert_key key_cmp (sym seen_is j) (sym key_is j)) in
    λ j. record { schema = s.schema; candidates = cs_are j; seen = seen_now j }
