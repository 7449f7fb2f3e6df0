-- The events of a document that fits a choice come to that choice, or name it.
use Rattle.std.proofs.Common.{◌≡◌, ℕ, zero, suc, ◌<◌, ◌≤◌, ◌+◌, Bool, true, false, cond, ◌&&◌, ◌||◌, not, List, [], ◌∷◌, ◌++◌, Some, Contains, arith, filter, length, refl, take, ap, sym, subst, ◌∙◌, ⊎_elim}
use Rattle.std.specs.Prelude.{IfOk, Result, Ok, Err, slice_get, nat_eq}
use Rattle.std.specs.FinMap as finite
use Rattle.std.specs.List.{AllZip, list_all, list_any, range_with_len}
use Rattle.std.proofs.lemmas.Bool.{and_from, cases_Bool, false≢true, or_cases, or_left, or_right}
use Rattle.std.proofs.lemmas.Bool.Decides.{Decides-eqb}
use Rattle.std.proofs.lemmas.Grind.{flat_map-append}
use Rattle.std.proofs.lemmas.List.{length_push, take_all}
use Rattle.std.proofs.lemmas.List.Folds.{list_any-append}
use Rattle.std.proofs.lemmas.Option.{none-some, same_Some, slice_get_within}
use Rattle.facet_solver.specs.Fields.{FieldView, matches}
use Rattle.facet_solver.specs.Keys.{Key, flat_key}
use Rattle.facet_solver.specs.Names.{Name}
use Rattle.facet_solver.specs.Resolved.{Resolved, description}
use Rattle.facet_solver.specs.Resolutions.{has_key, is_known, passes}
use Rattle.facet_solver.specs.build.Build.{Build}
use Rattle.facet_solver.specs.build.Choice.{IsResolution, ListsChoices, resolution_from}
use Rattle.facet_solver.specs.build.Emissions.{Emission}
use Rattle.facet_solver.specs.schema.ResolutionHandle.{IsHandleOf}
use Rattle.facet_solver.specs.schema.Schema.{IsOwnBuild, SchemaView}
use Rattle.facet_solver.specs.set.IndexSet.{has_index}
use Rattle.facet_solver.specs.solver.Report.{is_viable, viable}
use Rattle.facet_solver.specs.solver.State.{State, new_solver, see_key}
use Rattle.facet_solver.specs.declared.ResolutionHandle.{ResolutionHandle}
use Rattle.facet_solver.specs.solver.Told.{EndsWithOrNames, HasAllKnown, TellsChoice, has_keys, known_keys, see_keys}
use Rattle.facet_solver_uses.specs.stream.Documents.{Value, Members, scalar, text, object, list, no_members, member, parts_of, member_parts, told_document}
use Rattle.facet_solver_uses.specs.stream.Events.{IsFirstMisplaced, Reading, Streams, parts_from}
use Rattle.facet_solver_uses.specs.stream.Place.{beginning}
use Rattle.facet_solver_uses.specs.stream.Found.{FindsDocument, FindsOrNames, FindsRead, FitsDocument, keys_of_members}
use Rattle.facet_solver_uses.specs.declared.stream.event.Event.{Event}
use Rattle.facet_solver_uses.specs.declared.stream.event.Unread.{Unread}
use Rattle.facet_solver_uses.specs.declared.stream.event.Unread.TheVariants.{Misplaced}
use Rattle.facet_solver_uses.proofs.Documents.{not_misplaced, told_as_document, whole_document}
use Rattle.facet_solver_uses.proofs.Events.{reading_of, reads_all}
use Rattle.facet_solver_uses.proofs.Told.{Stands, schema_kept, all_told, seen_by, seen_by_all, seen_keys, stays, passes_at}

-- ---- the resolution of a choice
one_passes : (test : Resolved → Bool) (rs : List Resolved) → list_any test rs ≡ true → (i : ℕ) × (r : Resolved) × (slice_get rs i ≡ Some r) × (test r ≡ true)
one_passes test [] h = absurd (false≢true h)
one_passes test (r ∷ rs) h =
    ⊎_elim
    (λ here. (0, r, refl, here))
    (λ later. let k = one_passes test rs later in (suc k.0, k.1, k.2, k.3))
    (or_cases (test r) (list_any test rs) h)

-- what stands at one index of two lists that belong together
second_at : {A B : Type 0} (R : A → B → Type 0) (xs : List A) (ys : List B) (i : ℕ) (x : A) → AllZip R xs ys → slice_get xs i ≡ Some x → (y : B) × (slice_get ys i ≡ Some y) × R x y
second_at R [] ys i x zipped at = absurd (none-some x at)
second_at R (z ∷ xs) [] i x zipped at = absurd zipped
second_at R (z ∷ xs) (y ∷ ys) zero x zipped at = (y, refl, subst (λ w. R w y) (same_Some z x at) zipped.0)
second_at R (z ∷ xs) (y ∷ ys) (suc i) x zipped at = second_at R xs ys i x zipped.1 at

first_at : {A B : Type 0} (R : A → B → Type 0) (xs : List A) (ys : List B) (i : ℕ) (y : B) → AllZip R xs ys → slice_get ys i ≡ Some y → (x : A) × R x y
first_at R xs [] i y zipped at = absurd (none-some y at)
first_at R [] (z ∷ ys) i y zipped at = absurd zipped
first_at R (x ∷ xs) (z ∷ ys) zero y zipped at = (x, subst (R x) (same_Some z y at) zipped.0)
first_at R (x ∷ xs) (z ∷ ys) (suc i) y zipped at = first_at R xs ys i y zipped.1 at

-- a choice has one resolution
resolution_one : (build : Build) (root : ℕ) (c : List ℕ) (r s : Resolved) → IsResolution build root c r → IsResolution build root c s → r ≡ s
resolution_one build root c r s h k =
    let f : Some (h.emissions, []) ≡ Some (k.emissions, []) = sym h.emitted ∙ k.emitted in
    let p : (h.emissions, []) ≡ (k.emissions, []) = cc in
    h.put_together ∙ ap (λ (w : List Emission × List ℕ). resolution_from w.0) p ∙ sym k.put_together

has_known : (rs : List Resolved) (keys : List Key) (r : Resolved) → ((key : Key) → Contains keys key → is_known rs key ≡ true → has_key key r ≡ true) → has_keys (known_keys rs keys) r ≡ true
has_known rs [] r each = refl
has_known rs (x ∷ keys) r each =
    let later = has_known rs keys r (λ key at known. each key (suc at.0, omega (arith, at.1), at.2) known) in
    go (is_known rs x) refl later
  where
    go : (b : Bool) → is_known rs x ≡ b → has_keys (known_keys rs keys) r ≡ true → has_keys (cond b (x ∷ known_keys rs keys) (known_keys rs keys)) r ≡ true
    go true known later = and_from (has_key x r) (has_keys (known_keys rs keys) r) (each x (0, omega arith, refl) known) later
    go false absent later = later

-- told its keys, a choice has all that are known, and its resolution stands at its index
choice_has_known : ((build : Build) (root : ℕ) (cs ds : List (List ℕ)) → ListsChoices build root cs → ListsChoices build root ds → cs ≡ ds)
    → (schema : SchemaView) → IsOwnBuild schema → (choices : List (List ℕ)) → ListsChoices schema.build schema.root choices
    → (index : ℕ) (choice : List ℕ) → slice_get choices index ≡ Some choice
    → (keys : List Key) (r : Resolved) → TellsChoice schema.build schema.root choice keys r → HasAllKnown schema keys index r
choice_has_known one_list schema built choices listed index choice at keys r told =
    let rs = schema.resolutions in
    let Of : List ℕ → Resolved → Type 0 = IsResolution schema.build schema.root in
    let own = built.enumerates in
    let zipped : AllZip Of choices rs =
    subst (λ (cs : List (List ℕ)). AllZip Of cs rs) (one_list schema.build schema.root own.choices choices own.listed listed) own.resolved in
    let here = second_at Of choices rs index choice zipped at in
    record {
      present = here.1 ∙ ap (λ q. Some q) (resolution_one schema.build schema.root choice here.0 r here.2 told.resolved);
      has_known = has_known rs keys r (λ key among known.
          let one = one_passes (has_key key) rs known in
          let other = first_at Of choices rs one.0 one.1 zipped one.2 in
          told.has_known key among other.0 record { resolution = one.1; of_choice = other.1; has = one.3 });
    }

-- ---- which keys of a document are seen
mutual
  -- none below the first level
  deep_value : (path : List Name) (value : Value) → 1 < length path → seen_by_all (parts_of path value) ≡ []
  deep_value path (scalar shapes) low = refl
  deep_value [] (text bytes shapes) low = absurd (omega arith)
  deep_value (a ∷ []) (text bytes shapes) low = absurd (omega arith)
  deep_value (a ∷ b ∷ path) (text bytes shapes) low = refl
  deep_value path (object inner) low = deep_members path inner (omega arith)
  deep_value path (list items) low = refl

  deep_members : (path : List Name) (members : Members) → 0 < length path → seen_by_all (member_parts path members) ≡ []
  deep_members path no_members low = refl
  deep_members [] (member key value others) low = absurd (omega arith)
  deep_members (a ∷ path) (member key value others) low =
      let below = (a ∷ path) ++ key.now ∷ [] in
      flat_map-append seen_by (parts_of below value) (member_parts (a ∷ path) others)
      ∙ ap (λ (ks : List Key). ks ++ seen_by_all (member_parts (a ∷ path) others)) (deep_value below value (omega (arith, length_push (a ∷ path) key.now)))
      ∙ deep_members (a ∷ path) others low

module _ (p : Key → Bool) where
  again : (a b : Bool) → (a || ((a || false) || b)) ≡ (a || b)
  again true b = refl
  again false b = refl

  -- at the first level that of a text is seen again
  value_keys : (key : Name) (value : Value) (b : Bool) → (p (flat_key key) || (list_any p (seen_by_all (parts_of (key ∷ []) value)) || b)) ≡ (p (flat_key key) || b)
  value_keys key (scalar shapes) b = refl
  value_keys key (text bytes shapes) b = again (p (flat_key key)) b
  value_keys key (object members) b = ap (λ (ks : List Key). p (flat_key key) || (list_any p ks || b)) (deep_members (key ∷ []) members (omega arith))
  value_keys key (list items) b = refl

  -- so the keys that are seen are those of the members
  same_keys : (members : Members) → list_any p (seen_by_all (member_parts [] members)) ≡ list_any p (keys_of_members members)
  same_keys no_members = refl
  same_keys (member key value members) =
      let k = flat_key key.now in
      let inner = parts_of (key.now ∷ []) value in
      let others = member_parts [] members in
      ap (λ (ks : List Key). p k || list_any p ks) (flat_map-append seen_by inner others)
      ∙ ap (λ (b : Bool). p k || b) (list_any-append p (seen_by_all inner) (seen_by_all others))
      ∙ value_keys key.now value (list_any p (seen_by_all others))
      ∙ ap (λ (b : Bool). p k || b) (same_keys members)

-- whether a resolution has the known ones of some keys, by a test of each
by_test : (rs : List Resolved) (r : Resolved) (keys : List Key) → has_keys (known_keys rs keys) r ≡ not (list_any (λ key. is_known rs key && not (has_key key r)) keys)
by_test rs r [] = refl
by_test rs r (key ∷ keys) = go (is_known rs key) (has_key key r) (by_test rs r keys)
  where
    both : (a x b : Bool) → x ≡ not b → (a && x) ≡ not (not a || b)
    both true x b same = same
    both false x b same = refl

    go : (known has : Bool) → has_keys (known_keys rs keys) r ≡ not (list_any (λ key. is_known rs key && not (has_key key r)) keys)
        → has_keys (cond known (key ∷ known_keys rs keys) (known_keys rs keys)) r ≡ not ((known && not (has_key key r)) || list_any (λ key. is_known rs key && not (has_key key r)) keys)
    go true has later = both (has_key key r) (has_keys (known_keys rs keys) r) (list_any (λ key. is_known rs key && not (has_key key r)) keys) later
    go false has later = later

-- ---- the end
inside : (a n i : ℕ) → a ≤ i → i < a + n → has_index (range_with_len a n) i ≡ true
inside a zero i low high = absurd (omega arith)
inside a (suc n) i low high =
    ⊎_elim
    (λ here. or_left (nat_eq a i) (has_index (range_with_len (a + 1) n) i) here)
    (λ later. or_right (nat_eq a i) (has_index (range_with_len (a + 1) n) i)
    (inside (a + 1) n i (omega (arith, (λ (same : a ≡ i). false≢true (sym later ∙ (Decides-eqb a i).1 same)))) (omega arith)))
    (cases_Bool (nat_eq a i))

contains_has : (is : List ℕ) (i : ℕ) → has_index is i ≡ true → Contains is i
contains_has [] i h = absurd (false≢true h)
contains_has (j ∷ is) i h =
    ⊎_elim
    (λ here. (0, omega arith, (Decides-eqb j i).0 here))
    (λ later. let k = contains_has is i later in (suc k.0, omega arith, k.2))
    (or_cases (nat_eq j i) (has_index is i) h)

passes_of : (p : ℕ → Bool) (is : List ℕ) (i : ℕ) → Contains (filter p is) i → p i ≡ true
passes_of p [] i (k, low, same) = absurd (omega arith)
passes_of p (j ∷ is) i there = go (p j) refl (passes_of p is i) there
  where
    go : (b : Bool) → p j ≡ b → (Contains (filter p is) i → p i ≡ true) → Contains (cond b (j ∷ filter p is) (filter p is)) i → p i ≡ true
    go false is_not later among = later among
    go true is_one later (zero, low, same) = ap p (sym same) ∙ is_one
    go true is_one later (suc k, low, same) = later (k, omega arith, same)

keys_keep : (keys : List Key) (s : State) → (see_keys keys s).schema ≡ s.schema
keys_keep [] s = refl
keys_keep (key ∷ keys) s = keys_keep keys (see_key key s)

-- a document that fits a choice ends with it or names it
pub ends_with_choice : ((build : Build) (root : ℕ) (cs ds : List (List ℕ)) → ListsChoices build root cs → ListsChoices build root ds → cs ≡ ds)
    → ((schema : SchemaView) (keys : List Key) (index : ℕ) (r : Resolved) → HasAllKnown schema keys index r → is_viable keys r ≡ true → Contains (viable (see_keys keys (new_solver schema))) index)
    → ((s : State) (index : ℕ) (r : Resolved) → Contains (viable s) index → slice_get s.schema.resolutions index ≡ Some r → EndsWithOrNames s index (description r.selections))
    → (schema : SchemaView) → IsOwnBuild schema → (members : Members)
    → (choices : List (List ℕ)) → ListsChoices schema.build schema.root choices
    → (index : ℕ) (choice : List ℕ) → slice_get choices index ≡ Some choice
    → (r : Resolved) → FitsDocument schema choice r members
    → EndsWithOrNames (told_document schema members) index (description r.selections)
ends_with_choice one_list found named schema built members choices listed index choice at r fits =
    let rs = schema.resolutions in
    let firsts = keys_of_members members in
    let parts = member_parts [] members in
    let keys = seen_by_all parts in
    let new = new_solver schema in
    let s = told_document schema members in
    let seen : State = see_keys keys new in
    let of_choice = choice_has_known one_list schema built choices listed index choice at firsts r fits.keys in
    let known : has_keys (known_keys rs keys) r ≡ true =
    by_test rs r keys ∙ ap not (same_keys (λ key. is_known rs key && not (has_key key r)) members) ∙ sym (by_test rs r firsts) ∙ of_choice.has_known in
    let met : is_viable keys r ≡ true =
    (λ i. list_all (λ (f : FieldView). not f.is_required || same_keys (λ (key : Key). matches key f) members i) (finite.values r.fields)) ∙ fits.keys.has_required in
    let start : Stands index r new = record {
      among = inside 0 (length rs) index (omega arith) (omega (arith, slice_get_within rs index r of_choice.present));
      there = of_choice.present;
    } in
    let stands : Stands index r s = all_told index r parts new start known fits.parts in
    let by_keys = passes_of (passes (is_viable seen.seen) seen.schema.resolutions) seen.candidates index (found schema keys index r (record { present = of_choice.present; has_known = known }) met) in
    let there : slice_get seen.schema.resolutions index ≡ Some r = ap (λ (v : SchemaView). slice_get v.resolutions index) (keys_keep keys new) ∙ of_choice.present in
    let viable_by_keys : is_viable seen.seen r ≡ true = sym (passes_at (is_viable seen.seen) seen.schema.resolutions index r there) ∙ by_keys in
    let viable_now : is_viable s.seen r ≡ true = ap (λ (ks : List Key). is_viable ks r) (seen_keys parts new) ∙ viable_by_keys in
    named s index r
    (contains_has (viable s) index (stays (passes (is_viable s.seen) s.schema.resolutions) s.candidates index stands.among (passes_at (is_viable s.seen) s.schema.resolutions index r stands.there ∙ viable_now)))
    stands.there

-- so does a reader that has read its events
pub finds_read : ((build : Build) (root : ℕ) (cs ds : List (List ℕ)) → ListsChoices build root cs → ListsChoices build root ds → cs ≡ ds)
    → ((schema : SchemaView) (keys : List Key) (index : ℕ) (r : Resolved) → HasAllKnown schema keys index r → is_viable keys r ≡ true → Contains (viable (see_keys keys (new_solver schema))) index)
    → ((s : State) (index : ℕ) (r : Resolved) → Contains (viable s) index → slice_get s.schema.resolutions index ≡ Some r → EndsWithOrNames s index (description r.selections))
    → (reader : Reading) → IsOwnBuild reader.state.schema → (answer : Result ResolutionHandle Unread)
    → ((index : ℕ) (name : Name) → reader.place.frames ≡ [] → EndsWithOrNames reader.state index name → FindsOrNames reader.state index name answer)
    → FindsRead reader answer
finds_read one_list found named reader built answer ends = λ schema events is members come choices listed index choice at r fits.
    let name = description r.selections in
    let read : reader ≡ reading_of schema events = is ∙ reads_all schema events in
    let state : reader.state ≡ told_document schema members = ap (λ (r : Reading). r.state) read ∙ told_as_document schema events members come in
    let closed : reader.place.frames ≡ [] = ap (λ (r : Reading). r.place.frames) read ∙ (whole_document events (members, come)).1 in
    let own : IsOwnBuild schema =
    subst IsOwnBuild (ap (λ (s : State). s.schema) state ∙ schema_kept (member_parts [] members) (new_solver schema)) built in
    subst (λ (s : State). FindsOrNames s index name answer) state
    (ends index name closed (subst (λ (s : State). EndsWithOrNames s index name) (sym state)
    (ends_with_choice one_list found named schema own members choices listed index choice at r fits)))

-- also where the events were counted
pub finds_document : (schema : SchemaView) (events : List Event) (i : ℕ) (reader : Reading) (answer : Result ResolutionHandle Unread)
    → length events ≤ i → reader ≡ reading_of schema (take i events) → FindsRead reader answer → FindsDocument schema events answer
finds_document schema events i reader answer all is finds =
    finds schema events
    (is ∙ ap (λ (es : List Event). reading_of schema es) (take_all i events all) ∙ sym (reads_all schema events))

-- no event of a document is misplaced
pub finds_no_misplaced : (schema : SchemaView) (events : List Event) (index : ℕ) → IsFirstMisplaced events index → FindsDocument schema events (Err (Misplaced index))
finds_no_misplaced schema events index first = λ members come choices listed at choice there r fits. not_misplaced events index (members, come) first

-- a handle that streamed events come to is one of their schema
pub of_schema : (schema : SchemaView) (events : List Event) (answer : Result ResolutionHandle Unread) → Streams schema events answer → IfOk answer (IsHandleOf schema)
of_schema schema events (Ok handle) h = subst (λ (v : SchemaView). IsHandleOf v handle) (schema_kept (parts_from beginning events) (new_solver schema)) h.1.1
of_schema schema events (Err error) h = tt
