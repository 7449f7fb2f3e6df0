-- The counts of the readings of an object by lists of parts, as they are found one by one.
use Rattle.std.proofs.Common.{◌≡◌, sym, ap, ◌∙◌, subst, refl, ℕ, zero, suc, ◌<◌, ◌+◌, length}
use Rattle.std.proofs.Common.{get_or, List, [], ◌∷◌, Option, Some, None, Bool, true, false, not}
use Rattle.std.proofs.Common.{slice_get, drop, drop-cons, drop_of_length-le, if◌then◌else◌, take}
use Rattle.std.proofs.Common.{arith, ◌≤◌, ◌*◌, Result, Ok, Err, IfOk, max, ⊎_elim}
use Rattle.std.proofs.lemmas.Option.{get_or_from_slice_get, slice_get-get_or, slice_get_within}
use Rattle.std.proofs.lemmas.List.Folds.{Any-from_list_any}
use Rattle.std.proofs.lemmas.Slice.Eq.{bytes_eq-Decides}
use Rattle.std.specs.Str.{bytes_eq}
use Rattle.std.specs.List.{All, list_any}
use Rattle.facet_solver_shape.specs.Names.{Name}
use Rattle.facet_solver_reader.specs.declared.count.Count.{Count}
use Rattle.facet_solver_reader.specs.declared.count.Count.TheVariants.{None as NoReading}
use Rattle.facet_solver_reader.specs.declared.nodes.Nodes.{Nodes}
use Rattle.facet_solver_reader.specs.declared.tables.List.{List as ListEntry}
use Rattle.facet_solver_reader.specs.declared.tables.Tables.{Tables}
use Rattle.facet_solver_reader.specs.declared.count.Count.TheVariants as counts
use Rattle.facet_solver_reader.specs.declared.part.Part as code_part
use Rattle.facet_solver_reader.specs.declared.count.object.Object as code
use Rattle.facet_solver_reader.specs.Branches.{ReadsPart, ReadsParts}
use Rattle.facet_solver_reader.specs.Known.{Chooses, HasChoice, IsKnown, named}
use Rattle.facet_solver_reader.specs.Nodes.{children, members_in}
use Rattle.facet_solver_reader.specs.Tables.{AreTables, PartIsBefore}
use Rattle.facet_solver_reader.specs.Views.{part_view, parts_view}
use Rattle.facet_solver_reader.specs.Choices.{Reading, Taken, a_value, none_left, passing, taken}
use Rattle.facet_solver_reader.specs.Counted.{Counted, once, times}
use Rattle.facet_solver_reader.specs.Documents.{Tree, null, truth, number, text, list, Member}
use Rattle.facet_solver_reader.specs.Documents.{Members, depth, no_members, member, members}
use Rattle.facet_solver_reader.specs.Documents.{members_depth}
use Rattle.facet_solver_reader.specs.Objects.{IsUnknown, ReadsAll, ReadsIgnoring, ReadsObject}
use Rattle.facet_solver_reader.specs.Objects.{Object, Reads, Takes, TakesRest, find}
use Rattle.facet_solver_reader.specs.Parts.{CatchAll, ListId, MemberPart, Part, Target, of_shape}
use Rattle.facet_solver_reader.specs.Parts.{of_content, of_tag, a_member, a_selection, a_catch_all}
use Rattle.facet_solver_reader.specs.Reading.{IsNextList, IsObject, fails_at_once, fails_for}
use Rattle.facet_solver_reader.specs.Reading.{is_other_tag}
use Rattle.facet_solver_reader.specs.Readings.{ReadsValue}
use Rattle.facet_solver_reader.specs.Rules.{Rules}
use Rattle.facet_solver_reader.specs.Values.{ReadsTag}
use Rattle.facet_solver_reader.specs.Documents as trees
use Rattle.facet_solver_reader.proofs.Distinct.{AreDistinct, AreDistinct-drop}
use Rattle.facet_solver_reader.proofs.Members.{count_of_having, count_of_lacking, count_of_missing}
use Rattle.facet_solver_reader.proofs.Products.{count_of_none, count_of_parts, readings_join}
use Rattle.facet_solver_reader.proofs.Quantifiers.{any_is_at}
use Rattle.facet_solver_reader.proofs.Readings.{count_of_tag_value}
use Rattle.facet_solver_reader.proofs.Seen.{seen_at}
use Rattle.facet_solver_reader.proofs.TakenInOrder.{passing_upto, taken_upto}
use Rattle.facet_solver_reader.proofs.CountingValues.{times_none}

-- of three counts, whichever two are multiplied first
pub times_regroup : (a b c : Count) → times a (times b c) ≡ times (times a b) c
times_regroup counts.None b c = refl
times_regroup counts.One b c = refl
times_regroup counts.Several counts.None c = refl
times_regroup counts.Several counts.One c = refl
times_regroup counts.Several counts.Several counts.None = refl
times_regroup counts.Several counts.Several counts.One = refl
times_regroup counts.Several counts.Several counts.Several = refl

-- one of a thing is as many
pub times_one : (a : Count) → times a counts.One ≡ a
times_one counts.None = refl
times_one counts.One = refl
times_one counts.Several = refl

-- what holds of each count that there can be holds of a result that is one
pub if_ok_then : {E : Type 0} (P Q : Count → Type 0) (r : Result Count E)
    → ((n : Count) → P n → Q n) → IfOk r P → IfOk r Q
if_ok_then P Q (Ok n) f h = f n h
if_ok_then P Q (Err e) f h = tt

-- the value of a member is right inside an object
pub child_of_member : (v : Tree) (i : ℕ) (m : Member) → slice_get (members_in v) i ≡ Some m
    → slice_get (children v) i ≡ Some m.value
child_of_member (trees.object ms) i m e = seen_at (λ (m : Member). m.value) (members ms) i m e
child_of_member null i m e = let l : i < 0 = slice_get_within [] i m e in absurd (omega arith)
child_of_member (truth b) i m e =
    let l : i < 0 = slice_get_within [] i m e in absurd (omega arith)
child_of_member (number n) i m e =
    let l : i < 0 = slice_get_within [] i m e in absurd (omega arith)
child_of_member (text x) i m e =
    let l : i < 0 = slice_get_within [] i m e in absurd (omega arith)
child_of_member (list vs) i m e =
    let l : i < 0 = slice_get_within [] i m e in absurd (omega arith)

-- what stands at an index within
pub member_within : (v : Tree) (i : ℕ) → i < length (members_in v)
    → (m : Member) × (slice_get (members_in v) i ≡ Some m)
member_within v i within =
    let d : Member = record { name = []; value = null } in
    (get_or (members_in v) i d, slice_get-get_or (members_in v) i d within)

-- the value of a name nests less deep than the object
found_depth : (ms : Members) (x : Name) (w : Tree) → find (members ms) x ≡ Some w
    → depth w ≤ members_depth ms
found_depth no_members x w e = absurd (cc)
found_depth (member n v ms) x w e = go (bytes_eq n x) (λ h. found_depth ms x w h) e
  where
    go : (b : Bool) → (find (members ms) x ≡ Some w → depth w ≤ members_depth ms)
        → (if b then Some v else find (members ms) x) ≡ Some w
        → depth w ≤ max (depth v) (members_depth ms)
    go true rest e = let same : v ≡ w = cc in let l = ap depth same in omega (arith, l)
    go false rest e = let l = rest e in omega (arith, l)

found_below : (v : Tree) (x : Name) (w : Tree) → find (members_in v) x ≡ Some w
    → depth w < depth v
found_below (trees.object ms) x w e = let l = found_depth ms x w e in omega (arith, l)
found_below null x w e = absurd (cc)
found_below (truth b) x w e = absurd (cc)
found_below (number n) x w e = absurd (cc)
found_below (text y) x w e = absurd (cc)
found_below (list vs) x w e = absurd (cc)

-- so it is nearer to the end, whatever number of steps is left at it
pub found_levels : (v : Tree) (x : Name) (w : Tree) (steps : ℕ)
    → find (members_in v) x ≡ Some w → steps < 18446744073709551616
    → 1180591620717411303424 * depth w + 16 * steps + 15 < 1180591620717411303424 * depth v
found_levels v x w steps e small = let below = found_below v x w e in omega (arith, below)

-- a tag of another text has no reading
count_of_other : (rules : Rules) (t : Target) (v : Tree) → is_other_tag t v ≡ true
    → Counted (ReadsValue rules t v) NoReading
count_of_other rules (of_shape s) v e = absurd (cc)
count_of_other rules (of_content s k) v e = absurd (cc)
count_of_other rules (of_tag name) v e =
    count_of_tag_value rules name v NoReading (λ r h. none v r e h)
  where
    none : (v : Tree) (r : Reading) → is_other_tag (of_tag name) v ≡ true → ReadsTag name v r → ⊥
    none (text x) a_value e h =
        let same : bytes_eq x name ≡ true = (bytes_eq-Decides x name).1 h in
        let other : not (bytes_eq x name) ≡ true = e in
        let wrong : not true ≡ true = sym (ap not same) ∙ other in absurd (cc)
    none v r e h = absurd h

module _ (rules : Rules) (object : Object) where
  -- an object has no reading by a part that fails at once
  pub none_at_once : (p : Part) → fails_at_once object.members p ≡ true
      → Counted (ReadsPart rules (ReadsValue rules) object p) NoReading
  none_at_once (a_member m) e = go (find object.members m.name) refl e
    where
      go : (o : Option Tree) → find object.members m.name ≡ o → fails_for m o ≡ true
          → Counted (ReadsPart rules (ReadsValue rules) object (a_member m)) NoReading
      go None found e = count_of_missing rules (ReadsValue rules) object m found e
      go (Some v) found e =
          count_of_having rules (ReadsValue rules) object m v NoReading found
          (count_of_other rules m.target v e)
  none_at_once (a_selection s) e = absurd (cc)
  none_at_once (a_catch_all k) e = absurd (cc)

module _ (rules : Rules) (reads : Reads) (object : Object) where
  -- a member that the object lacks is read once where it isn't required
  pub count_of_absent_member : (m : MemberPart) (n : Count) → find object.members m.name ≡ None
      → n ≡ once (not m.required) → Counted (ReadsPart rules reads object (a_member m)) n
  count_of_absent_member m n e is =
      subst (Counted (ReadsPart rules reads object (a_member m))) (sym is) (go m.required refl)
    where
      go : (b : Bool) → m.required ≡ b
          → Counted (ReadsPart rules reads object (a_member m)) (once (not b))
      go true q = count_of_missing rules reads object m e q
      go false q = count_of_lacking rules reads object m e q

  -- an object has no reading by parts of which one has none
  pub none_by_parts : (ps : List Part) (i : ℕ) (p : Part) → AreDistinct rules.lists ps
      → slice_get ps i ≡ Some p → Counted (ReadsPart rules reads object p) NoReading
      → Counted (ReadsParts rules reads object ps) NoReading
  none_by_parts [] i p d e none =
      let within : i < 0 = slice_get_within [] i p e in absurd (omega arith)
  none_by_parts (q ∷ qs) zero p d e none = λ c r.
      let j = (readings_join rules reads object q qs d.0).part c r in
      let same : q ≡ p = cc in
      none j.first (subst (λ x. ReadsPart rules reads object x j.first) same j.has_first)
  none_by_parts (q ∷ qs) (suc i) p d e none = λ c r.
      let j = (readings_join rules reads object q qs d.0).part c r in
      none_by_parts qs i p d.1 e none j.second j.has_second

  -- one part more: what is left makes the readings of all
  pub part_more : (ps : List Part) (i : ℕ) (p : Part) (count next : Count)
      → AreDistinct rules.lists ps → slice_get ps i ≡ Some p
      → Counted (ReadsPart rules reads object p) next
      → ((rest : Count) → Counted (ReadsParts rules reads object (drop i ps)) rest
      → Counted (ReadsParts rules reads object ps) (times count rest))
      → (rest : Count) → Counted (ReadsParts rules reads object (drop (i + 1) ps)) rest
      → Counted (ReadsParts rules reads object ps) (times (times count next) rest)
  part_more ps i p count next distinct at here before rest behind =
      let within : i < length ps = slice_get_within ps i p at in
      let first : get_or ps i p ≡ p = get_or_from_slice_get ps i p p at in
      let up : suc i ≡ i + 1 = omega arith in
      let whole : drop i ps ≡ p ∷ drop (i + 1) ps =
      drop-cons ps i p within
      ∙ (ap (λ q. q ∷ drop (suc i) ps) first ∙ ap (λ n. p ∷ drop n ps) up) in
      let d = subst (AreDistinct rules.lists) whole (AreDistinct-drop rules.lists ps i distinct) in
      let all = count_of_parts rules reads object p (drop (i + 1) ps) next rest d.0 here behind in
      subst (Counted (ReadsParts rules reads object ps)) (times_regroup count next rest)
      (before (times next rest)
      (subst (λ qs. Counted (ReadsParts rules reads object qs) (times next rest)) (sym whole) all))

  -- where no part is left, all are read
  pub part_last : (ps : List Part) (i : ℕ) (count : Count) → length ps ≤ i
      → ((rest : Count) → Counted (ReadsParts rules reads object (drop i ps)) rest
      → Counted (ReadsParts rules reads object ps) (times count rest))
      → Counted (ReadsParts rules reads object ps) count
  part_last ps i count past before =
      subst (Counted (ReadsParts rules reads object ps)) (times_one count)
      (before counts.One
      (subst (λ qs. Counted (ReadsParts rules reads object qs) counts.One)
      (sym (drop_of_length-le ps past)) (count_of_none rules reads object)))

-- an object has no reading by parts of which one fails at once
pub none_where_fails : (rules : Rules) (object : Object) (ps : List code_part.Part)
    → list_any (λ p. fails_at_once object.members (part_view p)) ps ≡ true
    → AreDistinct rules.lists (parts_view ps)
    → Counted (ReadsParts rules (ReadsValue rules) object (parts_view ps)) NoReading
none_where_fails rules object ps e distinct =
    let fails : code_part.Part → Bool = λ p. fails_at_once object.members (part_view p) in
    let a = Any-from_list_any fails ps e in
    none_by_parts rules (ReadsValue rules) object (parts_view ps) a.0 (part_view a.1) distinct
    (seen_at part_view ps a.0 a.1 (any_is_at (λ p. fails p ≡ true) ps a))
    (none_at_once rules object (part_view a.1) a.4)

-- the branches of a list's parts have been counted before it
pub before_parts : (t : Tables) (nodes : Nodes) (o : code.Object) (position : ℕ) (l : ListEntry)
    → AreTables t → IsObject t nodes o → IsNextList t o position l
    → All (PartIsBefore t o.list.now.below.items position) (parts_view l.parts.items)
before_parts t nodes o position l tables h next =
    let a = (tables.lists h.index o.list.now h.listed).in_order position next.index next.is_next in
    let both : Some a.0 ≡ Some l = sym a.1 ∙ next.listed in
    let one : a.0 ≡ l = cc in
    subst
    (λ (e : ListEntry). All (PartIsBefore t o.list.now.below.items position)
    (parts_view e.parts.items))
    one a.2

module _ (rules : Rules) (reads : Reads) (object : Object) (k : CatchAll) where
  -- what is taken of the first members, where all are read
  front : (ms : List Member) (i : ℕ) (t : Taken) → TakesRest rules object (Takes rules reads k) ms t
      → (u : Taken) × TakesRest rules object (Takes rules reads k) (take i ms) u
  front ms zero t h = (none_left, tt)
  front [] (suc i) t h = (none_left, tt)
  front (m ∷ ms) (suc i) none_left h = absurd h
  front (m ∷ ms) (suc i) (passing t) h =
      let f = front ms i t h.1 in (passing f.0, (h.0, f.1))
  front (m ∷ ms) (suc i) (taken r t) h =
      let f = front ms i t h.2 in (taken r f.0, (h.0, h.1, f.1))

  -- where nothing takes the first ones, nothing takes all
  pub none_by_front : (ms : List Member) (i : ℕ)
      → Counted (TakesRest rules object (Takes rules reads k) (take i ms)) NoReading
      → Counted (TakesRest rules object (Takes rules reads k) ms) NoReading
  none_by_front ms i none = λ t h. let f = front ms i t h in none f.0 f.1

  module _ (ms : List Member) (i : ℕ) (m : Member) (at : slice_get ms i ≡ Some m) where
    -- where the member stands
    here : get_or ms i m ≡ m
    here = get_or_from_slice_get ms i m m at

    -- one member more is taken
    pub taken_more : (a b : Count) → IsUnknown rules object m.name
        → Counted (TakesRest rules object (Takes rules reads k) (take i ms)) a
        → Counted (Takes rules reads k m) b
        → Counted (TakesRest rules object (Takes rules reads k) (take (i + 1) ms)) (times a b)
    taken_more a b unknown f g =
        taken_upto rules reads object k ms i m a b (slice_get_within ms i m at)
        (subst (λ (n : Member). IsUnknown rules object n.name) (sym here) unknown) f
        (subst (λ (n : Member). Counted (Takes rules reads k n) b) (sym here) g)

    -- or passed over
    pub passing_more : (a : Count) → IsKnown (Chooses rules.lists object.list) (named m.name)
        → Counted (TakesRest rules object (Takes rules reads k) (take i ms)) a
        → Counted (TakesRest rules object (Takes rules reads k) (take (i + 1) ms)) a
    passing_more a known f =
        passing_upto rules reads object k ms i m a (slice_get_within ms i m at)
        (subst (λ (n : Member). IsKnown (Chooses rules.lists object.list) (named n.name))
        (sym here) known) f

    -- where it cannot be taken, nothing takes all
    pub none_taken : (a b : Count) → b ≡ NoReading → IsUnknown rules object m.name
        → Counted (TakesRest rules object (Takes rules reads k) (take i ms)) a
        → Counted (Takes rules reads k m) b
        → Counted (TakesRest rules object (Takes rules reads k) ms) NoReading
    none_taken a b none unknown f g =
        none_by_front ms (i + 1)
        (subst (Counted (TakesRest rules object (Takes rules reads k) (take (i + 1) ms))) (times_none a b none)
        (taken_more a b unknown f g))

-- an object has no reading by a list that has no choice
pub count_of_no_choices : (rules : Rules) (reads : Reads) (id : ListId) (ms : List Member)
    → (HasChoice (Chooses rules.lists id) → ⊥)
    → Counted (ReadsObject rules reads id ms) NoReading
count_of_no_choices rules reads id ms none = λ c w.
    ⊎_elim
    (λ (a : ReadsAll rules reads ms id c).
    none (record { choice = c; items = a.reading.items; chooses = a.reading.chooses }))
    (λ (i : ReadsIgnoring rules reads ms id c).
    none (record { choice = c; items = i.reading.items; chooses = i.reading.chooses })) w
