-- What two targets come to reads no value in common.
use Rattle.std.proofs.Common.{◌≡◌, ◌∙◌, sym, ap, subst, refl, ℕ, zero, suc, ◌<◌, List, [], ◌∷◌, All}
use Rattle.std.proofs.Common.{Any, Bool, true, false, IsTrue, ◌&&◌, Option, Some, None, slice_get}
use Rattle.std.proofs.Common.{length, get_or, arith, Vec, Global}
use Rattle.std.proofs.lemmas.Option.{get_or_from_slice_get, slice_get-get_or, slice_get_within}
use Rattle.facet_solver_shape.specs.Names.{Name}
use Rattle.facet_solver_checker.specs.declared.apart.Apart.{Apart}
use Rattle.facet_solver_checker.specs.declared.atoms.Atom.{Atom}
use Rattle.facet_solver_checker.specs.declared.atoms.Atom.TheVariants.{Null, Plain, Joined}
use Rattle.facet_solver_reader.specs.declared.plan.Plan.{Plan}
use Rattle.facet_solver_reader.specs.declared.plan.PlannedEnd.{PlannedEnd}
use Rattle.facet_solver_reader.specs.declared.plan.PlannedEnd.TheVariants as planned
use Rattle.facet_solver_reader.specs.declared.plan.PlannedName.{PlannedName}
use Rattle.facet_solver_reader.specs.declared.plan.PlannedTarget.{PlannedTarget}
use Rattle.facet_solver_checker.specs.Aparts.{is_apart}
use Rattle.facet_solver_checker.specs.Apartness.{ArePlacesApart, AtomsApart, EndApart, EndsApart}
use Rattle.facet_solver_checker.specs.Apartness.{HaveNoSimple, IsNoUnit, ListsApart, NameIsApart}
use Rattle.facet_solver_checker.specs.Apartness.{NamesApart, ObjectsApart, PartsApart, PlaceIsApart}
use Rattle.facet_solver_checker.specs.Apartness.{TextsApart, reads_list, reads_null, reads_number}
use Rattle.facet_solver_checker.specs.Apartness.{reads_object, reads_text, reads_truth}
use Rattle.facet_solver_checker.specs.Aparts.{LeavesDown}
use Rattle.facet_solver_checker.specs.Atoms.{IsPlanFor, NamesContent, NamesUnit, NamesVariant}
use Rattle.facet_solver_checker.specs.Atoms.{ReadsAs, ReadsNumber, ReadsPlain}
use Rattle.facet_solver_reader.specs.Documents.{Tree, null, truth, number, text, list, object}
use Rattle.facet_solver_reader.specs.Documents.{Items, Member, Members, member, no_members, items}
use Rattle.facet_solver_reader.specs.Documents.{members}
use Rattle.facet_solver_reader.specs.Numbers.{Number}
use Rattle.facet_solver_reader.specs.Objects.{Reads}
use Rattle.facet_solver_reader.specs.Plans.{AreInPairs, Meaning}
use Rattle.facet_solver_reader.specs.Values.{ReadsDown}
use Rattle.facet_solver_reader.proofs.Pairs.{pair_at, pair_of}
use Rattle.facet_solver_reader.proofs.Quantifiers.{all_at, any_is_at}

-- the same test
pub both_same : {a b c d : Bool} → a ≡ c → b ≡ d → (c && d) ≡ false → (a && b) ≡ false
both_same {a} {b} {c} {d} e f h = rw (e, f) h

-- not both of two that hold
both_hold : (a b : Bool) → a ≡ true → b ≡ true → (a && b) ≡ false → ⊥
both_hold true true p q h = absurd (cc)
both_hold true false p q h = absurd (cc)
both_hold false b p q h = absurd (cc)

module _ (m : Meaning) (reads : Reads) where
  -- what reads null
  null_read : (e : PlannedEnd) → ReadsAs m reads e null → reads_null e ≡ true
  null_read planned.Null h = refl
  null_read planned.Nothing h = refl
  null_read planned.Anything h = refl
  null_read (planned.Object None) h = absurd h
  null_read (planned.Object (Some n)) h = absurd h
  null_read e h = absurd h

  -- a truth value
  truth_read : (e : PlannedEnd) (b : Bool) → ReadsAs m reads e (truth b) → reads_truth e ≡ true
  truth_read planned.Truth b h = refl
  truth_read planned.Anything b h = refl
  truth_read (planned.Object None) b h = absurd h
  truth_read (planned.Object (Some n)) b h = absurd h
  truth_read e b h = absurd h

  -- a number
  number_read : (e : PlannedEnd) (n : Number) → ReadsAs m reads e (number n)
      → reads_number e ≡ true
  number_read (planned.Whole range) n h = refl
  number_read planned.Float n h = refl
  number_read planned.Anything n h = refl
  number_read (planned.Object None) n h = absurd h
  number_read (planned.Object (Some k)) n h = absurd h
  number_read e n h = absurd h

  -- a text
  pub text_read : (e : PlannedEnd) (x : Name) → ReadsAs m reads e (text x) → reads_text e ≡ true
  text_read planned.Text x h = refl
  text_read planned.Character x h = refl
  text_read (planned.Tag name) x h = refl
  text_read (planned.Named ps) x h = refl
  text_read planned.Anything x h = refl
  text_read (planned.Object None) x h = absurd h
  text_read (planned.Object (Some k)) x h = absurd h
  text_read e x h = absurd h

  -- a list
  pub list_read : (e : PlannedEnd) (vs : Items) → ReadsAs m reads e (list vs)
      → reads_list e ≡ true
  list_read (planned.List n) vs h = refl
  list_read (planned.Tuple ns) vs h = refl
  list_read planned.Anything vs h = refl
  list_read (planned.Object None) vs h = absurd h
  list_read (planned.Object (Some k)) vs h = absurd h
  list_read e vs h = absurd h

  -- an object
  pub object_read : (e : PlannedEnd) (ms : Members) → ReadsAs m reads e (object ms)
      → reads_object e ≡ true
  object_read (planned.Map key n) ms h = refl
  object_read (planned.Object (Some k)) ms h = refl
  object_read (planned.Object None) ms h = absurd h
  object_read (planned.Named ps) ms h = refl
  object_read planned.Nothing ms h = refl
  object_read planned.Anything ms h = refl
  object_read e ms h = absurd h

-- two ends that have no kind of values in common
pub ends_apart : (plan : Plan) (apart : Apart) (e f : PlannedEnd) → HaveNoSimple e f
    → TextsApart e f → ListsApart plan apart e f → ObjectsApart plan apart e f
    → EndsApart plan apart e f
ends_apart plan apart e f simple texts lists objects m is depth leaves null a b =
    let reads = ReadsDown m.rules depth in
    both_hold (reads_null e) (reads_null f) (null_read m reads e a) (null_read m reads f b)
    simple.null
ends_apart plan apart e f simple texts lists objects m is depth leaves (truth v) a b =
    let reads = ReadsDown m.rules depth in
    both_hold (reads_truth e) (reads_truth f) (truth_read m reads e v a)
    (truth_read m reads f v b) simple.truth
ends_apart plan apart e f simple texts lists objects m is depth leaves (number n) a b =
    let reads = ReadsDown m.rules depth in
    both_hold (reads_number e) (reads_number f) (number_read m reads e n a)
    (number_read m reads f n b) simple.number
ends_apart plan apart e f simple texts lists objects m is depth leaves (text x) a b =
    texts m depth x a b
ends_apart plan apart e f simple texts lists objects m is depth leaves (list vs) a b =
    lists m is depth leaves vs a b
ends_apart plan apart e f simple texts lists objects m is depth leaves (object ms) a b =
    objects m is depth leaves ms a b

-- what reads no text has none in common
pub no_text : (e f : PlannedEnd) → reads_text e ≡ false → TextsApart e f
no_text e f none m depth x a b =
    let h = text_read m (ReadsDown m.rules depth) e x a in absurd (cc)

-- what reads no list has none in common
pub no_list : (plan : Plan) (apart : Apart) (e f : PlannedEnd) → reads_list e ≡ false
    → ListsApart plan apart e f
no_list plan apart e f none m is depth leaves vs a b =
    let h = list_read m (ReadsDown m.rules depth) e vs a in absurd (cc)

pub no_other_list : (plan : Plan) (apart : Apart) (e f : PlannedEnd) → reads_list f ≡ false
    → ListsApart plan apart e f
no_other_list plan apart e f none m is depth leaves vs a b =
    let h = list_read m (ReadsDown m.rules depth) f vs b in absurd (cc)

-- what reads no object has none in common
pub not_both_objects : (plan : Plan) (apart : Apart) (e f : PlannedEnd)
    → (reads_object e && reads_object f) ≡ false → ObjectsApart plan apart e f
not_both_objects plan apart e f none m is depth leaves ms a b =
    let reads = ReadsDown m.rules depth in
    both_hold (reads_object e) (reads_object f) (object_read m reads e ms a)
    (object_read m reads f ms b) none

pub no_object : (plan : Plan) (apart : Apart) (e f : PlannedEnd) → reads_object e ≡ false
    → ObjectsApart plan apart e f
no_object plan apart e f none m is depth leaves ms a b =
    let h = object_read m (ReadsDown m.rules depth) e ms a in absurd (cc)

pub no_other_object : (plan : Plan) (apart : Apart) (e f : PlannedEnd) → reads_object f ≡ false
    → ObjectsApart plan apart e f
no_other_object plan apart e f none m is depth leaves ms a b =
    let h = object_read m (ReadsDown m.rules depth) f ms b in absurd (cc)

module _ (m : Meaning) (apart : Apart) (depth : ℕ) (leaves : LeavesDown m apart depth) where
  abbrev reads : Reads
  reads = ReadsDown m.rules depth

  -- a pair of the table reads no value
  pub none_at : (i j : ℕ) (v : Tree) → is_apart apart i j ≡ true → ReadsNumber m reads i v
      → ReadsNumber m reads j v → ⊥
  none_at i j v e a b =
      let left : is_apart apart i j ≡ false =
      leaves a.target b.target v a.reading b.reading a.is_read b.is_read i j a.number_is
      b.number_is in
      absurd (cc)

  -- the items of a list and of a tuple
  list_of_tuple : (i : ℕ) (ns : List ℕ) (vs : List Tree)
      → Any (λ k. is_apart apart i k ≡ true) ns → All (ReadsNumber m reads i) vs
      → AreInPairs (ReadsNumber m reads) ns vs → ⊥
  list_of_tuple i ns vs some a b =
      let at = any_is_at (λ k. is_apart apart i k ≡ true) ns some in
      let v = pair_of (ReadsNumber m reads) ns vs some.0 some.1 b at in
      none_at i some.1 v.0 some.4 (all_at (ReadsNumber m reads i) vs some.0 v.0 a v.1) v.2

  -- of a tuple and of a list
  tuple_of_list : (i : ℕ) (ns : List ℕ) (vs : List Tree)
      → Any (λ k. is_apart apart k i ≡ true) ns → AreInPairs (ReadsNumber m reads) ns vs
      → All (ReadsNumber m reads i) vs → ⊥
  tuple_of_list i ns vs some a b =
      let at = any_is_at (λ k. is_apart apart k i ≡ true) ns some in
      let v = pair_of (ReadsNumber m reads) ns vs some.0 some.1 a at in
      none_at some.1 i v.0 some.4 v.2 (all_at (ReadsNumber m reads i) vs some.0 v.0 b v.1)

  -- of two tuples
  tuple_of_tuple : (is js : List ℕ) (vs : List Tree) → ArePlacesApart apart is js
      → AreInPairs (ReadsNumber m reads) is vs → AreInPairs (ReadsNumber m reads) js vs → ⊥
  tuple_of_tuple is js vs some a b = go (slice_get is some.0) (slice_get js some.0) refl refl some.1
    where
      go : (x y : Option ℕ) → slice_get is some.0 ≡ x → slice_get js some.0 ≡ y
          → PlaceIsApart apart x y → ⊥
      go (Some i) (Some j) p q h =
          let v = pair_of (ReadsNumber m reads) is vs some.0 i a p in
          let w = pair_of (ReadsNumber m reads) js vs some.0 j b q in
          let same : w.0 ≡ v.0 =
          let e : slice_get vs some.0 ≡ Some v.0 = v.1 in
          let f : slice_get vs some.0 ≡ Some w.0 = w.1 in cc in
          none_at i j v.0 h v.2 (subst (ReadsNumber m reads j) same w.2)
      go (Some i) None p q h =
          let v = pair_of (ReadsNumber m reads) is vs some.0 i a p in
          let w = pair_at (ReadsNumber m reads) js vs some.0 v.0 b v.1 in
          let e : slice_get js some.0 ≡ Some w.0 = w.1 in absurd (cc)
      go None (Some j) p q h =
          let v = pair_of (ReadsNumber m reads) js vs some.0 j b q in
          let w = pair_at (ReadsNumber m reads) is vs some.0 v.0 a v.1 in
          let e : slice_get is some.0 ≡ Some w.0 = w.1 in absurd (cc)
      go None None p q h = h

  -- of two objects that name a variant
  names_read : (ps qs : List PlannedName) (ms : Members) → NamesApart apart ps qs
      → NamesVariant m reads ps (object ms) → NamesVariant m reads qs (object ms) → ⊥
  names_read ps qs no_members h a b = a
  names_read ps qs (member x v (member y w ms)) h a b = a
  names_read ps qs (member x v no_members) h a b =
      let p = any_is_at (NamesContent m reads x v) ps a in
      let q = any_is_at (NamesContent m reads x v) qs b in
      none_at a.1.content b.1.content v
      (all_at (NameIsApart apart a.1) qs b.0 b.1
      (all_at (λ (n : PlannedName). All (NameIsApart apart n) qs) ps a.0 a.1 h p) q
      (a.4.0 ∙ sym b.4.0)) a.4.1 b.4.1

-- a list of items and a tuple
pub list_and_tuple : (plan : Plan) (apart : Apart) (i : ℕ) (ns : Vec ℕ Global) (f : PlannedEnd)
    → f ≡ planned.Tuple ns → Any (λ k. is_apart apart i k ≡ true) ns.items
    → ListsApart plan apart (planned.List i) f
list_and_tuple plan apart i ns f is some =
    subst (λ (p : PlannedEnd). ListsApart plan apart (planned.List i) p) (sym is)
    (λ m by depth leaves vs a b. list_of_tuple m apart depth leaves i ns.items (items vs) some a b)

-- a tuple and a list of items
pub tuple_and_list : (plan : Plan) (apart : Apart) (i : ℕ) (ns : Vec ℕ Global) (f : PlannedEnd)
    → f ≡ planned.List i → Any (λ k. is_apart apart k i ≡ true) ns.items
    → ListsApart plan apart (planned.Tuple ns) f
tuple_and_list plan apart i ns f is some =
    subst (λ (p : PlannedEnd). ListsApart plan apart (planned.Tuple ns) p) (sym is)
    (λ m by depth leaves vs a b. tuple_of_list m apart depth leaves i ns.items (items vs) some a b)

-- two tuples
pub tuple_and_tuple : (plan : Plan) (apart : Apart) (is js : Vec ℕ Global) (f : PlannedEnd)
    → f ≡ planned.Tuple js → ArePlacesApart apart is.items js.items
    → ListsApart plan apart (planned.Tuple is) f
tuple_and_tuple plan apart is js f e some =
    subst (λ (p : PlannedEnd). ListsApart plan apart (planned.Tuple is) p) (sym e)
    (λ m by depth leaves vs a b.
    tuple_of_tuple m apart depth leaves is.items js.items (items vs) some a b)

-- two that name a variant
pub names_and_names : (plan : Plan) (apart : Apart) (ps qs : Vec PlannedName Global)
    (f : PlannedEnd) → f ≡ planned.Named qs → NamesApart apart ps.items qs.items
    → ObjectsApart plan apart (planned.Named ps) f
names_and_names plan apart ps qs f is h =
    subst (λ (p : PlannedEnd). ObjectsApart plan apart (planned.Named ps) p) (sym is)
    (λ m by depth leaves ms a b. names_read m apart depth leaves ps.items qs.items ms h a b)

-- what is apart of an end is so of what it is
pub first_lists : (plan : Plan) (apart : Apart) (e p f : PlannedEnd) → e ≡ p
    → ListsApart plan apart p f → ListsApart plan apart e f
first_lists plan apart e p f is h =
    subst (λ (q : PlannedEnd). ListsApart plan apart q f) (sym is) h

pub first_objects : (plan : Plan) (apart : Apart) (e p f : PlannedEnd) → e ≡ p
    → ObjectsApart plan apart p f → ObjectsApart plan apart e f
first_objects plan apart e p f is h =
    subst (λ (q : PlannedEnd). ObjectsApart plan apart q f) (sym is) h

-- two lists of parts
pub parts_and_parts : (plan : Plan) (apart : Apart) (p q : ℕ) (f : PlannedEnd)
    → f ≡ planned.Object (Some q) → PartsApart plan apart p q
    → ObjectsApart plan apart (planned.Object (Some p)) f
parts_and_parts plan apart p q f is h =
    subst (λ (e : PlannedEnd). ObjectsApart plan apart (planned.Object (Some p)) e) (sym is)
    (λ m by depth leaves ms a b. h m by depth leaves (members ms) a b)

-- what is apart of what a target comes to, is so of the target's atom
pub plain_second : (plan : Plan) (apart : Apart) (e : PlannedEnd) (n : ℕ) (t : PlannedTarget)
    → slice_get plan.targets.items n ≡ Some t → EndsApart plan apart e t.end
    → EndApart plan apart e (Plain n)
plain_second plan apart e n t there h m is depth leaves v a b =
    let same : b.target ≡ t =
    let f : slice_get plan.targets.items n ≡ Some b.target = b.target_is in cc in
    h m is depth leaves v a
    (subst (λ (p : PlannedTarget). ReadsAs m (ReadsDown m.rules depth) p.end v) same b.is_read)

pub plain_first : (plan : Plan) (apart : Apart) (n : ℕ) (t : PlannedTarget) (b : Atom)
    → slice_get plan.targets.items n ≡ Some t → EndApart plan apart t.end b
    → AtomsApart plan apart (Plain n) b
plain_first plan apart n t b there h m is depth leaves v x y =
    let same : x.target ≡ t =
    let f : slice_get plan.targets.items n ≡ Some x.target = x.target_is in cc in
    h m is depth leaves v
    (subst (λ (p : PlannedTarget). ReadsAs m (ReadsDown m.rules depth) p.end v) same x.is_read) y

-- a number that no target has reads nothing
pub none_second : (plan : Plan) (apart : Apart) (e : PlannedEnd) (n : ℕ)
    → slice_get plan.targets.items n ≡ None → EndApart plan apart e (Plain n)
none_second plan apart e n none m is depth leaves v a b =
    let f : slice_get plan.targets.items n ≡ Some b.target = b.target_is in absurd (cc)

pub none_first : (plan : Plan) (apart : Apart) (n : ℕ) (b : Atom)
    → slice_get plan.targets.items n ≡ None → AtomsApart plan apart (Plain n) b
none_first plan apart n b none m is depth leaves v x y =
    let f : slice_get plan.targets.items n ≡ Some x.target = x.target_is in absurd (cc)

-- a list that no choice has reads no object
pub no_parts : (plan : Plan) (apart : Apart) (f : PlannedEnd)
    → ObjectsApart plan apart (planned.Object None) f
no_parts plan apart f m is depth leaves ms a b = a

pub no_other_parts : (plan : Plan) (apart : Apart) (e : PlannedEnd)
    → ObjectsApart plan apart e (planned.Object None)
no_other_parts plan apart e m is depth leaves ms a b = b

-- two tuples of different lengths
pub lengths_apart : (apart : Apart) (is js : List ℕ) → (length is ≡ length js → ⊥)
    → ArePlacesApart apart is js
lengths_apart apart [] [] ne = absurd (ne refl)
lengths_apart apart (i ∷ is) [] ne = (zero, tt)
lengths_apart apart [] (j ∷ js) ne = (zero, tt)
lengths_apart apart (i ∷ is) (j ∷ js) ne =
    let k = lengths_apart apart is js (λ e. ne (ap suc e)) in (suc k.0, k.1)

-- two tuples with a place that is apart
pub place_apart_at : (apart : Apart) (is js : List ℕ) (k i j : ℕ) → slice_get is k ≡ Some i
    → slice_get js k ≡ Some j → is_apart apart i j ≡ true → ArePlacesApart apart is js
place_apart_at apart is js k i j at_i at_j h = (
  k,
  subst (λ x. PlaceIsApart apart x (slice_get js k)) (sym at_i)
      (subst (λ y. PlaceIsApart apart (Some i) y) (sym at_j) h),
)
