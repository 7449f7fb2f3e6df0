-- The counts of tuples and of the entries of maps.
use Rattle.std.proofs.Common.{Some, slice_get, ◌≡◌, ◌≢◌, sym, subst, ℕ, ◌+◌, ◌<◌, length}
use Rattle.std.proofs.Common.{get_or, take, List, Bool, true, false, zip, arith}
use Rattle.std.proofs.lemmas.Option.{slice_get_within, get_or_from_slice_get}
use Rattle.std.proofs.lemmas.Slice.Zip.{length-zip, get_or-zip}
use Rattle.facet_solver_reader.specs.declared.count.Count.{Count}
use Rattle.facet_solver_reader.specs.declared.count.Count.TheVariants.{None as NoCount}
use Rattle.facet_solver_reader.specs.Counted.{Counted, times}
use Rattle.facet_solver_shape.specs.Names.{Name}
use Rattle.facet_solver_reader.specs.Documents.{Tree, Member}
use Rattle.facet_solver_reader.specs.Parts.{Target, of_shape}
use Rattle.facet_solver_reader.specs.Objects.{Reads}
use Rattle.facet_solver_reader.specs.Values.{ReadsEach, ReadsPlace, ReadsTuple, ReadsEntry}
use Rattle.facet_solver_reader.proofs.Counting.{counted_same}
use Rattle.facet_solver_reader.proofs.Each.{count_up_to}

-- as many values as shapes are read one by one
pub count_of_tuple : (reads : Reads) (ss : List ℕ) (vs : List Tree) (n : Count)
    → length ss ≡ length vs → Counted (ReadsEach (ReadsPlace reads) (zip ss vs)) n
    → Counted (ReadsTuple reads ss vs) n
count_of_tuple reads ss vs n e h =
    counted_same (ReadsEach (ReadsPlace reads) (zip ss vs)) (ReadsTuple reads ss vs) n
    (λ rs p. (e, p)) (λ rs p. p.1) h

-- fewer or more values are not read
pub count_of_other_length : (reads : Reads) (ss : List ℕ) (vs : List Tree)
    → length ss ≢ length vs → Counted (ReadsTuple reads ss vs) NoCount
count_of_other_length reads ss vs e = λ rs p. e p.0

-- one value more, up to a place, forward
pub count_up_to_place : (reads : Reads) (ss : List ℕ) (vs : List Tree) (i : ℕ) (d : ℕ × Tree)
    (m n : Count) → i < length ss → i < length vs
    → Counted (ReadsEach (ReadsPlace reads) (take i (zip ss vs))) m
    → Counted (reads (of_shape (get_or ss i d.0)) (get_or vs i d.1)) n
    → Counted (ReadsEach (ReadsPlace reads) (take (i + 1) (zip ss vs))) (times m n)
count_up_to_place reads ss vs i d m n within_shapes within_values h g =
    count_up_to (ReadsPlace reads) (zip ss vs) i d m n (omega (arith, length-zip ss vs)) h
    (subst (λ (p : ℕ × Tree). Counted (ReadsPlace reads p) n)
    (sym (get_or-zip ss vs i d within_shapes within_values)) g)

-- one value more, by the shape and the value that stand there
pub count_up_to_place_at : (reads : Reads) (ss : List ℕ) (vs : List Tree) (i s : ℕ) (v : Tree)
    (m n : Count) → slice_get ss i ≡ Some s → slice_get vs i ≡ Some v
    → Counted (ReadsEach (ReadsPlace reads) (take i (zip ss vs))) m
    → Counted (reads (of_shape s) v) n
    → Counted (ReadsEach (ReadsPlace reads) (take (i + 1) (zip ss vs))) (times m n)
count_up_to_place_at reads ss vs i s v m n at_s at_v h g =
    let same_s : get_or ss i s ≡ s = get_or_from_slice_get ss i s s at_s in
    let same_v : get_or vs i v ≡ v = get_or_from_slice_get vs i v v at_v in
    count_up_to_place reads ss vs i (s, v) m n (slice_get_within ss i s at_s)
    (slice_get_within vs i v at_v) h (rw (same_s, same_v) g)

-- a member whose name is a key is read as its value is
pub count_of_entry : (is_key : Name → Bool) (reads : Reads) (t : Target) (m : Member) (n : Count)
    → is_key m.name ≡ true → Counted (reads t m.value) n
    → Counted (ReadsEntry is_key reads t m) n
count_of_entry is_key reads t m n key h =
    counted_same (reads t m.value) (ReadsEntry is_key reads t m) n
    (λ r p. (key, p)) (λ r p. p.1) h

-- one whose name is no key is not read
pub count_of_no_key : (is_key : Name → Bool) (reads : Reads) (t : Target) (m : Member)
    → is_key m.name ≡ false → Counted (ReadsEntry is_key reads t m) NoCount
count_of_no_key is_key reads t m no_key = λ r p.
    let key : is_key m.name ≡ true = p.0 in absurd (cc)
