-- What stands in memory, as it is seen.
use Rattle.std.proofs.Common.{◌≡◌, ◌∙◌, sym, ap, subst, refl, ℕ, Vec, Global, Bool, true, List}
use Rattle.std.proofs.Common.{[], ◌∷◌, All, map, length, Some, slice_get, get_or, arith, ◌||◌}
use Rattle.std.proofs.lemmas.List.{length-map}
use Rattle.std.proofs.lemmas.Option.{slice_get_within, get_or_from_slice_get}
use Rattle.std.specs.Borrow.{Bor}
use Rattle.std.specs.List.{list_any}
use Rattle.facet_solver_shape.specs.Names.{Name}
use Rattle.facet_solver_reader.specs.declared.document.Document.{Document}
use Rattle.facet_solver_reader.specs.declared.end.Alternative as code_alternative
use Rattle.facet_solver_reader.specs.declared.end.AlternativeKind as code_kind
use Rattle.facet_solver_reader.specs.declared.end.End as code_end
use Rattle.facet_solver_reader.specs.declared.end.NamedVariant as code_named
use Rattle.facet_solver_reader.specs.declared.part.ListId as code_list
use Rattle.facet_solver_reader.specs.Documents.{Tree, null, truth, number, text, list, object}
use Rattle.facet_solver_reader.specs.Documents.{Member, members, items_view, members_view}
use Rattle.facet_solver_reader.specs.Documents.{view}
use Rattle.facet_solver_reader.specs.Kinds.{is_object}
use Rattle.facet_solver_reader.specs.Nodes.{children, members_in}
use Rattle.facet_solver_reader.specs.Reading.{IsOnlyMember}
use Rattle.facet_solver_reader.specs.Rules as types
use Rattle.facet_solver_reader.specs.Rules.{a_fallback}
use Rattle.facet_solver_reader.specs.Values.{is_scalar_end}
use Rattle.facet_solver_reader.specs.Views.{end_view, kind_view}
use Rattle.facet_solver_reader.proofs.Seen.{member_seen, seen_at, seen_items, seen_members}

-- what holds of each element as it is seen holds of the one at an index
pub at_seen : {X Y : Type 0} (P : Y → Type 0) (see : X → Y) (xs : List X) (i : ℕ) (x : X)
    → slice_get xs i ≡ Some x → All P (map see xs) → P (see x)
at_seen P see xs i x there all =
    let seen : slice_get (map see xs) i ≡ Some (see x) = seen_at see xs i x there in
    subst P (get_or_from_slice_get (map see xs) i (see x) (see x) seen)
    (all i (see x) (slice_get_within (map see xs) i (see x) seen))

-- what holds of each element holds of the one at an index
pub at_index : {X : Type 0} (P : X → Type 0) (xs : List X) (i : ℕ) (x : X)
    → slice_get xs i ≡ Some x → All P xs → P x
at_index P xs i x there all =
    subst P (get_or_from_slice_get xs i x x there)
    (all i x (slice_get_within xs i x there))

-- some element seen as another passes a test if it passes it as it is seen
pub any_seen : {X Y : Type 0} (test : Y → Bool) (see : X → Y) (xs : List X)
    → list_any (λ x. test (see x)) xs ≡ list_any test (map see xs)
any_seen test see [] = refl
any_seen test see (x ∷ xs) = ap (λ b. test (see x) || b) (any_seen test see xs)

-- a list has as many values as there are in memory
pub list_length : (v : Tree) (ds : List Document) → v ≡ list (items_view ds)
    → length (children v) ≡ length ds
list_length v ds is =
    ap (λ u. length (children u)) is ∙ (ap length (seen_items ds) ∙ length-map ds view)

-- so has an object
pub object_length : (v : Tree) (ms : List (Bor Name × Document)) → v ≡ object (members_view ms)
    → length (members_in v) ≡ length ms
object_length v ms is =
    ap (λ u. length (members_in u)) is ∙ (ap length (seen_members ms) ∙ length-map ms member_seen)

-- an object has as many values as members
pub object_children : (v : Tree) → is_object v ≡ true
    → length (children v) ≡ length (members_in v)
object_children (object ms) is = length-map (members ms) (λ m. m.value)
object_children null is = absurd (cc)
object_children (truth b) is = absurd (cc)
object_children (number n) is = absurd (cc)
object_children (text x) is = absurd (cc)
object_children (list vs) is = absurd (cc)

-- the member at an index as it is in memory
pub member_there : (v : Tree) (ms : List (Bor Name × Document)) (i : ℕ) (d : Bor Name × Document)
    → v ≡ object (members_view ms) → slice_get ms i ≡ Some d
    → slice_get (members_in v) i ≡ Some (member_seen d)
member_there v ms i d is there =
    ap (λ u. slice_get (members_in u) i) is
    ∙ (ap (λ xs. slice_get xs i) (seen_members ms) ∙ seen_at member_seen ms i d there)

-- the member at an index has the value there
pub member_at : (v : Tree) (ms : List (Bor Name × Document)) (i : ℕ) (d : Bor Name × Document)
    (w : Tree) → v ≡ object (members_view ms) → slice_get ms i ≡ Some d
    → slice_get (children v) i ≡ Some w
    → slice_get (members_in v) i ≡ Some (record { name = d.0.now; value = w })
member_at v ms i d w is there at_w =
    let seen : members (members_view ms) ≡ map member_seen ms = seen_members ms in
    let here : slice_get (members_in v) i ≡ Some (member_seen d) =
    ap (λ u. slice_get (members_in u) i) is ∙ (ap (λ xs. slice_get xs i) seen
    ∙ seen_at member_seen ms i d there) in
    let value : slice_get (children v) i ≡ Some (view d.1) =
    ap (λ u. slice_get (children u) i) is
    ∙ (ap (λ xs. slice_get (map (λ m. m.value) xs) i) seen
    ∙ seen_at (λ m. m.value) (map member_seen ms) i (member_seen d)
    (seen_at member_seen ms i d there)) in
    let both : Some (view d.1) ≡ Some w = sym value ∙ at_w in
    let same : view d.1 ≡ w = cc in
    here ∙ ap (λ u. Some (record { name = d.0.now; value = u })) same

-- an object of one member in memory
pub only_member : (v : Tree) (ms : List (Bor Name × Document)) (d : Bor Name × Document)
    → v ≡ object (members_view ms) → length ms ≡ 1 → IsOnlyMember v (get_or ms 0 d).0.now
only_member v [] d is one = absurd (omega arith)
only_member v (m ∷ []) d is one = record {
  members = members_view (m ∷ []);
  is_object = is;
  value = view m.1;
  only = ap members_in is;
}
only_member v (m ∷ n ∷ ms) d is one = absurd (omega arith)

-- the value of an only member is the only value
pub only_child : (v : Tree) (name : Name) (w : Tree) (o : IsOnlyMember v name)
    → slice_get (children v) 0 ≡ Some w
    → members o.members ≡ record { name = name; value = w } ∷ []
only_child v name w o at_w =
    let is : members o.members ≡ record { name = name; value = o.value } ∷ [] =
    ap members_in (sym o.is_object) ∙ o.only in
    let here : slice_get (children v) 0 ≡ Some o.value =
    ap (λ u. slice_get (children u) 0) o.is_object
    ∙ ap (λ (xs : List Member). slice_get (map (λ m. m.value) xs) 0) is in
    let both : Some o.value ≡ Some w = sym here ∙ at_w in
    let same : o.value ≡ w = cc in
    is ∙ ap (λ (u : Tree). record { name = name; value = u } ∷ []) same

-- an end in memory that is none of those that ask for more reads values as they are
pub scalar_rest : (e : code_end.End) → ((i : ℕ) → e ≡ code_end.TheVariants.Option i → ⊥)
    → ((i : ℕ) → e ≡ code_end.TheVariants.List i → ⊥)
    → ((is : Vec ℕ Global) → e ≡ code_end.TheVariants.Tuple is → ⊥)
    → ((k i : ℕ) → e ≡ code_end.TheVariants.Map k i → ⊥)
    → ((id : code_list.ListId) → e ≡ code_end.TheVariants.Object id → ⊥)
    → ((vs : Vec code_named.NamedVariant Global) → e ≡ code_end.TheVariants.NamedVariant vs → ⊥)
    → ((id : code_list.ListId) (vs : Vec code_alternative.Alternative Global)
    → e ≡ code_end.TheVariants.UntaggedVariant id vs → ⊥)
    → is_scalar_end (end_view e) ≡ true
scalar_rest (code_end.TheVariants.Option i) o l t m b n u = absurd (o i refl)
scalar_rest code_end.TheVariants.Null o l t m b n u = refl
scalar_rest code_end.TheVariants.Truth o l t m b n u = refl
scalar_rest (code_end.TheVariants.Whole range) o l t m b n u = refl
scalar_rest code_end.TheVariants.Float o l t m b n u = refl
scalar_rest code_end.TheVariants.Text o l t m b n u = refl
scalar_rest code_end.TheVariants.Character o l t m b n u = refl
scalar_rest (code_end.TheVariants.List i) o l t m b n u = absurd (l i refl)
scalar_rest (code_end.TheVariants.Tuple is) o l t m b n u = absurd (t is refl)
scalar_rest (code_end.TheVariants.Map k i) o l t m b n u = absurd (m k i refl)
scalar_rest (code_end.TheVariants.Object id) o l t m b n u = absurd (b id refl)
scalar_rest (code_end.TheVariants.NamedVariant vs) o l t m b n u = absurd (n vs refl)
scalar_rest (code_end.TheVariants.UntaggedVariant id vs) o l t m b n u = absurd (u id vs refl)
scalar_rest code_end.TheVariants.Anything o l t m b n u = refl

-- a kind in memory that is seen as a fallback is one
pub fallback_seen : (k : code_kind.AlternativeKind) → kind_view k ≡ a_fallback
    → k ≡ code_kind.TheVariants.Fallback
fallback_seen code_kind.TheVariants.Joins e = absurd (cc)
fallback_seen code_kind.TheVariants.Null e = absurd (cc)
fallback_seen (code_kind.TheVariants.Whole range) e = absurd (cc)
fallback_seen code_kind.TheVariants.Float e = absurd (cc)
fallback_seen code_kind.TheVariants.Fallback e = refl
fallback_seen code_kind.TheVariants.Other e = absurd (cc)

-- one that is seen as reading null alone is one
pub null_seen : (k : code_kind.AlternativeKind) → kind_view k ≡ types.null_alone
    → k ≡ code_kind.TheVariants.Null
null_seen code_kind.TheVariants.Joins e = absurd (cc)
null_seen code_kind.TheVariants.Null e = refl
null_seen (code_kind.TheVariants.Whole range) e = absurd (cc)
null_seen code_kind.TheVariants.Float e = absurd (cc)
null_seen code_kind.TheVariants.Fallback e = absurd (cc)
null_seen code_kind.TheVariants.Other e = absurd (cc)
