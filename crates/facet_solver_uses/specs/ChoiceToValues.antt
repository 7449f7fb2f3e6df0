-- Which members of a document stand for the fields of a resolution.
use Rattle.std.specs.Prelude.{◌≡◌, ◌≢◌, ◌<◌, ◌↔◌, ℕ, Bool, true, false, List, ◌∷◌, ◌++◌, Option, Some, None, Result, Ok, Err, All, Contains, IsSome, ⊤, filter, length, map, slice_get, take, Vec}
use Rattle.std.specs.FinMap as finite
use Rattle.std.specs.Option.{option_and_then, option_copied}
use Rattle.std.specs.declared.alloc.Global.{Global}
use denote.Bor.{Bor}
use Rattle.facet_solver.specs.Fields.{FieldView}
use Rattle.facet_solver.specs.set.IndexSet.{upto}
use Rattle.facet_solver.specs.Keys.{Key, key_of}
use Rattle.facet_solver.specs.Resolved.{Resolved, field_by_key}
use Rattle.facet_solver_uses.specs.Taken.{AreTaken, TakerView, by_field, as_content, by_catch_all, first_unknown, is_taken, taker_of}
use Rattle.facet_solver_uses.specs.declared.choice_to_values.FieldValue.{FieldValue}
use Rattle.facet_solver_uses.specs.declared.choice_to_values.Values.{Values}
use Rattle.facet_solver_uses.specs.declared.choice_to_values.Others.{Others}
use Rattle.facet_solver_uses.specs.declared.choice_to_values.Mismatch.{Mismatch}
use Rattle.facet_solver_uses.specs.declared.choice_to_values.Mismatch.TheVariants.{Unknown, Repeated, Missing, OutOfMemory}

-- the field that each member means, by the member's index; none where no field takes it, or no such
-- member is there
abbrev pub Meaning : Type 0
Meaning = ℕ → Option FieldView

-- the field that the key of a member means
abbrev pub meant_by : Resolved → List Key → Meaning
meant_by r keys member = option_and_then (λ key. field_by_key key r) (slice_get keys member)

-- the field behind a reference at an index
abbrev pub meant_field_at : List (Option (Bor FieldView)) → Meaning
meant_field_at fields member = option_and_then option_copied (slice_get fields member)

-- two fields have one category and one name
abbrev pub HaveOneKey : FieldView → FieldView → Type 0
HaveOneKey f g = (f.category ≡ g.category) × (f.name ≡ g.name)

-- what takes each member, by the member's index; nothing where no such member is there
abbrev pub taker_at : Resolved → List Key → ℕ → Option TakerView
taker_at r keys member = option_and_then (λ key. taker_of key r) (slice_get keys member)

-- whether a member is taken as content
abbrev pub is_as_content : Option TakerView → Bool
is_as_content (Some as_content) = true
is_as_content _ = false

-- whether a catch-all takes a member
abbrev pub is_by_catch_all : Option TakerView → Bool
is_by_catch_all (Some (by_catch_all f)) = true
is_by_catch_all _ = false

-- the members that are content, in the order of the document
abbrev pub contents_of : Resolved → List Key → List ℕ
contents_of r keys = filter (λ member. is_as_content (taker_at r keys member)) (upto (length keys))

-- the members that a catch-all takes, in the order of the document
abbrev pub rest_of : Resolved → List Key → List ℕ
rest_of r keys = filter (λ member. is_by_catch_all (taker_at r keys member)) (upto (length keys))

-- a member is the only one that means a field
pub record IsOnly (meaning : Meaning) (f : FieldView) (member : ℕ) : Type 0 where
  pub means : meaning member ≡ Some f
  pub alone : (other : ℕ) → meaning other ≡ Some f → other ≡ member

-- the member of a field is the only one that means it; a field without one is meant by none
abbrev pub IsMemberOf : Meaning → FieldView → Option ℕ → Type 0
IsMemberOf meaning f (Some member) = IsOnly meaning f member
IsMemberOf meaning f None = (member : ℕ) → meaning member ≢ Some f

-- what is told of a field: its member, which is there if the field is required
pub record IsValue (meaning : Meaning) (value : FieldValue) : Type 0 where
  pub member : IsMemberOf meaning value.field.now value.member
  pub present : value.field.now.is_required ≡ true → IsSome value.member

-- two members mean a field, the first one and the next
pub record AreRepeated (meaning : Meaning) (f : FieldView) (first second : ℕ) : Type 0 where
  pub rising : first < second
  pub first_means : meaning first ≡ Some f
  pub second_means : meaning second ≡ Some f
  pub next : (other : ℕ) → other < second → meaning other ≡ Some f → other ≡ first

-- a field is required, and no member means it
pub record IsMissing (meaning : Meaning) (f : FieldView) : Type 0 where
  pub required : f.is_required ≡ true
  pub absent : (member : ℕ) → meaning member ≢ Some f

-- something holds of a field of a resolution, and each field before it in key order has its value
pub record IsFirst (r : Resolved) (meaning : Meaning) (f : FieldView) (fault : Type 0)
    : Type 0 where
  pub before : List FieldValue
  pub after : List FieldView
  pub place : finite.values r.fields ≡ map (λ v. v.field.now) before ++ f ∷ after
  pub well : All (IsValue meaning) before
  pub here : fault

-- each field of a resolution stands there with its value, in key order
pub record AreValues (r : Resolved) (meaning : Meaning) (values : List FieldValue) : Type 0 where
  pub fields : map (λ v. v.field.now) values ≡ finite.values r.fields
  pub well : All (IsValue meaning) values

-- the first field that is repeated or missing
abbrev pub IsFieldFault : Resolved → Meaning → Mismatch → Type 0
IsFieldFault r meaning (Unknown member key) = ⊥
IsFieldFault r meaning (Repeated field first second) =
    IsFirst r meaning field.now (AreRepeated meaning field.now first second)
IsFieldFault r meaning (Missing field) = IsFirst r meaning field.now (IsMissing meaning field.now)
IsFieldFault r meaning OutOfMemory = ⊤

-- the first member that the resolution does not take
pub record IsUnknownMember (r : Resolved) (keys : List Key) (member : ℕ) (key : Key) : Type 0 where
  pub there : slice_get keys member ≡ Some key
  pub unknown : is_taken key r ≡ false
  pub first : AreTaken r (take member keys)

-- the only member of a field, or the first two
abbrev pub FindsMember : Meaning → FieldView → Result (Option ℕ) Mismatch → Type 0
FindsMember meaning f (Ok member) = IsMemberOf meaning f member
FindsMember meaning f (Err (Repeated field first second)) =
    (field.now ≡ f) × AreRepeated meaning f first second
FindsMember meaning f (Err other) = ⊥

-- the fields with their members, or the first fault
abbrev pub FindsMembers : Resolved → Meaning → Result (Vec FieldValue Global) Mismatch → Type 0
FindsMembers r meaning (Ok values) = AreValues r meaning values.items
FindsMembers r meaning (Err fault) = IsFieldFault r meaning fault

-- an error of the search for members that no field takes
abbrev pub IsOthersFault : Resolved → List Key → Mismatch → Type 0
IsOthersFault r keys (Unknown member key) = IsUnknownMember r keys member (key_of key)
IsOthersFault r keys OutOfMemory = ⊤
IsOthersFault r keys other = ⊥

-- the members that are content and those that a catch-all takes, where each key is taken; or the
-- first one that is not
abbrev pub FindsOthers : Resolved → List Key → Result Others Mismatch → Type 0
FindsOthers r keys (Ok others) =
    (others.contents.items ≡ contents_of r keys)
    × (others.rest.items ≡ rest_of r keys)
    × AreTaken r keys
FindsOthers r keys (Err fault) = IsOthersFault r keys fault

-- a member stands at a field
abbrev pub StandsAt : Values → ℕ → FieldView → Type 0
StandsAt values member f =
    (v : FieldValue) × Contains values.fields.items v
    × (v.field.now ≡ f) × (v.member ≡ Some member)

-- a member stands at a field exactly if that takes it, among the contents exactly if it is taken as
-- content, and among the rest exactly if a catch-all takes it
pub record IsPlaced (values : Values) (member : ℕ) (taker : Option TakerView) : Type 0 where
  pub at_field : (f : FieldView) → StandsAt values member f ↔ (taker ≡ Some (by_field f))
  pub in_contents : Contains values.contents.items member ↔ (taker ≡ Some as_content)
  pub in_rest : Contains values.rest.items member
      ↔ ((f : FieldView) × (taker ≡ Some (by_catch_all f)))

-- each field has its value, and no member is lost: each has a taker, and stands there alone
pub record PlacesAll (r : Resolved) (keys : List Key) (values : Values) : Type 0 where
  pub fields : AreValues r (meant_by r keys) values.fields.items
  pub contents : values.contents.items ≡ contents_of r keys
  pub rest : values.rest.items ≡ rest_of r keys
  pub taken : AreTaken r keys
  pub placed : (member : ℕ) → IsPlaced values member (taker_at r keys member)

-- a mismatch is there. An unknown member comes before any fault of a field
abbrev pub IsMismatch : Resolved → List Key → Mismatch → Type 0
IsMismatch r keys (Unknown member key) = IsUnknownMember r keys member (key_of key)
IsMismatch r keys OutOfMemory = ⊤
IsMismatch r keys fault = AreTaken r keys × IsFieldFault r (meant_by r keys) fault

-- what a resolution and the keys of all members come to
abbrev pub GivesValues : Resolved → List Key → Result Values Mismatch → Type 0
GivesValues r keys (Ok values) = PlacesAll r keys values
GivesValues r keys (Err fault) = IsMismatch r keys fault

-- the key of the unknown member that an answer tells
abbrev pub unknown_key : Result Values Mismatch → Option Key
unknown_key (Err (Unknown member key)) = Some (key_of key)
unknown_key _ = None

-- an answer tells the first key that the resolution does not take, and none where it takes them
-- all; or memory ran out
abbrev pub TellsFirstUnknown : Resolved → List Key → Result Values Mismatch → Type 0
TellsFirstUnknown r keys (Err OutOfMemory) = ⊤
TellsFirstUnknown r keys answer = unknown_key answer ≡ first_unknown r keys
