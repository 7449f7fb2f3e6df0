-- What a reading tells: how the value of each place is read, with the names of its type.
use Rattle.std.specs.Prelude.{◌≡◌, ℕ, List, [], ◌∷◌, map, zip, Option, Some, None, Box, Vec, slice_get}
use Rattle.std.specs.Borrow.{Bor}
use Rattle.std.specs.Global.{Global}
use Rattle.facet_solver_shape.specs.Catalogues.{Catalogue}
use Rattle.facet_solver_shape.specs.Names.{Name}
use Rattle.facet_solver_shape.specs.Resolved.{Selection, selection_view}
use Rattle.facet_solver_reader.specs.declared.document.Document.{Document}
use Rattle.facet_solver_reader.specs.declared.reading.FieldPlace.{FieldPlace}
use Rattle.facet_solver_reader.specs.declared.reading.ObjectReading.{ObjectReading}
use Rattle.facet_solver_reader.specs.declared.reading.Reading as code
use Rattle.facet_solver_reader.specs.declared.reading.ReadingKind.{ReadingKind}
use Rattle.facet_solver_reader.specs.declared.reading.ReadingKind.TheVariants as kinds
use Rattle.facet_solver_reader.specs.declared.reading.VariantName.{VariantName}
use Rattle.facet_solver_reader.specs.Choices.{Choice, Reading, a_value, each_of, a_variant}
use Rattle.facet_solver_reader.specs.Choices.{Readings, no_readings, reading, Taken, taken}
use Rattle.facet_solver_reader.specs.Choices.{none_left, passing}
use Rattle.facet_solver_reader.specs.Choices as choices
use Rattle.facet_solver_reader.specs.Documents.{Items, Member, Members, Tree, items, list, members}
use Rattle.facet_solver_reader.specs.Documents.{member, no_members, object, view}
use Rattle.facet_solver_reader.specs.FieldPlaces.{Path, shape_name, variant_name}
use Rattle.facet_solver_reader.specs.Known.{Chooses, IsKnown, named}
use Rattle.facet_solver_reader.specs.Objects.{find}
use Rattle.facet_solver_reader.specs.Parts.{CatchAll, ListId, Target, of_shape, of_content, of_tag}
use Rattle.facet_solver_reader.specs.Parts.{MemberPart, of_map, of_anything}
use Rattle.facet_solver_reader.specs.Readings.{ReadsValue}
use Rattle.facet_solver_reader.specs.Rules as types
use Rattle.facet_solver_reader.specs.Rules.{Alternative, Content, End, NamedVariant, Rules}
use Rattle.facet_solver_reader.specs.Rules.{a_list, a_map, a_named_variant, a_text, a_tuple}
use Rattle.facet_solver_reader.specs.Rules.{an_option, an_untagged_variant, anything}
use Rattle.facet_solver_reader.specs.Rules.{as_object, as_shape, as_tuple, no_content}
use Rattle.facet_solver_reader.specs.Steps.{Step, a_field, a_rest, an_absence, steps_through}
use Rattle.facet_solver_reader.specs.Steps as steps

-- the end as which content is told: what is within stands for it
abbrev pub end_of_content : Content → End
end_of_content no_content = types.null_alone
end_of_content (as_shape id) = an_option id
end_of_content (as_tuple ids) = a_tuple ids
end_of_content (as_object id) = types.an_object id

-- the end as which a target is told
abbrev pub end_of_target : Rules → Target → End
end_of_target rules (of_shape id) = rules.end_of id
end_of_target rules (of_content id k) = end_of_content (rules.content_of id k)
end_of_target rules (of_tag name) = a_text

-- the names of an enum and its variant
abbrev pub Names : Type 0
Names = Name × Name

-- those of the variant whose content a target is
abbrev pub names_of : Catalogue → Target → Names
names_of shapes (of_content id k) = (shape_name shapes id, variant_name shapes id k)
names_of shapes _ = ([], [])

-- names in memory
abbrev pub names_view : VariantName → Names
names_view v = (v.enum_name.now, v.variant_name.now)

-- texts in memory
abbrev pub texts : List (Bor Name) → List Name
texts xs = map (λ x. x.now) xs

-- a value that is read as an end
abbrev pub ValueAs : Type 0
ValueAs = End × Tree

-- values that are read as the shapes at their places
abbrev pub each_at : Rules → List (ℕ × Tree) → List ValueAs
each_at rules vs = map (λ v. (rules.end_of v.0, v.1)) vs

-- values that are read as one end
abbrev pub each_as : End → List Tree → List ValueAs
each_as e vs = map (λ v. (e, v)) vs

-- the values of members, which are read as one end
abbrev pub each_member_as : End → List Member → List ValueAs
each_member_as e ms = map (λ m. (e, m.value)) ms

-- the variants that steps select, with their paths
abbrev pub selections_in : Catalogue → List Step → List Selection
selections_in shapes [] = []
selections_in shapes (steps.a_variant path id k ∷ ss) =
    record { path = path; enum_name = shape_name shapes id; variant_name = variant_name shapes id k }
    ∷ selections_in shapes ss
selections_in shapes (a_field path m r ∷ ss) = selections_in shapes ss
selections_in shapes (an_absence path ∷ ss) = selections_in shapes ss
selections_in shapes (a_rest k t ∷ ss) = selections_in shapes ss

-- the paths of the enums that are absent among steps
abbrev pub absences_in : List Step → List Path
absences_in [] = []
absences_in (an_absence path ∷ ss) = path ∷ absences_in ss
absences_in (a_field path m r ∷ ss) = absences_in ss
absences_in (steps.a_variant path id k ∷ ss) = absences_in ss
absences_in (a_rest k t ∷ ss) = absences_in ss

-- paths in memory; where there are none, nothing need be there
abbrev pub paths_view : Option (Box (Vec Path Global) Global) → List Path
paths_view None = []
paths_view (Some paths) = paths.value.items

-- a member of a choice, with its path, and how it is read if the object has it
pub record FieldStep : Type 0 where
  pub path : Path
  pub part : MemberPart
  pub read : Option Reading

-- the members among steps
abbrev pub fields_in : List Step → List FieldStep
fields_in [] = []
fields_in (a_field path m r ∷ ss) = record { path = path; part = m; read = r } ∷ fields_in ss
fields_in (steps.a_variant path id k ∷ ss) = fields_in ss
fields_in (an_absence path ∷ ss) = fields_in ss
fields_in (a_rest k t ∷ ss) = fields_in ss

-- the catch-all among steps, with what it takes
abbrev pub rest_in : List Step → Option (CatchAll × Taken)
rest_in [] = None
rest_in (a_rest k t ∷ ss) = Some (k, t)
rest_in (a_field path m r ∷ ss) = rest_in ss
rest_in (steps.a_variant path id k ∷ ss) = rest_in ss
rest_in (an_absence path ∷ ss) = rest_in ss

-- where a member stands, in memory
abbrev pub place_view : FieldPlace → Path × Name
place_view f = (f.path, f.name.now)

-- where a member of a choice stands
abbrev pub place_of : FieldStep → Path × Name
place_of f = (f.path, f.part.name)

-- the end as which a catch-all takes values
abbrev pub end_taken : Rules → CatchAll → End
end_taken rules (of_map key value) = rules.end_of value
end_taken rules of_anything = anything

-- these are the names of the members that no choice of a list has, in order
pub data AreUnknown (rules : Rules) (id : ListId) : List Member → List Name → Type 0 where
  no_member : AreUnknown rules id [] []
  a_known : (m : Member) (ms : List Member) (names : List Name)
      → IsKnown (Chooses rules.lists id) (named m.name)
      → AreUnknown rules id ms names → AreUnknown rules id (m ∷ ms) names
  an_unknown : (m : Member) (ms : List Member) (names : List Name)
      → (IsKnown (Chooses rules.lists id) (named m.name) → ⊥)
      → AreUnknown rules id ms names → AreUnknown rules id (m ∷ ms) (m.name ∷ names)

mutual
  -- a reading of a value as an end is told by variants and a kind
  pub data TellsAs (rules : Rules) (shapes : Catalogue) :
      End → Tree → Reading → List VariantName → ReadingKind → Type 0 where
    -- a value that is read as it is
    as_it_is : (e : End) (d : Bor Document)
        → TellsAs rules shapes e (view d.now) a_value [] (kinds.Value d)
    -- an option that is there is told as what it holds
    inside : (id : ℕ) (v : Tree) (r : Reading) (ns : List VariantName) (k : ReadingKind)
        → TellsAs rules shapes (rules.end_of id) v r ns k
        → TellsAs rules shapes (an_option id) v r ns k
    -- the items of a list
    items_of : (id : ℕ) (vs : Items) (rs : Readings) (ws : Vec code.Reading Global)
        → TellsEach rules shapes (each_as (rules.end_of id) (items vs)) rs ws.items
        → TellsAs rules shapes (a_list id) (list vs) (each_of rs) [] (kinds.List ws)
    -- the values of a tuple
    places_of : (ids : List ℕ) (vs : Items) (rs : Readings) (ws : Vec code.Reading Global)
        → TellsEach rules shapes (each_at rules (zip ids (items vs))) rs ws.items
        → TellsAs rules shapes (a_tuple ids) (list vs) (each_of rs) [] (kinds.List ws)
    -- the entries of a map
    entries_of : (key id : ℕ) (ms : Members) (rs : Readings) (ns : Vec (Bor Name) Global)
        (ws : Vec code.Reading Global)
        → texts ns.items ≡ map (λ m. m.name) (members ms)
        → TellsEach rules shapes (each_member_as (rules.end_of id) (members ms)) rs ws.items
        → TellsAs rules shapes (a_map key id) (object ms) (each_of rs) [] (kinds.Map ns ws)
    -- an object by a list of parts
    by_parts : (id : ListId) (ms : Members) (c : Choice) (o : ObjectReading)
        (values rest : Vec code.Reading Global)
        → TellsObject rules shapes id (members ms) c o values.items rest.items
        → TellsAs rules shapes (types.an_object id) (object ms) (choices.an_object c) []
        (kinds.Object o values rest)
    -- an object by the variants of an untagged enum that join
    by_joined : (id : ListId) (alone : List Alternative) (ms : Members) (c : Choice)
        (o : ObjectReading) (values rest : Vec code.Reading Global)
        → TellsObject rules shapes id (members ms) c o values.items rest.items
        → TellsAs rules shapes (an_untagged_variant id alone) (object ms) (choices.an_object c) []
        (kinds.Object o values rest)
    -- a variant that stands by itself
    by_alternative : (id : ListId) (alone : List Alternative) (k : ℕ) (a : Alternative) (v : Tree)
        (r : Reading) (n : VariantName) (ns : List VariantName) (kind : ReadingKind)
        → slice_get alone k ≡ Some a → names_view n ≡ names_of shapes a.content
        → TellsAs rules shapes (end_of_target rules a.content) v r ns kind
        → TellsAs rules shapes (an_untagged_variant id alone) v (a_variant k r) (n ∷ ns) kind
    -- a variant that a text names
    by_name : (vs : List NamedVariant) (k : ℕ) (a : NamedVariant) (n : VariantName)
        (d : Bor Document) → slice_get vs k ≡ Some a → names_view n ≡ names_of shapes a.content
        → TellsAs rules shapes (a_named_variant vs) (view d.now) (a_variant k a_value) (n ∷ [])
        (kinds.Value d)
    -- a variant that the only member of an object names
    by_member : (vs : List NamedVariant) (k : ℕ) (a : NamedVariant) (n : VariantName) (name : Name)
        (v : Tree) (r : Reading) (w : Box code.Reading Global)
        → slice_get vs k ≡ Some a → names_view n ≡ names_of shapes a.content
        → TellsAs rules shapes (end_of_target rules a.content) v r w.value.variants.items
        w.value.kind
        → TellsAs rules shapes (a_named_variant vs) (object (member name v no_members))
        (a_variant k r) (n ∷ []) (kinds.Content w)

  -- values, each with its end, are told by readings
  pub data TellsEach (rules : Rules) (shapes : Catalogue) :
      List ValueAs → Readings → List code.Reading → Type 0 where
    no_values : TellsEach rules shapes [] no_readings []
    one_value : (v : ValueAs) (r : Reading) (w : code.Reading) (vs : List ValueAs) (rs : Readings)
        (ws : List code.Reading)
        → TellsAs rules shapes v.0 v.1 r w.variants.items w.kind → TellsEach rules shapes vs rs ws
        → TellsEach rules shapes (v ∷ vs) (reading r rs) (w ∷ ws)

  -- a choice of a list of parts, as an object has it, is told
  pub data TellsObject (rules : Rules) (shapes : Catalogue) :
      ListId → List Member → Choice → ObjectReading → List code.Reading → List code.Reading
      → Type 0 where
    steps_told : (id : ListId) (ms : List Member) (c : Choice) (ss : List Step) (o : ObjectReading)
        (values rest : List code.Reading)
        → ss ≡ steps_through (record { shapes = shapes; lists = rules.lists }) id c
        → map selection_view o.selections.items ≡ selections_in shapes ss
        → paths_view o.absent ≡ absences_in ss
        → map place_view o.fields.items ≡ map place_of (fields_in ss)
        → TellsFields rules shapes ms (fields_in ss) values
        → TellsRest rules shapes id ms (rest_in ss) o rest
        → TellsObject rules shapes id ms c o values rest

  -- the members of a choice, as an object has them, are told
  pub data TellsFields (rules : Rules) (shapes : Catalogue) :
      List Member → List FieldStep → List code.Reading → Type 0 where
    no_fields : (ms : List Member) → TellsFields rules shapes ms [] []
    one_field : (ms : List Member) (f : FieldStep) (w : code.Reading) (fs : List FieldStep)
        (ws : List code.Reading) → TellsField rules shapes ms f.part f.read w
        → TellsFields rules shapes ms fs ws → TellsFields rules shapes ms (f ∷ fs) (w ∷ ws)

  -- a member is told, by how it is read if the object has it
  pub data TellsField (rules : Rules) (shapes : Catalogue) :
      List Member → MemberPart → Option Reading → code.Reading → Type 0 where
    is_absent : (ms : List Member) (m : MemberPart) (w : code.Reading)
        → w.variants.items ≡ [] → w.kind ≡ kinds.Absent → TellsField rules shapes ms m None w
    is_present : (ms : List Member) (m : MemberPart) (v : Tree) (r : Reading) (w : code.Reading)
        → find ms m.name ≡ Some v
        → TellsAs rules shapes (end_of_target rules m.target) v r w.variants.items w.kind
        → TellsField rules shapes ms m (Some r) w

  -- the members of no known name are told: as what a catch-all takes, or as ignored
  pub data TellsRest (rules : Rules) (shapes : Catalogue) :
      ListId → List Member → Option (CatchAll × Taken) → ObjectReading → List code.Reading
      → Type 0 where
    all_taken : (id : ListId) (ms : List Member) (k : CatchAll) (t : Taken) (o : ObjectReading)
        (rest : List code.Reading)
        → TellsTaken rules shapes (end_taken rules k) ms t (texts o.taken.items) rest
        → o.ignored.items ≡ [] → TellsRest rules shapes id ms (Some (k, t)) o rest
    all_ignored : (id : ListId) (ms : List Member) (o : ObjectReading)
        → o.taken.items ≡ [] → AreUnknown rules id ms (texts o.ignored.items)
        → TellsRest rules shapes id ms None o []

  -- what a catch-all takes is told, with its names
  pub data TellsTaken (rules : Rules) (shapes : Catalogue) :
      End → List Member → Taken → List Name → List code.Reading → Type 0 where
    none_taken : (e : End) → TellsTaken rules shapes e [] none_left [] []
    one_passed : (e : End) (m : Member) (ms : List Member) (t : Taken) (ns : List Name)
        (ws : List code.Reading) → TellsTaken rules shapes e ms t ns ws
        → TellsTaken rules shapes e (m ∷ ms) (passing t) ns ws
    one_taken : (e : End) (m : Member) (ms : List Member) (t : Taken) (ns : List Name)
        (r : Reading) (w : code.Reading) (ws : List code.Reading)
        → TellsAs rules shapes e m.value r w.variants.items w.kind
        → TellsTaken rules shapes e ms t ns ws
        → TellsTaken rules shapes e (m ∷ ms) (taken r t) (m.name ∷ ns) (w ∷ ws)

-- a reading in memory tells a reading of a value as a target
pub record IsTold (rules : Rules) (shapes : Catalogue) (t : Target) (v : Tree) (w : code.Reading)
    : Type 0 where
  pub reading : Reading
  pub reads : ReadsValue rules t v reading
  pub tells : TellsAs rules shapes (end_of_target rules t) v reading w.variants.items w.kind

-- a reading in memory tells the only reading of a value as a target
pub record IsOnlyTold (rules : Rules) (shapes : Catalogue) (t : Target) (v : Tree)
    (w : code.Reading) : Type 0 where
  pub told : IsTold rules shapes t v w
  pub only : (r : Reading) → ReadsValue rules t v r → r ≡ told.reading
