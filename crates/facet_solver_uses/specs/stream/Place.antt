-- Where a reader of a document is, and which events may stand there.
use Rattle.std.specs.Prelude.{◌++◌, ◌-◌, Bool, true, false, List, [], ◌∷◌, Option, Some, length, slice_get, take}
use Rattle.std.specs.List.{list_any}
use Rattle.facet_solver.specs.Names.{Name}
use Rattle.facet_solver_uses.specs.declared.stream.event.Event.{Event}
use Rattle.facet_solver_uses.specs.declared.stream.event.Event.TheVariants.{Key, Object as ObjectBegins, List as ListBegins, Scalar, Text, End}
use Rattle.facet_solver_uses.specs.declared.stream.place.Frame.{Frame}
use Rattle.facet_solver_uses.specs.declared.stream.place.Frame.TheVariants.{Document, Object as InObject, Member, List as InList}

-- a place in a document: what is open there and the keys that lead there, both from the root
pub record PlaceView : Type 0 where
  pub frames : List Frame
  pub path : List Name

-- a place, by its parts
abbrev pub at : List Frame → List Name → PlaceView
at frames path = record { frames = frames; path = path }

-- where a document begins
abbrev pub beginning : PlaceView
beginning = at (Document ∷ []) []

-- a list without its last item
abbrev pub without_last : {X : Type 0} → List X → List X
without_last xs = take (length xs - 1) xs

-- the innermost of what is open
abbrev pub innermost : PlaceView → Option Frame
innermost place = slice_get place.frames (length place.frames - 1)

-- whether an event may stand in what is open innermost
abbrev pub may_stand_in : Event → Option Frame → Bool
may_stand_in (Key name) (Some InObject) = true
may_stand_in ObjectBegins (Some Document) = true
may_stand_in ObjectBegins (Some Member) = true
may_stand_in ObjectBegins (Some InList) = true
may_stand_in ListBegins (Some Member) = true
may_stand_in ListBegins (Some InList) = true
may_stand_in (Scalar shapes) (Some Member) = true
may_stand_in (Scalar shapes) (Some InList) = true
may_stand_in (Text text shapes) (Some Member) = true
may_stand_in (Text text shapes) (Some InList) = true
may_stand_in End (Some InObject) = true
may_stand_in End (Some InList) = true
may_stand_in event frame = false

-- whether an event may stand at a place
abbrev pub may_stand : Event → PlaceView → Bool
may_stand event place = may_stand_in event (innermost place)

-- a value has ended: the member that it is of, or the document, is no longer open
abbrev pub value_ended_in : Option Frame → PlaceView → PlaceView
value_ended_in (Some Member) place = at (without_last place.frames) (without_last place.path)
value_ended_in (Some Document) place = at (without_last place.frames) place.path
value_ended_in frame place = place

-- the place behind a value
abbrev pub value_ended : PlaceView → PlaceView
value_ended place = value_ended_in (innermost place) place

-- the place behind an event
abbrev pub behind : Event → PlaceView → PlaceView
behind (Key name) place = at (place.frames ++ Member ∷ []) (place.path ++ name.now ∷ [])
behind ObjectBegins place = at (place.frames ++ InObject ∷ []) place.path
behind ListBegins place = at (place.frames ++ InList ∷ []) place.path
behind (Scalar shapes) place = value_ended place
behind (Text text shapes) place = value_ended place
behind End place = value_ended (at (without_last place.frames) place.path)

-- whether what is open is a list
abbrev pub is_list : Frame → Bool
is_list InList = true
is_list frame = false

-- whether a place lies in a list, at whatever depth
abbrev pub in_list : PlaceView → Bool
in_list place = list_any is_list place.frames
