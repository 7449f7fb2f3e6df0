-- Shapes of declarations and types: the definitions, row by row.
use Rattle.std.proofs.Common.{◌≡◌, ℕ, Bool, true, false, List, [], ◌∷◌, ◌++◌, Option, Some, None, Result, Ok, Err, codes, map, refl}
use Rattle.std.specs.List.{range_with_len}
use Rattle.facet_solver_shape.specs.Names.{Name}
use Rattle.facet_solver_shape.specs.declared.shape.DomMark.TheVariants as marks
use Rattle.facet_solver_shape.specs.declared.shape.ScalarType.TheVariants as scalars
use Rattle.facet_solver_shape.specs.declared.shape.ShapeKind.TheVariants as kinds
use Rattle.facet_solver_shape.specs.declared.shape.StructKind.TheVariants as structs
use Rattle.facet_solver_types.specs.declared.catalogue.absences.Absence.{Absence}
use Rattle.facet_solver_types.specs.declared.catalogue.absences.Absence.TheVariants.{Taken, Passed, Refused}
use Rattle.facet_solver_types.specs.declared.fault.Fault.TheVariants.{At}
use Rattle.facet_solver_types.specs.Absences.{absence_of, is_taken, leads_to_option}
use Rattle.facet_solver_types.specs.declared.problem.Problem.TheVariants as problem
use Rattle.facet_solver_types.specs.declared.shape_problem.ShapeProblem.TheVariants as why
use Rattle.facet_solver_types.specs.declared.token.TokenKind.TheVariants as tokens
use Rattle.facet_solver_types.specs.CataloguedTypes.{catalogue_of}
use Rattle.facet_solver_types.specs.Failures.{Failure, needed}
use Rattle.facet_solver_types.specs.MadeShapes.{declared_shape, kind_of, tuple_field}
use Rattle.facet_solver_types.specs.Passages.{Passage}
use Rattle.facet_solver_types.specs.ShapeViews.{Kind, Shape, other, structure}
use Rattle.facet_solver_types.specs.Sites.{top}
use Rattle.facet_solver_types.specs.TypeEntries.{Form, TypeEntry, array, declared, dynamic, list, mapping, option, pointer, scalar, set, slice, tuple}
use Rattle.facet_solver_types.specs.TypesViews.{Types}
use Rattle.facet_solver_types.specs.Understood.{Declaration, Declared, DeclaredField, Tagging, enum, proxied, struct}
use Rattle.facet_solver_types.specs.Walks.{in_order, reach, reached, with_type}

-- types come after what they need: 0 needs 1 and 2, and 2 needs 1; 3 needs none and none needs it
pub order_rows :
    (in_order ((1 ∷ 2 ∷ []) ∷ [] ∷ (1 ∷ []) ∷ [] ∷ []) (0 ∷ 1 ∷ 2 ∷ 3 ∷ []) ≡ 1 ∷ 2 ∷ 0 ∷ 3 ∷ [])
    × (in_order ((2 ∷ 1 ∷ []) ∷ [] ∷ (1 ∷ []) ∷ [] ∷ []) (0 ∷ 1 ∷ 2 ∷ 3 ∷ []) ≡ 1 ∷ 2 ∷ 0 ∷ 3 ∷ [])
    × (in_order ([] ∷ (3 ∷ []) ∷ [] ∷ (2 ∷ []) ∷ []) (1 ∷ 0 ∷ []) ≡ 2 ∷ 3 ∷ 1 ∷ 0 ∷ [])
    × (in_order ([] ∷ [] ∷ []) (1 ∷ 0 ∷ 1 ∷ []) ≡ 1 ∷ 0 ∷ [])
unfolding with_type
order_rows = (refl, refl, refl, refl)

-- 0 leads to 1, which leads to itself; 0 doesn't lead to itself
pub reach_rows :
    (reached ((1 ∷ []) ∷ (1 ∷ []) ∷ [] ∷ []) 0 ≡ false ∷ true ∷ false ∷ [])
    × (reached ((1 ∷ []) ∷ (2 ∷ []) ∷ (0 ∷ []) ∷ []) 0 ≡ true ∷ true ∷ true ∷ [])
    × (reached ((1 ∷ []) ∷ [] ∷ []) 5 ≡ false ∷ false ∷ [])
unfolding reach
reach_rows = (refl, refl, refl)

-- the kinds of types that no declaration declares
pub kind_rows :
    (kind_of (codes "T" ∷ []) (scalar scalars.U8) ≡ other (kinds.Scalar scalars.U8))
    × (kind_of (codes "S" ∷ codes "T" ∷ []) (option (codes "T")) ≡ other (kinds.Option 1))
    × (kind_of (codes "S" ∷ codes "T" ∷ []) (list (codes "S")) ≡ other (kinds.List 0))
    × (kind_of (codes "T" ∷ []) (array (codes "T")) ≡ other (kinds.Array 0))
    × (kind_of (codes "T" ∷ []) (slice (codes "T")) ≡ other (kinds.Slice 0))
    × (kind_of (codes "T" ∷ []) (set (codes "T")) ≡ other (kinds.Set 0))
    × (kind_of (codes "S" ∷ codes "T" ∷ []) (mapping (codes "T") (codes "S")) ≡ other (kinds.Map 1 0))
    × (kind_of (codes "T" ∷ []) (pointer (codes "T")) ≡ other (kinds.Pointer (Some 0)))
    × (kind_of [] dynamic ≡ other kinds.DynamicValue)
    × (kind_of (codes "T" ∷ []) (tuple (codes "T" ∷ codes "T" ∷ []))
    ≡ structure structs.Tuple (tuple_field (codes "T" ∷ []) 0 (codes "T") ∷ tuple_field (codes "T" ∷ []) 1 (codes "T") ∷ []))
kind_rows = (refl, refl, refl, refl, refl, refl, refl, refl, refl, refl)

-- no tokens
abbrev nothing : Passage
nothing = record { tokens = []; end = 0 }

-- a field of a name, which is flattened at an offset or not
abbrev field : Name → Option ℕ → DeclaredField
field name flattened = record {
  offset = 0;
  name = name;
  rename = None;
  flattened = flattened;
  has_default = false;
  metadata = false;
  dom = marks.None;
  written = nothing;
  proxies = [];
}

-- a declaration of a name that stands at an offset
abbrev declaration : ℕ → Name → Declared → Declaration
declaration offset name what = record {
  site = top;
  name = record { offset = offset; kind = tokens.Name; text = name };
  parameters = [];
  has_other_forms = false;
  denies_unknown = false;
  faults = [];
  declared = what;
}

-- a type
abbrev entry : Name → Form → TypeEntry
entry id form = record { id = id; form = form }

-- a struct with a field of a name, which is flattened or not
abbrev with_field : Name → Option ℕ → Declared
with_field name flattened = struct structs.Struct (field name flattened ∷ []) false false false

-- the name and the kind of a shape
abbrev said : Shape → Name × Kind
said s = (s.name, s.kind)

-- what two declarations give, `A` with a field `b`, and `B`, with these types of their fields
abbrev two : Option ℕ → Name → Declared → List (List Name) → List TypeEntry → Result Types Failure
two flattened id what types others =
    catalogue_of (declaration 7 (codes "A") (with_field (codes "b") flattened) ∷ declaration 90 (codes "B") what ∷ [])
    (entry (codes "A") (declared 0 ((id ∷ []) ∷ [])) ∷ entry (codes "B") (declared 1 types) ∷ others)
    (codes "A")

-- the names and the kinds of the shapes that are given
abbrev shapes_of : Result Types Failure → List (Name × Kind)
shapes_of (Ok types) = map said types.shapes
shapes_of (Err failure) = []

-- their names
abbrev names_of : Result Types Failure → List Name
names_of result = map (λ (s : Name × Kind). s.0) (shapes_of result)

-- a declaration that holds itself, itself or by another, and one that holds itself in a list
pub itself_rows :
    (two None (codes "B") (with_field (codes "a") None) ((codes "A" ∷ []) ∷ []) []
    ≡ Err (needed (At 7 (problem.Shape why.HoldsItself) ∷ At 90 (problem.Shape why.HoldsItself) ∷ [])))
    × (two None (codes "B") (with_field (codes "b") None) ((codes "B" ∷ []) ∷ []) []
    ≡ Err (needed (At 90 (problem.Shape why.HoldsItself) ∷ [])))
    × (names_of (two (Some 20) (codes "B") (with_field (codes "b") None) ((codes "L" ∷ []) ∷ [])
    (entry (codes "L") (list (codes "B")) ∷ [])) ≡ codes "L" ∷ codes "B" ∷ codes "A" ∷ [])
unfolding reach with_type
itself_rows = (refl, refl, refl)

-- no tag
abbrev untagged : Tagging
untagged = record { tag = None; content = None; untagged = false }

-- an enum without variants
abbrev empty : Declared
empty = enum [] untagged

-- the fault of a flattened field whose type has no members
abbrev refused : Result Types Failure
refused = Err (needed (At 20 (problem.Shape why.NoMembers) ∷ []))

-- the type `u8`
abbrev byte : TypeEntry
byte = entry (codes "u8") (scalar scalars.U8)

-- types that no field may flatten
pub flatten_rows :
    (two (Some 20) (codes "B") (struct structs.Unit [] false false false) ([] ∷ []) [] ≡ refused)
    × (two (Some 20) (codes "B") (struct structs.TupleStruct [] false false false) ([] ∷ []) [] ≡ refused)
    × (two (Some 20) (codes "B") (struct structs.Struct (field (codes "u") None ∷ []) true false false)
    ((codes "u8" ∷ []) ∷ []) (byte ∷ []) ≡ refused)
    × (two (Some 20) (codes "u8") empty [] (byte ∷ []) ≡ refused)
    × (two (Some 20) (codes "P") empty [] (entry (codes "P") (pointer (codes "B")) ∷ []) ≡ refused)
    × (two (Some 20) (codes "O") empty [] (entry (codes "O") (option (codes "u8")) ∷ byte ∷ [])
    ≡ refused)
    × (two (Some 20) (codes "B") (proxied []) ((codes "u8" ∷ []) ∷ []) (byte ∷ []) ≡ refused)
unfolding reach with_type
flatten_rows = (refl, refl, refl, refl, refl, refl, refl)

-- types that a field may flatten
pub flattened_rows :
    (names_of (two (Some 20) (codes "B") empty [] []) ≡ codes "B" ∷ codes "A" ∷ [])
    × (names_of (two (Some 20) (codes "B") (struct structs.Struct [] false false false) ([] ∷ []) [])
    ≡ codes "B" ∷ codes "A" ∷ [])
    × (names_of (two (Some 20) (codes "O") empty [] (entry (codes "O") (option (codes "B")) ∷ []))
    ≡ codes "B" ∷ codes "O" ∷ codes "A" ∷ [])
    × (names_of (two (Some 20) (codes "V") empty [] (entry (codes "V") dynamic ∷ []))
    ≡ codes "V" ∷ codes "A" ∷ codes "B" ∷ [])
    × (names_of (two (Some 20) (codes "M") empty []
    (entry (codes "M") (mapping (codes "u8") (codes "B")) ∷ byte ∷ []))
    ≡ codes "M" ∷ codes "A" ∷ codes "B" ∷ codes "u8" ∷ [])
unfolding reach with_type
flattened_rows = (refl, refl, refl, refl, refl)

-- the shapes of declarations
pub declared_rows :
    ((declared_shape (codes "u8" ∷ []) (codes "S")
    (struct structs.TupleStruct (field (codes "0") None ∷ []) true false false) ((codes "u8" ∷ []) ∷ [])).inner
    ≡ Some 0)
    × ((declared_shape (codes "u8" ∷ []) (codes "S")
    (struct structs.TupleStruct (field (codes "0") None ∷ []) false false true) ((codes "u8" ∷ []) ∷ [])).inner
    ≡ None)
    × ((declared_shape (codes "u8" ∷ []) (codes "S") (proxied []) ((codes "u8" ∷ []) ∷ [])).proxy
    ≡ Some 0)
    × ((declared_shape (codes "u8" ∷ []) (codes "S") (proxied []) ((codes "u8" ∷ []) ∷ [])).kind
    ≡ other kinds.Other)
    × ((declared_shape [] (codes "E")
    (enum [] (record { tag = Some (codes "t"); content = Some (codes "c"); untagged = true })) []).tag
    ≡ Some (codes "t"))
declared_rows = (refl, refl, refl, refl, refl)

-- what types do with an absent member, `S` among them, which is declared so, with the type `T` in it
abbrev absence : Declared → Form → Absence
absence what form = absence_of (declaration 0 (codes "S") what ∷ []) (codes "S" ∷ codes "T" ∷ []) form

-- the same of `S`
abbrev of_declared : Declared → Absence
of_declared what = absence what (declared 0 ((codes "T" ∷ []) ∷ []))

-- an option takes it, others pass it on, and others refuse it
pub absence_rows :
    (absence empty (option (codes "T")) ≡ Taken)
    × (absence empty (pointer (codes "T")) ≡ Passed 1)
    × (absence empty (list (codes "T")) ≡ Refused)
    × (of_declared (proxied []) ≡ Passed 1)
    × (of_declared (struct structs.Struct (field (codes "a") None ∷ []) true true false) ≡ Passed 1)
    × (of_declared (struct structs.TupleStruct (field (codes "0") None ∷ []) true true false) ≡ Passed 1)
    × (of_declared (struct structs.TupleStruct (field (codes "0") None ∷ []) true false false) ≡ Refused)
    × (of_declared (with_field (codes "a") None) ≡ Refused)
    × (of_declared empty ≡ Refused)
    × (absence empty (declared 1 []) ≡ Refused)
absence_rows = (refl, refl, refl, refl, refl, refl, refl, refl, refl, refl)

-- 0 leads over 1 to the option 2; 4 leads to 3, which refuses it; 5 and 6 lead to one another
abbrev leads : ℕ → Bool
leads place =
    leads_to_option (Passed 1 ∷ Passed 2 ∷ Taken ∷ Refused ∷ Passed 3 ∷ Passed 6 ∷ Passed 5 ∷ []) place

-- which of them are no options, and lead to one
pub lead_rows :
    (map leads (0 ∷ 1 ∷ 2 ∷ 3 ∷ 4 ∷ 5 ∷ 6 ∷ 7 ∷ [])
    ≡ true ∷ true ∷ false ∷ false ∷ false ∷ false ∷ false ∷ false ∷ [])
    × (leads_to_option (map Passed (range_with_len 1 127) ++ Taken ∷ []) 0 ≡ true)
    × (leads_to_option (map Passed (range_with_len 1 128) ++ Taken ∷ []) 0 ≡ false)
    × (leads_to_option (map Passed (range_with_len 1 128) ++ Taken ∷ []) 1 ≡ true)
unfolding is_taken
lead_rows = (refl, refl, refl, refl)
