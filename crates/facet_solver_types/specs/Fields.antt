-- The fields of structs and variants.
use Rattle.std.specs.Prelude.{Bool, false, ◌==◌, if◌then◌else◌, List, length, take, Option, Some, None, Result, Ok, Err}
use Rattle.facet_solver_types.specs.Ascii as ascii
use Rattle.facet_solver_types.specs.declared.fault.Fault.{Fault}
use Rattle.facet_solver_types.specs.declared.grammar.run.Run.TheVariants as run
use Rattle.facet_solver_types.specs.declared.problem.Expected.TheVariants.{Colon, FieldType}
use Rattle.facet_solver_types.specs.Declarations.{Field}
use Rattle.facet_solver_types.specs.FirstTokens.{sees_mark}
use Rattle.facet_solver_types.specs.Inside.{name_at}
use Rattle.facet_solver_types.specs.Passages.{Passage, after, unexpected}
use Rattle.facet_solver_types.specs.Pieces.{and_then, each, pieces}
use Rattle.facet_solver_types.specs.Prefixes.{attributes_len, visibility_len}
use Rattle.facet_solver_types.specs.Tokens.{Token}

-- the tokens of the attributes that stand first
abbrev pub attributes : Passage → List Token
attributes passage = take (attributes_len false passage.tokens) passage.tokens

-- what stands after attributes, and after `pub` where it may stand
abbrev pub after_prefix : Bool → Passage → Passage
after_prefix may_be_public passage =
    let rest = after (attributes_len false passage.tokens) passage in
    if may_be_public then after (visibility_len rest.tokens) rest else rest

-- the field of this name, if any, with this type, which has some tokens
abbrev pub field_of : Passage → Option Token → Passage → Result Field Fault
field_of passage name written =
    if length written.tokens == 0 then Err (unexpected FieldType written)
    else Ok (record { attributes = attributes passage; name = name; written = written })

-- the type of a field, after a colon
abbrev pub after_colon : Passage → Result Passage Fault
after_colon passage =
    if sees_mark ascii.colon passage.tokens then Ok (after 1 passage)
    else Err (unexpected Colon passage)

-- a field in `{ }`: attributes, `pub` where it may stand, a name, a colon and a type
unfoldable pub named_field : Bool → Passage → Result Field Fault
named_field may_be_public passage =
    let rest = after_prefix may_be_public passage in
    and_then (name_at rest) (λ name.
    and_then (after_colon (after 1 rest)) (λ written. field_of passage (Some name) written))

-- a field in `( )`: attributes, `pub` where it may stand, and a type
abbrev pub tuple_field : Bool → Passage → Result Field Fault
tuple_field may_be_public passage =
    field_of passage None (after_prefix may_be_public passage)

-- a field with a name or without
abbrev pub field : Bool → Bool → Passage → Result Field Fault
field has_name may_be_public passage =
    if has_name then named_field may_be_public passage else tuple_field may_be_public passage

-- the fields between commas
abbrev pub fields : Bool → Bool → Passage → Result (List Field) Fault
fields has_names may_be_public passage =
    each (field has_names may_be_public) (pieces run.FieldType passage)
