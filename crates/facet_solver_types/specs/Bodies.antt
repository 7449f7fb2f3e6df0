-- What stands in the brackets of structs, enums and variants.
use Rattle.std.specs.Prelude.{Bool, true, false, ◌||◌, if◌then◌else◌, ◌==◌, List, length, Result, Ok, Err}
use Rattle.facet_solver_types.specs.Ascii as ascii
use Rattle.facet_solver_types.specs.declared.fault.Fault.{Fault}
use Rattle.facet_solver_types.specs.declared.grammar.run.Run.TheVariants.{Value}
use Rattle.facet_solver_types.specs.declared.problem.Expected as problem
use Rattle.facet_solver_types.specs.declared.problem.Expected.TheVariants as expected
use Rattle.facet_solver_types.specs.declared.token.Bracket.TheVariants.{Round, Curly}
use Rattle.facet_solver_types.specs.Declarations.{Body, Variant, unit, tuple, named}
use Rattle.facet_solver_types.specs.Fields.{attributes, fields}
use Rattle.facet_solver_types.specs.FirstTokens.{sees_mark, sees_open}
use Rattle.facet_solver_types.specs.Inside.{inside, name_at}
use Rattle.facet_solver_types.specs.Passages.{Passage, after, unexpected}
use Rattle.facet_solver_types.specs.Pieces.{and_then, each, pieces}
use Rattle.facet_solver_types.specs.Prefixes.{attributes_len}
use Rattle.facet_solver_types.specs.Runs.{group_len}

-- the fields that stand first, in `{ }` or `( )`, or none
abbrev pub body_at : Bool → Passage → Result Body Fault
body_at may_be_public passage =
    if sees_open Curly passage.tokens
    then and_then (fields true may_be_public (inside passage)) (λ fields. Ok (named fields))
    else (if sees_open Round passage.tokens
    then and_then (fields false may_be_public (inside passage)) (λ fields. Ok (tuple fields))
    else Ok unit)

-- what stands after the fields that stand first
abbrev pub after_body : Passage → Passage
after_body passage =
    if sees_open Curly passage.tokens || sees_open Round passage.tokens
    then after (group_len passage.tokens) passage else passage

-- a variant may end here: nothing follows, or a value
abbrev pub variant_end : Passage → Result (Unit {0}) Fault
variant_end passage =
    if length passage.tokens == 0 || sees_mark ascii.equals passage.tokens then Ok tt
    else Err (unexpected expected.VariantEnd passage)

-- a variant: attributes, a name, fields if any, and a value if any
unfoldable pub variant : Passage → Result Variant Fault
variant passage =
    let rest = after (attributes_len false passage.tokens) passage in
    and_then (name_at rest) (λ name.
    and_then (body_at false (after 1 rest)) (λ body.
    and_then (variant_end (after_body (after 1 rest))) (λ end.
    Ok (record { attributes = attributes passage; name = name; body = body }))))

-- the variants between commas
abbrev pub variants : Passage → Result (List Variant) Fault
variants passage = each variant (pieces Value passage)

-- what is expected after the fields of a struct
abbrev pub expected_after : Body → problem.Expected
expected_after unit = expected.Body
expected_after (tuple fields) = expected.Semicolon
expected_after (named fields) = expected.Semicolon

-- a struct may end here: with `}`, or before `;`
abbrev pub struct_end : Body → Passage → Result (Unit {0}) Fault
struct_end (named fields) passage = Ok tt
struct_end body passage =
    if sees_mark ascii.semicolon passage.tokens then Ok tt
    else Err (unexpected (expected_after body) passage)

-- what stands in the braces that stand first
abbrev pub braces : Passage → Result Passage Fault
braces passage =
    if sees_open Curly passage.tokens then Ok (inside passage)
    else Err (unexpected expected.Braces passage)
