-- Structs, enums and aliases, by their names.
use Rattle.std.specs.Prelude.{true, if◌then◌else◌, List, Result, Ok, Err}
use Rattle.facet_solver_types.specs.Ascii as ascii
use Rattle.facet_solver_types.specs.declared.fault.Fault.{Fault}
use Rattle.facet_solver_types.specs.declared.grammar.run.Run.TheVariants as run
use Rattle.facet_solver_types.specs.declared.grammar.starts.Start.{Start}
use Rattle.facet_solver_types.specs.declared.grammar.starts.Start.TheVariants.{Struct, Enum}
use Rattle.facet_solver_types.specs.declared.problem.Expected.TheVariants as expected
use Rattle.facet_solver_types.specs.Bodies.{after_body, body_at, braces, struct_end, variants}
use Rattle.facet_solver_types.specs.Declarations.{Item, struct, enum, alias, faulty}
use Rattle.facet_solver_types.specs.FirstTokens.{sees_mark}
use Rattle.facet_solver_types.specs.Inside.{name_at}
use Rattle.facet_solver_types.specs.Parameters.{after_parameters, after_where, parameters}
use Rattle.facet_solver_types.specs.Passages.{Passage, after, unexpected, up_to}
use Rattle.facet_solver_types.specs.Pieces.{and_then}
use Rattle.facet_solver_types.specs.Runs.{run_len}
use Rattle.facet_solver_types.specs.Tokens.{Token}

-- what stands after the parameters of a declaration and its `where`, which may stand first
abbrev pub after_heading : Passage → Passage
after_heading passage = after_where (after_parameters passage)

-- a struct, after its name: parameters if any, and fields, with a `where` if any
unfoldable pub struct_of : List Token → Token → Passage → Result Item Fault
struct_of attributes name passage =
    let rest = after_heading passage in
    and_then (parameters passage) (λ parameters.
    and_then (body_at true rest) (λ body.
    and_then (struct_end body (after_where (after_body rest))) (λ end.
    Ok (struct attributes name parameters body))))

-- an enum, after its name: parameters if any, a `where` if any, and variants
unfoldable pub enum_of : List Token → Token → Passage → Result Item Fault
enum_of attributes name passage =
    and_then (parameters passage) (λ parameters.
    and_then (braces (after_heading passage)) (λ inside.
    and_then (variants inside) (λ variants. Ok (enum attributes name parameters variants))))

-- a `;` stands first
abbrev pub semicolon : Passage → Result (Unit {0}) Fault
semicolon passage =
    if sees_mark ascii.semicolon passage.tokens then Ok tt
    else Err (unexpected expected.Semicolon passage)

-- what stands after the `=` that stands first
abbrev pub after_equals : Passage → Result Passage Fault
after_equals passage =
    if sees_mark ascii.equals passage.tokens then Ok (after 1 passage)
    else Err (unexpected expected.Equals passage)

-- what stands before the `;` that ends a statement
abbrev pub up_to_semicolon : Passage → Result Passage Fault
up_to_semicolon passage =
    let len = run_len run.Statement passage.tokens in
    and_then (semicolon (after len passage)) (λ end. Ok (up_to len passage))

-- an alias, after its name: parameters if any, a `where` if any, `=`, and a type up to `;`
unfoldable pub alias_of : List Token → Token → Passage → Result Item Fault
alias_of attributes name passage =
    and_then (parameters passage) (λ parameters.
    and_then (after_equals (after_heading passage)) (λ rest.
    and_then (up_to_semicolon rest) (λ written. Ok (alias attributes name parameters written))))

-- a struct, an enum or an alias, as it begins, after its name
abbrev pub declared_by : Start → List Token → Token → Passage → Result Item Fault
declared_by Struct attributes name passage = struct_of attributes name passage
declared_by Enum attributes name passage = enum_of attributes name passage
declared_by start attributes name passage = alias_of attributes name passage

-- what was read by a name, or one that cannot be read
abbrev pub or_faulty : List Token → Token → Result Item Fault → Item
or_faulty attributes name (Ok item) = item
or_faulty attributes name (Err fault) = faulty attributes name fault

-- a struct, an enum or an alias, as it begins, after its keyword: what stands after its name may
-- have a fault
abbrev pub declaration : Start → List Token → Passage → Result Item Fault
declaration start attributes passage =
    and_then (name_at passage) (λ name.
    Ok (or_faulty attributes name (declared_by start attributes name (after 1 passage))))
