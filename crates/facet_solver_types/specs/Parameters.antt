-- The parameters of a struct, an enum or an alias, and what it asks of them.
use Rattle.std.specs.Prelude.{ℕ, ◌+◌, ◌==◌, min, Bool, true, false, ◌||◌, if◌then◌else◌, List, [], codes, drop, length, Option, Some, None, Result, Ok, Err}
use Rattle.std.specs.Option.{option_to_list}
use Rattle.std.specs.List.{flat_map}
use Rattle.facet_solver_types.specs.Ascii as ascii
use Rattle.facet_solver_types.specs.declared.fault.Fault.{Fault}
use Rattle.facet_solver_types.specs.declared.grammar.run.Run.TheVariants.{Angles, FieldType, Where}
use Rattle.facet_solver_types.specs.declared.problem.Expected.TheVariants as expected
use Rattle.facet_solver_types.specs.Declarations.{Parameter}
use Rattle.facet_solver_types.specs.FirstTokens.{sees_mark, sees_word}
use Rattle.facet_solver_types.specs.Inside.{name_at}
use Rattle.facet_solver_types.specs.Passages.{Passage, after, unexpected, up_to}
use Rattle.facet_solver_types.specs.Pieces.{and_then, each, pieces}
use Rattle.facet_solver_types.specs.Prefixes.{attributes_len}
use Rattle.facet_solver_types.specs.Runs.{run_len}
use Rattle.facet_solver_types.specs.Tokens.{Token}
use Rattle.facet_solver_types.specs.WrittenTypes.{sees_lifetime}

-- how many tokens the `<` and `>` that stand first have, with what stands in them, or 0
abbrev pub angles_len : List Token → ℕ
angles_len tokens =
    if sees_mark ascii.less tokens then min (run_len Angles (drop 1 tokens) + 2) (length tokens)
    else 0

-- what stands in the `<` that stands first and its `>`
abbrev pub in_angles : Passage → Result Passage Fault
in_angles passage =
    let rest = after 1 passage in
    let len = run_len Angles rest.tokens in
    if sees_mark ascii.greater (drop len rest.tokens) then Ok (up_to len rest)
    else Err (unexpected expected.ParameterEnd (after len rest))

-- a parameter may end here: nothing follows, or bounds, or a default
abbrev pub parameter_end : Passage → Result (Unit {0}) Fault
parameter_end passage =
    if length passage.tokens == 0 || sees_mark ascii.colon passage.tokens
    || sees_mark ascii.equals passage.tokens
    then Ok tt
    else Err (unexpected expected.ParameterEnd passage)

-- a parameter by the name that stands first; its bounds and its default are not looked at
abbrev pub named_parameter : Bool → Passage → Result Parameter Fault
named_parameter is_const passage =
    and_then (name_at passage) (λ name.
    and_then (parameter_end (after 1 passage)) (λ end.
    Ok (record { name = name; is_const = is_const })))

-- what is there
abbrev pub there : Result Parameter Fault → Result (Option Parameter) Fault
there found = and_then found (λ parameter. Ok (Some parameter))

-- the parameter that a passage is, or nothing where it is a lifetime
abbrev pub parameter : Passage → Result (Option Parameter) Fault
parameter passage =
    let rest = after (attributes_len false passage.tokens) passage in
    if sees_lifetime rest.tokens then and_then (parameter_end (after 1 rest)) (λ end. Ok None)
    else (if sees_word (codes "const") rest.tokens
    then there (named_parameter true (after 1 rest))
    else there (named_parameter false rest))

-- the parameters between commas
abbrev pub parameters_in : Passage → Result (List Parameter) Fault
parameters_in passage =
    and_then (each parameter (pieces FieldType passage))
    (λ found. Ok (flat_map option_to_list found))

-- the parameters in the `<` and `>` that stand first, if they do
abbrev pub parameters : Passage → Result (List Parameter) Fault
parameters passage =
    if sees_mark ascii.less passage.tokens then and_then (in_angles passage) parameters_in
    else Ok []

-- what stands after the `<` and `>` that stand first, if they do
abbrev pub after_parameters : Passage → Passage
after_parameters passage = after (angles_len passage.tokens) passage

-- what stands after the `where` that stands first, if it does, and what it asks
abbrev pub after_where : Passage → Passage
after_where passage =
    if sees_word (codes "where") passage.tokens
    then after (run_len Where passage.tokens) passage else passage
