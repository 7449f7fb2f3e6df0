-- The items of a text.
use Rattle.std.specs.Prelude.{ℕ, zero, suc, ◌-◌, Bool, true, ◌||◌, if◌then◌else◌, List, [], ◌∷◌, ◌++◌, Option, Some, None, Result, Ok, Err, codes}
use Rattle.facet_solver_types.specs.Ascii as ascii
use Rattle.facet_solver_types.specs.declared.fault.Fault.{Fault}
use Rattle.facet_solver_types.specs.declared.grammar.run.Run.TheVariants as run
use Rattle.facet_solver_types.specs.declared.grammar.starts.Context.{Context}
use Rattle.facet_solver_types.specs.declared.grammar.starts.Context.TheVariants as contexts
use Rattle.facet_solver_types.specs.declared.grammar.starts.Start as code
use Rattle.facet_solver_types.specs.declared.grammar.starts.Start.TheVariants.{Struct, Enum, Alias, Module, Function, Impl, Statement, Head, Call, Unknown}
use Rattle.facet_solver_types.specs.declared.problem.Expected.TheVariants as expected
use Rattle.facet_solver_types.specs.declared.token.Bracket.TheVariants.{Curly}
use Rattle.facet_solver_types.specs.Declarations.{Item, ModuleItem, other, takes}
use Rattle.facet_solver_types.specs.Enclosings.{Enclosing, Piece, around_after, block, body, closes, context_of, implementing, is, is_left, items_of, module_of, opens, passed}
use Rattle.facet_solver_types.specs.Fields.{after_prefix, attributes}
use Rattle.facet_solver_types.specs.FirstTokens.{is_word, sees_bracket, sees_mark, sees_open}
use Rattle.facet_solver_types.specs.Implements.{implemented}
use Rattle.facet_solver_types.specs.Inside.{name_at}
use Rattle.facet_solver_types.specs.NamedItems.{declaration, semicolon}
use Rattle.facet_solver_types.specs.Passages.{Passage, after, place, unexpected, up_to}
use Rattle.facet_solver_types.specs.Pieces.{and_then}
use Rattle.facet_solver_types.specs.Prefixes.{attributes_len}
use Rattle.facet_solver_types.specs.Runs.{group_len, run_len}
use Rattle.facet_solver_types.specs.Starts.{has_code, named_call_len, piece_len, qualifiers_len, start_in}
use Rattle.facet_solver_types.specs.Tokens.{Token}

-- what an item is that has these tokens and a `;`: a `use`, or one that is passed over
abbrev pub stated_item : List Token → Item
stated_item [] = other
stated_item (word ∷ tokens) =
    if is_word (codes "use") word.kind word.text then takes tokens else other

-- an item to `;`, which declares no type
abbrev pub statement : Passage → Result Piece Fault
statement passage =
    let len = run_len run.Statement passage.tokens in
    and_then (semicolon (after len passage))
    (λ end. Ok (is (stated_item (up_to len passage).tokens)))

-- what stands after the head of an item
abbrev pub after_head : Passage → Passage
after_head passage = after (run_len run.Head passage.tokens) passage

-- what an item is after its head: this with braces, and one that is passed over with `;`
abbrev pub opening : Piece → Passage → Result Piece Fault
opening piece passage =
    if sees_open Curly passage.tokens then Ok piece
    else (if sees_mark ascii.semicolon passage.tokens then Ok (is other)
    else Err (unexpected expected.HeadEnd passage))

-- an item that is passed over, to `;` or braces
abbrev pub head : Passage → Result Piece Fault
head passage = opening (is other) (after_head passage)

-- a function, whose block is opened
abbrev pub function : Passage → Result Piece Fault
function passage = let rest = after_head passage in opening (opens (block (place rest))) rest

-- a module, after `mod`, which is opened
abbrev pub module_piece : Passage → Result Piece Fault
module_piece passage =
    and_then (name_at passage) (λ name. opening (opens (module_of name)) (after 1 passage))

-- an impl for this type, if documents are read by its trait, or of another
abbrev pub implementation_of : Option Token → Piece
implementation_of (Some name) = implementing name
implementation_of None = opens body

-- an impl, whose body is opened, with the type that it is for, if documents are read by its trait
abbrev pub implementation : Passage → Result Piece Fault
implementation passage =
    let name = implemented (after (qualifiers_len passage.tokens) passage) in
    opening (implementation_of name) (after_head passage)

-- what stands after the `!` of a call, and after a name, if one stands there
abbrev pub after_call : Passage → Passage
after_call passage = after (named_call_len passage.tokens) passage

-- the call of a macro, which is passed over: brackets, and `;` unless they are braces; among other
-- things than items anything may stand after its `!`
abbrev pub call : Context → Passage → Result Piece Fault
call context passage =
    let rest = after_call passage in
    if has_code context || sees_open Curly rest.tokens then Ok passed
    else (if sees_bracket rest.tokens
    then and_then (semicolon (after (group_len rest.tokens) rest)) (λ end. Ok passed)
    else Err (unexpected expected.Bracket rest))

-- what a brace opens that stands first and begins no item: in a block another one
abbrev pub other_brace : Context → Passage → Enclosing
other_brace contexts.Block passage = block (place passage)
other_brace outside passage = body

-- what begins no item: a brace opens something, and something else is passed over
abbrev pub nothing : Context → Passage → Result Piece Fault
nothing context passage =
    if has_code context
    then (if sees_open Curly passage.tokens then Ok (opens (other_brace context passage))
    else Ok passed)
    else Err (unexpected expected.Item passage)

-- the item that declares a type that begins so, after attributes and `pub`
abbrev pub declared : code.Start → List Token → Passage → Result Piece Fault
declared start attributes passage =
    and_then (declaration start attributes (after 1 passage)) (λ item. Ok (is item))

-- what begins so, in a context, after attributes and `pub`
abbrev pub piece_of : code.Start → Context → List Token → Passage → Result Piece Fault
piece_of Struct context attributes passage = declared Struct attributes passage
piece_of Enum context attributes passage = declared Enum attributes passage
piece_of Alias context attributes passage = declared Alias attributes passage
piece_of Module context attributes passage = module_piece (after 1 passage)
piece_of Function context attributes passage = function passage
piece_of Impl context attributes passage = implementation passage
piece_of Statement context attributes passage = statement passage
piece_of Head context attributes passage = head passage
piece_of Call context attributes passage = call context passage
piece_of Unknown context attributes passage = nothing context passage

-- what stands first, in a context, after attributes and `pub`
abbrev pub piece_by : Context → List Token → Passage → Result Piece Fault
piece_by context attributes passage =
    piece_of (start_in context passage.tokens) context attributes passage

-- the piece that a passage is, in what encloses it: an item with attributes and `pub` if any, or
-- what closes the innermost that encloses it
unfoldable pub piece : List Enclosing → Passage → Result Piece Fault
piece around passage =
    if is_left around passage.tokens then Ok closes
    else piece_by (context_of around) (attributes passage) (after_prefix true passage)

-- a piece, and the items after it in what encloses them then
abbrev pub then_items
    : List Enclosing → Result Piece Fault → (List Enclosing → Result (List ModuleItem) Fault)
    → Result (List ModuleItem) Fault
then_items around piece later =
    and_then piece (λ piece.
    and_then (later (around_after piece around)) (λ items. Ok (items_of around piece ++ items)))

-- the items that tokens have, in what encloses them, after the first tokens that are `left` out
unfoldable pub items_from : List Enclosing → ℕ → ℕ → List Token → Result (List ModuleItem) Fault
items_from around end left [] = Ok []
items_from around end (suc left) (token ∷ tokens) = items_from around end left tokens
items_from around end zero (token ∷ tokens) =
    let len = piece_len (context_of around) (token ∷ tokens) in
    let passage : Passage = record { tokens = token ∷ tokens; end = end } in
    then_items around (piece around (up_to len passage))
    (λ around. items_from around end (len - 1) tokens)

-- the items that a passage has, in what encloses it
abbrev pub items_in : List Enclosing → Passage → Result (List ModuleItem) Fault
items_in around passage = items_from around passage.end 0 passage.tokens

-- the items of a text, after its inner attributes, with those in its modules, functions and impls
abbrev pub items : Passage → Result (List ModuleItem) Fault
items passage = items_in [] (after (attributes_len true passage.tokens) passage)
