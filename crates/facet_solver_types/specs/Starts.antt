-- How an item begins, and how many tokens it has.
use Rattle.std.specs.Prelude.{ℕ, suc, ◌+◌, min, max, Bool, true, false, ◌&&◌, ◌||◌, if◌then◌else◌, List, [], ◌∷◌, codes, drop, length, Option, Some, None, is_some, unwrap_or}
use Rattle.std.specs.Str.{bytes_eq}
use Rattle.facet_solver_types.specs.Ascii as ascii
use Rattle.facet_solver_types.specs.declared.grammar.run.Run.{Run}
use Rattle.facet_solver_types.specs.declared.grammar.run.Run.TheVariants as run
use Rattle.facet_solver_types.specs.declared.grammar.starts.Context.{Context}
use Rattle.facet_solver_types.specs.declared.grammar.starts.Context.TheVariants as contexts
use Rattle.facet_solver_types.specs.declared.grammar.starts.Path.{Path}
use Rattle.facet_solver_types.specs.declared.grammar.starts.Path.TheVariants.{Begun, Named, Called, Broken}
use Rattle.facet_solver_types.specs.declared.grammar.starts.Start.{Start}
use Rattle.facet_solver_types.specs.declared.grammar.starts.Start.TheVariants.{Struct, Enum, Alias, Module, Function, Impl, Statement, Head, Call, Unknown}
use Rattle.facet_solver_types.specs.declared.token.Bracket.TheVariants.{Curly}
use Rattle.facet_solver_types.specs.declared.token.TokenKind.{TokenKind}
use Rattle.facet_solver_types.specs.declared.token.TokenKind.TheVariants.{Name, Text, RawText, PathMark}
use Rattle.facet_solver_types.specs.FirstTokens.{is_name, is_word, sees_bracket, sees_close, sees_mark, sees_name, sees_open, sees_word}
use Rattle.facet_solver_types.specs.Prefixes.{attributes_len, visibility_len}
use Rattle.facet_solver_types.specs.Runs.{group_len, is_mark, run_len}
use Rattle.facet_solver_types.specs.Tokens.{Token}

-- whether a token of this kind and text is this name, as it is written
abbrev pub is_plain : List ℕ → TokenKind → List ℕ → Bool
is_plain word Name text = bytes_eq text word
is_plain word kind text = false

-- whether the first token is this name
abbrev pub sees_plain : List ℕ → List Token → Bool
sees_plain word [] = false
sees_plain word (token ∷ tokens) = is_plain word token.kind token.text

-- whether a constant stands after `const`: a name or `_`, and a colon
abbrev pub begins_constant : List Token → Bool
begins_constant tokens =
    (sees_name tokens || sees_word (codes "_") tokens) && sees_mark ascii.colon (drop 1 tokens)

-- whether an item stands first that ends with `;` alone and declares no type
unfoldable pub begins_statement : List Token → Bool
begins_statement tokens =
    sees_word (codes "use") tokens || sees_word (codes "static") tokens
    || (sees_word (codes "const") tokens && begins_constant (drop 1 tokens))

-- whether a token may stand before `fn`, `impl` or `trait`: a keyword, or the text after `extern`
abbrev pub is_qualifier : TokenKind → List ℕ → Bool
is_qualifier Text text = true
is_qualifier RawText text = true
is_qualifier kind text =
    is_word (codes "const") kind text || is_word (codes "async") kind text
    || is_word (codes "unsafe") kind text || is_word (codes "extern") kind text

-- how many tokens stand first that may stand before `fn`, `impl` or `trait`
unfoldable pub qualifiers_len : List Token → ℕ
qualifiers_len [] = 0
qualifiers_len (token ∷ tokens) =
    if is_qualifier token.kind token.text then suc (qualifiers_len tokens) else 0

-- whether `fn` and a name stand first
abbrev pub begins_function : List Token → Bool
begins_function tokens = sees_word (codes "fn") tokens && sees_name (drop 1 tokens)

-- whether `extern` stands first, maybe after `unsafe`
abbrev pub sees_extern : List Token → Bool
sees_extern tokens =
    sees_word (codes "extern") tokens
    || (sees_word (codes "unsafe") tokens && sees_word (codes "extern") (drop 1 tokens))

-- whether the items of another language stand first, or a crate, with what stands after the words
-- that stand first; the type of a function of another language is neither
abbrev pub begins_extern : List Token → List Token → Bool
begins_extern tokens rest =
    sees_extern tokens && (sees_open Curly rest || sees_word (codes "crate") rest)

-- whether a trait or a union stands first
abbrev pub begins_trait : List Token → Bool
begins_trait tokens =
    sees_word (codes "trait") tokens
    || (sees_plain (codes "auto") tokens && sees_word (codes "trait") (drop 1 tokens))
    || (sees_plain (codes "union") tokens && sees_name (drop 1 tokens))

-- whether a token is `::`
abbrev pub is_path_mark : TokenKind → Bool
is_path_mark PathMark = true
is_path_mark kind = false

-- whether `::` stands first
abbrev pub sees_path_mark : List Token → Bool
sees_path_mark [] = false
sees_path_mark (token ∷ tokens) = is_path_mark token.kind

-- whether a token may stand in the path of a macro
abbrev pub is_segment : TokenKind → List ℕ → Bool
is_segment kind text =
    is_name kind || is_word (codes "crate") kind text || is_word (codes "self") kind text
    || is_word (codes "super") kind text

-- how far the path of a macro is after a token: names with `::` between, and the `!`
unfoldable pub path_step : Path → TokenKind → List ℕ → Path
path_step Begun kind text = if is_segment kind text then Named else Broken
path_step Named kind text =
    if is_path_mark kind then Begun else (if is_mark ascii.exclamation kind then Called else Broken)
path_step path kind text = Broken

-- whether the `!` was reached
abbrev pub is_called : Path → Bool
is_called Called = true
is_called path = false

-- whether this is no path of a macro
abbrev pub is_broken : Path → Bool
is_broken Broken = true
is_broken path = false

-- the count where the `!` was reached, nothing where the path is broken, or the rest
abbrev pub then_path : Path → ℕ → (Path → Option ℕ) → Option ℕ
then_path path count later =
    if is_called path then Some (count + 1) else (if is_broken path then None else later path)

-- how many tokens, after so many, the path of a macro has with its `!`
unfoldable pub path_from : Path → ℕ → List Token → Option ℕ
path_from path count [] = None
path_from path count (token ∷ tokens) =
    then_path (path_step path token.kind token.text) count
    (λ path. path_from path (count + 1) tokens)

-- how many tokens, after so many, the path of a macro has with its `!`, which begins with a name
abbrev pub path_len : ℕ → List Token → Option ℕ
path_len count tokens = path_from Begun count tokens

-- how many tokens the path of a macro has with its `!`, if it stands first; it may begin with `::`
abbrev pub call_len : List Token → Option ℕ
call_len tokens =
    if sees_path_mark tokens then path_len 1 (drop 1 tokens) else path_len 0 tokens

-- how an item begins that words may stand before, or the call of a macro, with what stands after
-- the words
abbrev pub start_with : List Token → List Token → Start
start_with tokens rest =
    if begins_function rest then Function
    else (if sees_word (codes "impl") rest then Impl
    else (if begins_trait rest || begins_extern tokens rest then Head
    else (if is_some (call_len tokens) then Call
    else Unknown)))

-- how an item begins that words may stand before, or the call of a macro
unfoldable pub qualified_start : List Token → Start
qualified_start tokens = start_with tokens (drop (qualifiers_len tokens) tokens)

-- how an item begins, after attributes and `pub`
unfoldable pub start_of : List Token → Start
start_of tokens =
    if sees_word (codes "struct") tokens then Struct
    else (if sees_word (codes "enum") tokens then Enum
    else (if sees_word (codes "type") tokens then Alias
    else (if sees_word (codes "mod") tokens then Module
    else (if begins_statement tokens then Statement
    else qualified_start tokens))))

-- whether an item begins with a keyword and a name that begins so
abbrev pub has_keyword : Start → Bool
has_keyword Struct = true
has_keyword Enum = true
has_keyword Alias = true
has_keyword Module = true
has_keyword start = false

-- how a piece begins in the body of an impl that would begin so elsewhere: only functions and calls
-- of macros are looked for there
abbrev pub body_start : Start → Start
body_start Function = Function
body_start Call = Call
body_start start = Unknown

-- how a piece begins in a context, after attributes and `pub`
abbrev pub start_in : Context → List Token → Start
start_in contexts.Body tokens = body_start (start_of tokens)
start_in other tokens = start_of tokens

-- up to what an item goes that begins so: `;`, or `;` or braces
abbrev pub run_of : Start → Run
run_of Alias = run.Statement
run_of Statement = run.Statement
run_of start = run.Head

-- how many tokens the first token is: one, or none where there is none, or where it closes a bracket
abbrev pub first_len : List Token → ℕ
first_len tokens = if sees_close tokens then 0 else min 1 (length tokens)

-- how many tokens the end of an item has: its braces, or one
abbrev pub end_len : List Token → ℕ
end_len tokens = if sees_open Curly tokens then group_len tokens else first_len tokens

-- how many tokens the brace has that opens a module, with the inner attributes behind it, or else
-- the first token
abbrev pub opening_len : List Token → ℕ
opening_len tokens =
    if sees_open Curly tokens then 1 + attributes_len true (drop 1 tokens) else first_len tokens

-- how many tokens the end of an item has that begins so; a function, an impl and a module end where
-- their braces open
abbrev pub end_len_of : Start → List Token → ℕ
end_len_of Function tokens = first_len tokens
end_len_of Impl tokens = first_len tokens
end_len_of Module tokens = opening_len tokens
end_len_of start tokens = end_len tokens

-- how many tokens the path of a macro has with its `!`, and with a name, if one stands there
unfoldable pub named_call_len : List Token → ℕ
named_call_len tokens =
    let len = unwrap_or (call_len tokens) 0 in
    if sees_name (drop len tokens) then len + 1 else len

-- how many tokens the brackets have that stand first, with what stands in them, or 0
abbrev pub brackets_len : List Token → ℕ
brackets_len tokens = if sees_bracket tokens then group_len tokens else 0

-- how many tokens a `;` has that may stand first
abbrev pub semicolon_len : List Token → ℕ
semicolon_len tokens = if sees_mark ascii.semicolon tokens then 1 else 0

-- how many tokens the call of a macro has, with its brackets, and with `;` if it stands there
unfoldable pub whole_call_len : List Token → ℕ
whole_call_len tokens =
    let name = named_call_len tokens in
    let rest = drop name tokens in
    let brackets = brackets_len rest in
    name + (brackets + semicolon_len (drop brackets rest))

-- how many tokens an item has that begins so and is no call, after attributes and `pub`
unfoldable pub run_and_end_len : Start → List Token → ℕ
run_and_end_len start tokens =
    let len = run_len (run_of start) tokens in len + end_len_of start (drop len tokens)

-- how many tokens an item has that begins so, after attributes and `pub`
abbrev pub len_of : Start → List Token → ℕ
len_of Call tokens = whole_call_len tokens
len_of start tokens = run_and_end_len start tokens

-- how many tokens an item has, after attributes and `pub`
abbrev pub bare_len : List Token → ℕ
bare_len tokens = len_of (start_of tokens) tokens

-- whether no item begins so
abbrev pub is_unknown : Start → Bool
is_unknown Unknown = true
is_unknown start = false

-- whether a piece may be something else than an item
abbrev pub has_code : Context → Bool
has_code contexts.Module = false
has_code other = true

-- whether what stands first is no item, in a context where it may be something else
abbrev pub is_nothing : Context → List Token → Bool
is_nothing context tokens = has_code context && is_unknown (start_in context tokens)

-- how many tokens an item has, after attributes, with `pub`; none where it is something else
unfoldable pub visible_len : Context → List Token → ℕ
visible_len context tokens =
    let visibility = visibility_len tokens in
    let bare = drop visibility tokens in
    if is_nothing context bare then 0 else visibility + bare_len bare

-- how many tokens the item has that stands first, with attributes and `pub`; where it is something
-- else, the attributes alone
unfoldable pub item_len : Context → List Token → ℕ
item_len context tokens =
    let attributes = attributes_len false tokens in
    attributes + visible_len context (drop attributes tokens)

-- how many tokens the piece has that stands first: an item's, or one
abbrev pub piece_len : Context → List Token → ℕ
piece_len context tokens = max 1 (item_len context tokens)
