-- What items stand in: modules, blocks and the bodies of impls.
use Rattle.std.specs.Prelude.{ℕ, ◌-◌, Bool, true, false, ◌&&◌, ◌==◌, not, List, [], ◌∷◌, ◌++◌, length, map, take, Option, Some, None, slice_get}
use Rattle.std.specs.List.{fold}
use Rattle.facet_solver_shape.specs.Names.{Name}
use Rattle.facet_solver_types.specs.declared.grammar.enclosing.Enclosing as declared
use Rattle.facet_solver_types.specs.declared.grammar.enclosing.Enclosing.TheVariants as code
use Rattle.facet_solver_types.specs.declared.grammar.enclosing.Piece as piece
use Rattle.facet_solver_types.specs.declared.grammar.enclosing.Piece.TheVariants as part
use Rattle.facet_solver_types.specs.declared.grammar.starts.Context.{Context}
use Rattle.facet_solver_types.specs.declared.grammar.starts.Context.TheVariants as contexts
use Rattle.facet_solver_types.specs.declared.token.Bracket.TheVariants.{Curly}
use Rattle.facet_solver_types.specs.declared.token.TokenKind.{TokenKind}
use Rattle.facet_solver_types.specs.declared.token.TokenKind.TheVariants.{Close}
use Rattle.facet_solver_types.specs.Declarations.{Item, ModuleItem, implements, item_view, other as without_type}
use Rattle.facet_solver_types.specs.Sites.{Site}
use Rattle.facet_solver_types.specs.Tokens.{Token, token_view}

-- what items stand in: the module of a name, a block of a function, by where its brace stands, or
-- the body of an impl
pub data Enclosing : Type 0 where
  module_of : Token → Enclosing
  block : ℕ → Enclosing
  body : Enclosing

-- what is seen of it
abbrev pub enclosing_view : declared.Enclosing → Enclosing
enclosing_view (code.Module name) = module_of (token_view name)
enclosing_view (code.Block place) = block place
enclosing_view code.Body = body

-- what is seen of all that encloses something, the outermost first
abbrev pub around_view : List declared.Enclosing → List Enclosing
around_view around = map enclosing_view around

-- a piece of a text: an item, what opens something that encloses others, an impl that reads
-- documents for the type of a name, which opens its body, what closes the innermost that encloses
-- it, or what is passed over
pub data Piece : Type 0 where
  is : Item → Piece
  opens : Enclosing → Piece
  implementing : Token → Piece
  closes : Piece
  passed : Piece

-- what is seen of a piece
abbrev pub piece_view : piece.Piece → Piece
piece_view (part.Item item) = is (item_view item)
piece_view (part.Opens enclosing) = opens (enclosing_view enclosing)
piece_view (part.Impl name) = implementing (token_view name)
piece_view part.Closes = closes
piece_view part.Passed = passed

-- the innermost of all that encloses something
abbrev pub innermost : List Enclosing → Option Enclosing
innermost around = slice_get around (length around - 1)

-- what this may have in it: a block code, the body of an impl only functions, and others only items
abbrev pub context_in : Option Enclosing → Context
context_in (Some (block place)) = contexts.Block
context_in (Some body) = contexts.Body
context_in other = contexts.Module

-- what the innermost of all that encloses something may have in it
abbrev pub context_of : List Enclosing → Context
context_of around = context_in (innermost around)

-- whether a token closes braces
abbrev pub closes_braces : TokenKind → Bool
closes_braces (Close Curly) = true
closes_braces kind = false

-- whether the first token closes braces
abbrev pub sees_close_brace : List Token → Bool
sees_close_brace [] = false
sees_close_brace (token ∷ tokens) = closes_braces token.kind

-- whether the first token closes the innermost of all that encloses something
abbrev pub is_left : List Enclosing → List Token → Bool
is_left around tokens = sees_close_brace tokens && not (length around == 0)

-- all that encloses what stands after a piece
abbrev pub around_after : Piece → List Enclosing → List Enclosing
around_after (opens enclosing) around = around ++ enclosing ∷ []
around_after (implementing name) around = around ++ body ∷ []
around_after closes around = take (length around - 1) around
around_after piece around = around

-- the name of a module, or else another
abbrev pub module_or : Name → Enclosing → Name
module_or outer (module_of name) = name.text
module_or outer enclosing = outer

-- the name of the innermost module of all that encloses something, or nothing where there is none
abbrev pub module_in : List Enclosing → Name
module_in around = fold module_or [] around

-- where a block begins, if this is one
abbrev pub block_of : Option Enclosing → Option ℕ
block_of (Some (block place)) = Some place
block_of other = None

-- where the block begins that is the innermost of all that encloses something, if it is one
abbrev pub block_in : List Enclosing → Option ℕ
block_in around = block_of (innermost around)

-- where an item stands that all this encloses
abbrev pub site_in : List Enclosing → Site
site_in around = record { module_name = module_in around; block = block_in around }

-- an item, where it stands
abbrev pub item_at : List Enclosing → Item → ModuleItem
item_at around item = record { site = site_in around; item = item }

-- what is known of what is opened, in all that it encloses: that it is a module of its name, by an
-- item in it that declares nothing
abbrev pub opened_items : List Enclosing → Enclosing → List ModuleItem
opened_items around (module_of name) = item_at around without_type ∷ []
opened_items around enclosing = []

-- the item that a piece is, if it is one, in what encloses it
abbrev pub items_of : List Enclosing → Piece → List ModuleItem
items_of around (is item) = item_at around item ∷ []
items_of around (implementing name) = item_at around (implements name) ∷ []
items_of around (opens enclosing) = opened_items (around ++ enclosing ∷ []) enclosing
items_of around piece = []
