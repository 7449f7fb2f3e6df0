-- The document that a text of JSON is.
use Rattle.std.specs.Prelude.{ℕ, List, length, Option, option_map, option_and_then}
use Rattle.json.specs.Token.{Token}
use Rattle.json.specs.Json as json
use Rattle.facet_solver_reader.specs.Numbers.{number_of}
use Rattle.facet_solver_reader.specs.Documents.{Tree, Items, Members, null, truth, number, text, list, object, no_items, item, no_members, member}

-- the document that a value of JSON is
abbrev mutual
  pub document_of : json.Json → Tree
  document_of json.null = null
  document_of (json.boolean b) = truth b
  document_of (json.number s) = number (number_of s)
  document_of (json.string s) = text s
  document_of (json.array js) = list (items_of js)
  document_of (json.object ms) = object (members_of ms)

  -- the values of an array, in order
  pub items_of : json.Items → Items
  items_of json.no_items = no_items
  items_of (json.item j js) = item (document_of j) (items_of js)

  -- the members of an object, in order
  pub members_of : json.Members → Members
  members_of json.no_members = no_members
  members_of (json.member name j ms) = member name (document_of j) (members_of ms)

-- the document that a text is, if it is JSON that nests at most 128 deep
abbrev pub parse : List ℕ → Option Tree
parse bytes = option_map document_of (json.document bytes)

-- the value that tokens begin with, if it nests no deeper, and the tokens after it
abbrev pub read_value : ℕ → List Token → Option (Tree × List Token)
read_value depth ts = json.parse_map document_of (json.value depth ts)

-- the values up to the bracket that closes a list, and the tokens after it
abbrev pub read_items : ℕ → List Token → Option (Items × List Token)
read_items depth ts = json.parse_map items_of (json.items (json.value depth) (length ts) ts)

-- the members up to the brace that closes an object, and the tokens after it
abbrev pub read_members : ℕ → List Token → Option (Members × List Token)
read_members depth ts = json.parse_map members_of (json.members (json.value depth) (length ts) ts)

-- the document that tokens are
abbrev pub read_document : List Token → Option Tree
read_document ts =
    let whole = option_and_then (λ p. json.if_last p.0 p.1) (json.value json.max_depth ts) in
    option_map document_of whole
