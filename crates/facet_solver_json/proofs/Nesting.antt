-- How deep a document of JSON nests.
use Rattle.std.proofs.Common.{◌≡◌, ◌≤◌, max, List, [], ◌∷◌, Option, Some, None, option_map, option_and_then, ap, ap₂, refl, arith}
use Rattle.json.specs.Token.{Token}
use Rattle.json.specs.Json as json
use Rattle.json.specs.Tree.{depth as nesting, items_depth as items_nesting, members_depth as members_nesting}
use Rattle.json.proofs.Nesting.{value-depth}
use Rattle.facet_solver_reader.specs.Documents.{Tree, depth, items_depth, members_depth}
use Rattle.facet_solver_json.specs.Values.{document_of, items_of, members_of, read_document}

mutual
  depth-document_of : (j : json.Json) → depth (document_of j) ≡ nesting j
  depth-document_of json.null = refl
  depth-document_of (json.boolean b) = refl
  depth-document_of (json.number s) = refl
  depth-document_of (json.string s) = refl
  depth-document_of (json.array js) = omega (arith, depth-items_of js)
  depth-document_of (json.object ms) = omega (arith, depth-members_of ms)

  depth-items_of : (js : json.Items) → items_depth (items_of js) ≡ items_nesting js
  depth-items_of json.no_items = refl
  depth-items_of (json.item j js) = ap₂ max (depth-document_of j) (depth-items_of js)

  depth-members_of : (ms : json.Members) → members_depth (members_of ms) ≡ members_nesting ms
  depth-members_of json.no_members = refl
  depth-members_of (json.member name j ms) = ap₂ max (depth-document_of j) (depth-members_of ms)

pick : Tree → Option Tree → Tree
pick d None = d
pick d (Some t) = t

-- the document that a value and nothing after it make
abbrev whole : Option (json.Json × List Token) → Option Tree
whole o = option_map document_of (option_and_then (λ p. json.if_last p.0 p.1) o)

whole-depth : (ts : List Token) (t : Tree) (o : Option (json.Json × List Token)) → json.value json.max_depth ts ≡ o → whole o ≡ Some t → depth t ≤ json.max_depth
unfolding pick
whole-depth ts t None v e = absurd (cc)
whole-depth ts t (Some (j, [])) v e =
    let same : document_of j ≡ t = ap (pick t) e in
    omega (arith, ap depth same, depth-document_of j, value-depth json.max_depth ts [] j v)
whole-depth ts t (Some (j, (x ∷ xs))) v e = absurd (cc)

pub read_document-depth : (ts : List Token) (t : Tree) → read_document ts ≡ Some t → depth t ≤ json.max_depth
read_document-depth ts t e = whole-depth ts t (json.value json.max_depth ts) refl e
