-- How many values are in a document: what is left while they are opened.
use Rattle.std.proofs.Common.{◌≡◌, ℕ, ◌+◌, ◌<◌, List, [], ◌∷◌, ◌++◌, map, length, drop, refl, ap, ◌∙◌, arith}
use Rattle.std.proofs.lemmas.List.{drop-append-le, drop_more}
use Rattle.facet_solver_reader.specs.declared.nodes.Nodes.{Nodes}
use Rattle.facet_solver_reader.specs.Documents.{Tree, null, truth, number, text, list, object, Items, no_items, item, Members, no_members, member, items, members}
use Rattle.facet_solver_reader.specs.Nodes.{children, count, nodes_of, opened, under, value_of, values_in}
use Rattle.facet_solver_reader.proofs.Numbering.{long_values}
use Rattle.facet_solver_reader.proofs.Opened.{values-more, values-under}

abbrev mutual
  -- how many values there are in one, with itself
  pub size : Tree → ℕ
  size null = 1
  size (truth b) = 1
  size (number n) = 1
  size (text x) = 1
  size (list ts) = 1 + items_size ts
  size (object ms) = 1 + members_size ms

  -- those of the items of a list
  pub items_size : Items → ℕ
  items_size no_items = 0
  items_size (item t ts) = size t + items_size ts

  -- those of the members of an object
  pub members_size : Members → ℕ
  members_size no_members = 0
  members_size (member x t ms) = size t + members_size ms

-- how many there are in several
abbrev pub sizes : List Tree → ℕ
sizes [] = 0
sizes (v ∷ vs) = size v + sizes vs

sizes-append : (vs ws : List Tree) → sizes (vs ++ ws) ≡ sizes vs + sizes ws
sizes-append [] ws = omega arith
sizes-append (v ∷ vs) ws = omega (arith, sizes-append vs ws)

sizes-items : (ts : Items) → items_size ts ≡ sizes (items ts)
sizes-items no_items = refl
sizes-items (item t ts) = ap (λ n. size t + n) (sizes-items ts)

sizes-members : (ms : Members) → members_size ms ≡ sizes (map (λ m. m.value) (members ms))
sizes-members no_members = refl
sizes-members (member x t ms) = ap (λ n. size t + n) (sizes-members ms)

size-children : (v : Tree) → size v ≡ 1 + sizes (children v)
size-children null = omega arith
size-children (truth b) = omega arith
size-children (number n) = omega arith
size-children (text x) = omega arith
size-children (list ts) = ap (λ n. 1 + n) (sizes-items ts)
size-children (object ms) = ap (λ n. 1 + n) (sizes-members ms)

-- the values in those that are not opened
abbrev pub left_in : Nodes → ℕ
left_in nodes = sizes (drop (opened nodes) (values_in (nodes_of nodes)))

-- they get fewer with each value that is opened
pub left-smaller : (old new : Nodes) → opened old < count old → nodes_of new ≡ nodes_of old ++ under (opened old) (children (value_of old (opened old))) → opened new ≡ opened old + 1 → left_in new < left_in old
left-smaller old new left added next =
    let vs = values_in (nodes_of old) in
    let i = opened old in
    let v = value_of old i in
    let within : i < length vs = omega (arith, left, long_values old) in
    let all : values_in (nodes_of new) ≡ vs ++ children v = ap values_in added ∙ values-more (nodes_of old) (under i (children v)) ∙ ap (λ us. vs ++ us) (values-under i (children v)) in
    let after : sizes (drop (opened new) (values_in (nodes_of new))) ≡ sizes (drop (i + 1) vs) + sizes (children v) =
    (λ j. sizes (drop (next j) (all j))) ∙ ap sizes (drop-append-le (i + 1) vs (children v) (omega (arith, within))) ∙ sizes-append (drop (i + 1) vs) (children v) in
    let before : sizes (drop i vs) ≡ size v + sizes (drop (i + 1) vs) = ap sizes (drop_more vs i null within) in
    let one = size-children v in
    omega (arith, after, before, one)
