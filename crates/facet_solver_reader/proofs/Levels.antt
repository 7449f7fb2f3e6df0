-- Values within a value nest less deep.
use Rattle.std.proofs.Common.{◌≡◌, subst, ℕ, zero, suc, ◌+◌, ◌*◌, ◌<◌, ◌≤◌, map, Some}
use Rattle.std.proofs.Common.{slice_get, max, arith}
use Rattle.facet_solver_reader.specs.declared.nodes.Nodes.{Nodes}
use Rattle.facet_solver_reader.specs.Documents.{depth, Tree, null, truth, number, text, list}
use Rattle.facet_solver_reader.specs.Documents.{object, Items, no_items, item, items, items_depth}
use Rattle.facet_solver_reader.specs.Documents.{Members, no_members, member, members, members_depth}
use Rattle.facet_solver_reader.specs.Nodes.{children, value_of}

-- more than any number of steps, for each level that a value nests
abbrev pub levels : Nodes → ℕ → ℕ
levels nodes node = 1180591620717411303424 * depth (value_of nodes node)

-- an item nests less deep than a bound of all
item_depth : (vs : Items) (i : ℕ) (v : Tree) → slice_get (items vs) i ≡ Some v
    → depth v ≤ items_depth vs
item_depth no_items i v e = absurd (cc)
item_depth (item w ws) zero v e =
    let same : w ≡ v = cc in
    subst (λ u. depth u ≤ max (depth w) (items_depth ws)) same (omega arith)
item_depth (item w ws) (suc i) v e =
    let below : depth v ≤ items_depth ws = item_depth ws i v e in omega arith

-- so does the value of a member
member_depth : (ms : Members) (i : ℕ) (v : Tree)
    → slice_get (map (λ m. m.value) (members ms)) i ≡ Some v → depth v ≤ members_depth ms
member_depth no_members i v e = absurd (cc)
member_depth (member x w ms) zero v e =
    let same : w ≡ v = cc in
    subst (λ u. depth u ≤ max (depth w) (members_depth ms)) same (omega arith)
member_depth (member x w ms) (suc i) v e =
    let below : depth v ≤ members_depth ms = member_depth ms i v e in omega arith

-- a value right inside another nests less deep
pub child_depth : (w : Tree) (i : ℕ) (v : Tree) → slice_get (children w) i ≡ Some v
    → depth v < depth w
child_depth (list vs) i v e =
    let below : depth v ≤ items_depth vs = item_depth vs i v e in omega arith
child_depth (object ms) i v e =
    let below : depth v ≤ members_depth ms = member_depth ms i v e in omega arith
child_depth null i v e = absurd (cc)
child_depth (truth b) i v e = absurd (cc)
child_depth (number n) i v e = absurd (cc)
child_depth (text x) i v e = absurd (cc)

-- so that no steps at it are as many as a level
pub child_levels : (nodes : Nodes) (node child i steps : ℕ)
    → slice_get (children (value_of nodes node)) i ≡ Some (value_of nodes child)
    → steps < 18446744073709551616 → levels nodes child + 16 * steps + 15 < levels nodes node
child_levels nodes node child i steps e small =
    let below : depth (value_of nodes child) < depth (value_of nodes node) =
    child_depth (value_of nodes node) i (value_of nodes child) e in
    omega arith
