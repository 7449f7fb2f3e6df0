-- What numbered values say of a document.
use Rattle.std.proofs.Common.{◌≡◌, ℕ, ◌+◌, ◌-◌, ◌<◌, ◌≤◌, List, [], ◌∷◌, map, length, take, drop, Some, None, Option, slice_get, get_or, refl, sym, ap, ◌∙◌, arith, Contains, IsPermutation, subst, MatchOption}
use Rattle.std.specs.Option.{option_map}
use Rattle.std.proofs.lemmas.Option.{slice_get-map, slice_get-get_or, slice_get_read, slice_get_within, get_or_from_slice_get, option_and_then_some}
use Rattle.std.proofs.lemmas.List.{length-map}
use Rattle.facet_solver_shape.specs.Catalogues.{RepeatsName}
use Rattle.facet_solver_shape.specs.Names.{Name}
use Rattle.facet_solver_reader.specs.declared.nodes.Node as code_node
use Rattle.facet_solver_reader.specs.declared.nodes.Opening.{Opening}
use Rattle.facet_solver_reader.specs.declared.nodes.Nodes.{Nodes}
use Rattle.facet_solver_reader.specs.Documents.{Tree, null, object, Members, members, Member, view}
use Rattle.facet_solver_reader.specs.Objects.{find}
use Rattle.facet_solver_reader.specs.Places.{PlaceStep, to_member, inside, at, names_in, NamesStandOnce}
use Rattle.facet_solver_reader.specs.Nodes.{AreNamesOf, IsInside, IsNumbering, IsOpened, IsNumberedSoFar, Named, Node, children, count, entries, first_in, members_in, nodes_of, numbered, opened, parent_of, value_of, values_in}
use Rattle.facet_solver_reader.proofs.Trees.{child_inside, child_of_member, find-at, found_at, repeats_sorted, entry_of_member, member_of_entry}

-- ---- the value of a number

pub long_nodes : (nodes : Nodes) → length (nodes_of nodes) ≡ count nodes
long_nodes nodes = length-map nodes.nodes.items (λ (n : code_node.Node). let m : Node = record { value = view n.document.now; parent = n.parent } in m)

pub long_values : (nodes : Nodes) → length (values_in (nodes_of nodes)) ≡ count nodes
long_values nodes =
    length-map (nodes_of nodes) (λ (n : Node). n.value) ∙ long_nodes nodes

pub value_there : (nodes : Nodes) (i : ℕ) → i < count nodes → slice_get (values_in (nodes_of nodes)) i ≡ Some (value_of nodes i)
value_there nodes i within = slice_get-get_or (values_in (nodes_of nodes)) i null (omega (arith, within, long_values nodes))

pub value_is : (nodes : Nodes) (i : ℕ) (v : Tree) → slice_get (values_in (nodes_of nodes)) i ≡ Some v → value_of nodes i ≡ v
value_is nodes i v at = get_or_from_slice_get (values_in (nodes_of nodes)) i v null at

pub value_within : (nodes : Nodes) (i : ℕ) (v : Tree) → slice_get (values_in (nodes_of nodes)) i ≡ Some v → i < count nodes
value_within nodes i v at = omega (arith, slice_get_within (values_in (nodes_of nodes)) i v at, long_values nodes)

-- what is read at an index
abbrev pub node_view : code_node.Node → Node
node_view n = record { value = view n.document.now; parent = n.parent }

pub node_read : (nodes : Nodes) (i : ℕ) (n : code_node.Node) → i < count nodes → n ≡ get_or nodes.nodes.items i n → slice_get (nodes_of nodes) i ≡ Some (node_view n)
node_read nodes i n within is = slice_get-map node_view nodes.nodes.items i ∙ ap (option_map node_view) (slice_get_read nodes.nodes.items (count nodes) i n refl within is)

pub value_read : (nodes : Nodes) (i : ℕ) (n : code_node.Node) → i < count nodes → n ≡ get_or nodes.nodes.items i n → view n.document.now ≡ value_of nodes i
value_read nodes i n within is =
    sym (value_is nodes i (view n.document.now) (slice_get-map (λ (m : Node). m.value) (nodes_of nodes) i ∙ ap (option_map (λ (m : Node). m.value)) (node_read nodes i n within is)))

pub parent_read : (nodes : Nodes) (i : ℕ) (n : code_node.Node) → i < count nodes → n ≡ get_or nodes.nodes.items i n → n.parent ≡ parent_of nodes i
parent_read nodes i n within is =
    sym (get_or_from_slice_get (map (λ (m : Node). m.parent) (nodes_of nodes)) i n.parent 0 (slice_get-map (λ (m : Node). m.parent) (nodes_of nodes) i ∙ ap (option_map (λ (m : Node). m.parent)) (node_read nodes i n within is)))

-- ---- what is inside an opened value
module _ (nodes : Nodes) (numbering : IsNumbering nodes) (node : ℕ) (o : Opening) (within : node < count nodes) (is : o ≡ get_or nodes.openings.items node o) where
  -- it has an opening
  pub has_opening : node < opened nodes
  has_opening = omega (arith, within, numbering.all_opened)

  opening_at : slice_get nodes.openings.items node ≡ Some o
  opening_at = slice_get_read nodes.openings.items (opened nodes) node o refl has_opening is

  is_opened : IsOpened (nodes_of nodes) nodes.by_name.items o (value_of nodes node)
  is_opened = numbering.under_way.opened node o (value_of nodes node) opening_at (value_there nodes node within)

  -- a child has its number
  pub child_there : (index : ℕ) (c : Tree) → slice_get (children (value_of nodes node)) index ≡ Some c → (o.first + index < count nodes) × (value_of nodes (o.first + index) ≡ c)
  child_there index c at_index =
      let there = is_opened.children_at index c at_index in
      (value_within nodes (o.first + index) c there, value_is nodes (o.first + index) c there)

  pub child_numbered : (index : ℕ) → index < length (children (value_of nodes node)) → (o.first + index < count nodes) × (slice_get (children (value_of nodes node)) index ≡ Some (value_of nodes (o.first + index)))
  child_numbered index less =
      let c = get_or (children (value_of nodes node)) index null in
      let at_index = slice_get-get_or (children (value_of nodes node)) index null less in
      let there = child_there index c at_index in
      (there.0, at_index ∙ ap Some (sym there.1))

  -- the number of its first child
  first_is : first_in nodes node ≡ o.first
  first_is =
      let first : Opening → ℕ = λ o. o.first in
      get_or_from_slice_get (map first nodes.openings.items) node o.first 0
      (slice_get-map first nodes.openings.items node ∙ ap (option_map first) opening_at)

  -- its members by name, as many as it has
  module _ (len : ℕ) (all : len ≡ length (members_in (value_of nodes node))) where
    pub names_within : o.names + len ≤ length nodes.by_name.items
    names_within = let within = is_opened.within in omega (arith, all, within)

    pub names_there : (es : Named) → es ≡ nodes.by_name.items
        → AreNamesOf (members_in (value_of nodes node)) (first_in nodes node)
        (take (o.names + len - o.names) (drop o.names es))
    names_there es same =
        let ms = members_in (value_of nodes node) in
        let lengths : length ms ≡ o.names + len - o.names = omega (arith, all) in
        let part : take (length ms) (drop o.names nodes.by_name.items)
        ≡ take (o.names + len - o.names) (drop o.names es) =
        λ i. take (lengths i) (drop o.names (sym same i)) in
        subst (AreNamesOf ms (first_in nodes node)) part
        (subst (λ n. AreNamesOf ms n (take (length ms) (drop o.names nodes.by_name.items)))
        (sym first_is) is_opened.names_are)

  pub apart_there : ¬ RepeatsName (names_in (members_in (value_of nodes node)))
  apart_there twice =
      let there = is_opened.names_are in
      there.by_name.apart (repeats_sorted (members_in (value_of nodes node)) o.first _ there.same twice)

  -- the value of a member has its number
  member_there : (k : ℕ) (m : Member) → slice_get (members_in (value_of nodes node)) k ≡ Some m
      → (o.first + k < count nodes) × (value_of nodes (o.first + k) ≡ m.value)
  member_there k m at_k = child_there k m.value (child_of_member (value_of nodes node) k m at_k)

  -- the name of a member leads to the value of its number
  pub member_leads : (k : ℕ) (m : Member) → slice_get (members_in (value_of nodes node)) k ≡ Some m
      → (o.first + k < count nodes)
      × (find (members_in (value_of nodes node)) m.name ≡ Some (value_of nodes (o.first + k)))
  member_leads k m at_k =
      let there = member_there k m at_k in (
        there.0,
        find-at (members_in (value_of nodes node)) k m apart_there at_k ∙ ap Some (sym there.1),
      )

  -- what is found among the names of its members
  module _ (es : Named) (names : AreNamesOf (members_in (value_of nodes node)) (first_in nodes node) es)
      (x : Name) where
    abbrev ms : List Member
    ms = members_in (value_of nodes node)

    same : IsPermutation (numbered o.first ms) (entries es)
    same = subst (λ n. IsPermutation (numbered n ms) (entries es)) first_is names.same

    pub member_found : (r : Option ℕ)
        → MatchOption r ((n : ℕ) → ¬ Contains (entries es) (x, n))
        (λ n. Contains (entries es) (x, n))
        → MatchOption r (find ms x ≡ None)
        (λ n. (n < count nodes) × (find ms x ≡ Some (value_of nodes n)))
    member_found None none = go (find ms x) refl
      where
        go : (r : Option Tree) → find ms x ≡ r → r ≡ None
        go None e = refl
        go (Some v) e =
            let one = found_at ms x v e in
            let there = entry_of_member ms o.first es same one.0 one.1 one.2 in
            absurd (none (o.first + one.0)
            (subst (λ y. Contains (entries es) (y, o.first + one.0)) one.3 there))
    member_found (Some n) held =
        let one = member_of_entry ms o.first es same x n held in
        let there = member_there one.0 one.1 one.2 in
        let number_is : o.first + one.0 ≡ n = one.4 in (
          omega (arith, there.0, number_is),
          ap (find ms) (sym one.3)
              ∙ find-at ms one.0 one.1 apart_there one.2
              ∙ ap Some (sym there.1 ∙ ap (value_of nodes) number_is),
        )

-- ---- the value around a value
module _ (nodes : Nodes) (under_way : IsNumberedSoFar nodes) (node : ℕ) (n : code_node.Node) (some : 0 < node) (within : node < count nodes) (is : n ≡ get_or nodes.nodes.items node n) where
  pub stands_inside : IsInside (nodes_of nodes) nodes.openings.items node (node_view n)
  stands_inside = under_way.inside node (node_view n) (node_read nodes node n within is) some

  pub parent_opened : n.parent < opened nodes
  parent_opened = slice_get_within nodes.openings.items n.parent stands_inside.opening stands_inside.opening_at

  pub parent_within : n.parent < count nodes
  parent_within = omega (arith, stands_inside.earlier, within)

  around_is : value_of nodes n.parent ≡ stands_inside.around
  around_is = value_is nodes n.parent stands_inside.around stands_inside.around_at

  module _ (o : Opening) (opening_is : o ≡ get_or nodes.openings.items n.parent o) where
    same_opening : o ≡ stands_inside.opening
    same_opening = opening_is ∙ get_or_from_slice_get nodes.openings.items n.parent stands_inside.opening o stands_inside.opening_at

    index_is : o.first + stands_inside.index ≡ node
    index_is = ap (λ (o : Opening). o.first + stands_inside.index) same_opening ∙ stands_inside.number_is

    pub first_upto : o.first ≤ node
    first_upto = omega (arith, index_is)

    same_index : stands_inside.index ≡ node - o.first
    same_index = omega (arith, index_is)

    -- it is the child of its index
    pub child_of_parent : slice_get (children (value_of nodes n.parent)) (node - o.first) ≡ Some (value_of nodes node)
    child_of_parent =
        ap (λ k. slice_get (children (value_of nodes n.parent)) k) (sym same_index)
        ∙ ap (λ v. slice_get (children v) stands_inside.index) around_is
        ∙ stands_inside.child_at
        ∙ ap Some (value_read nodes node n within is)

    -- the names in an object around it
    module _ (ms : Members) (object_is : value_of nodes n.parent ≡ object ms) where
      pub apart_around : ¬ RepeatsName (names_in (members ms))
      apart_around twice =
          let inner = under_way.opened n.parent o (value_of nodes n.parent) (stands_inside.opening_at ∙ ap Some (sym same_opening)) (value_there nodes n.parent parent_within) in
          let named = subst (λ v. AreNamesOf (members_in v) o.first (take (length (members_in v)) (drop o.names nodes.by_name.items))) object_is inner.names_are in
          named.by_name.apart (repeats_sorted (members ms) o.first _ named.same twice)

      pub index_within : node - o.first < length (members ms)
      index_within =
          let there : slice_get (map (λ m. m.value) (members ms)) (node - o.first) ≡ Some (value_of nodes node) = ap (λ v. slice_get (children v) (node - o.first)) (sym object_is) ∙ child_of_parent in
          omega (arith, slice_get_within (map (λ m. m.value) (members ms)) (node - o.first) (value_of nodes node) there, length-map (members ms) (λ (m : Member). m.value))

      -- the name of its member leads to it
      pub name_leads : (m : Member) → slice_get (members ms) (node - o.first) ≡ Some m → inside (value_of nodes n.parent) (to_member m.name) ≡ Some (value_of nodes node)
      name_leads m there =
          ap (λ v. inside v (to_member m.name)) object_is
          ∙ find-at (members ms) (node - o.first) m apart_around there
          ∙ sym (slice_get-map (λ (m : Member). m.value) (members ms) (node - o.first) ∙ ap (option_map (λ (m : Member). m.value)) there)
          ∙ ap (λ v. slice_get (children v) (node - o.first)) (sym object_is)
          ∙ child_of_parent

-- ---- the value at a place has a number
module _ (nodes : Nodes) (numbering : IsNumbering nodes) where
  no_opening : Opening
  no_opening = record { first = 0; names = 0 }

  opening_of : (i : ℕ) → i < count nodes → (o : Opening) × (slice_get nodes.openings.items i ≡ Some o)
  opening_of i within = (get_or nodes.openings.items i no_opening, slice_get-get_or nodes.openings.items i no_opening (omega (arith, within, numbering.all_opened)))

  number_at : (place : List PlaceStep) (i : ℕ) (v w : Tree) → slice_get (values_in (nodes_of nodes)) i ≡ Some v → at v place ≡ Some w → (j : ℕ) × (slice_get (values_in (nodes_of nodes)) j ≡ Some w)
  number_at [] i v w v_at e = (i, v_at ∙ e)
  number_at (s ∷ rest) i v w v_at e =
      option_and_then_some (λ u. at u rest) (inside v s) w e
      (λ c c_at deeper.
      let o = opening_of i (value_within nodes i v v_at) in
      let k = child_inside v s c c_at in
      number_at rest (o.0.first + k.0) c w ((numbering.under_way.opened i o.0 v o.1 v_at).children_at k.0 c k.1) deeper)

  -- so no name stands twice in an object
  pub names_once : (document : Tree) → slice_get (values_in (nodes_of nodes)) 0 ≡ Some document → NamesStandOnce document
  names_once document root place ms there twice =
      let j = number_at place 0 document (object ms) root there in
      let within = value_within nodes j.0 (object ms) j.1 in
      let o = opening_of j.0 within in
      let opening_is = sym (get_or_from_slice_get nodes.openings.items j.0 o.0 o.0 o.1) in
      apart_there nodes numbering j.0 o.0 within opening_is
      (subst (λ v. RepeatsName (names_in (members_in v))) (sym (value_is nodes j.0 (object ms) j.1)) twice)

  -- what is found among the names of an object's members is a member
  pub found_by_names : (node : ℕ) → node < count nodes → (es : Named)
      → AreNamesOf (members_in (value_of nodes node)) (first_in nodes node) es
      → (x : Name) (r : Option ℕ)
      → MatchOption r ((n : ℕ) → ¬ Contains (entries es) (x, n)) (λ n. Contains (entries es) (x, n))
      → MatchOption r (find (members_in (value_of nodes node)) x ≡ None)
      (λ n. (n < count nodes)
      × (find (members_in (value_of nodes node)) x ≡ Some (value_of nodes n)))
  found_by_names node within =
      let o = opening_of node within in
      let opening_is = sym (get_or_from_slice_get nodes.openings.items node o.0 o.0 o.1) in
      member_found nodes numbering node o.0 within opening_is

-- where all values are opened
pub numbering_from : (nodes : Nodes) (document : Tree) → IsNumberedSoFar nodes → count nodes ≤ opened nodes → slice_get (values_in (nodes_of nodes)) 0 ≡ Some document → IsNumbering nodes
numbering_from nodes document under_way past root = record {
  under_way = under_way;
  all_opened = omega (arith, past, under_way.upto, long_nodes nodes);
  root = value_within nodes 0 document root;
}
