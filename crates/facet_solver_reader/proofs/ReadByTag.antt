-- The branch by which an object is read whose tag names a variant.
use Rattle.std.proofs.Common.{◌≡◌, ◌∙◌, inl, inr, refl, sym, ap, subst, ⊎_elim, ℕ, ◌<◌, arith}
use Rattle.std.proofs.Common.{false, true, List, [], ◌∷◌, ◌++◌, Option, Some, None, slice_get}
use Rattle.std.proofs.Common.{Contains, MatchOption, string_bytes}
use Rattle.std.specs.Option.{option_and_then, option_map}
use Rattle.facet_solver_shape.specs.declared.shape.Variant.{Variant}
use Rattle.facet_solver_shape.specs.Catalogues.{Catalogue}
use Rattle.facet_solver_shape.specs.Names.{Name}
use Rattle.facet_solver_shape.specs.Representation.{Repr, flattened, externally_tagged}
use Rattle.facet_solver_shape.specs.Representation.{internally_tagged, adjacently_tagged}
use Rattle.facet_solver_reader.specs.declared.nodes.Nodes.{Nodes}
use Rattle.facet_solver_reader.specs.declared.count.object.Object as code
use Rattle.facet_solver_reader.specs.declared.tables.Tables.{Tables}
use Rattle.facet_solver_reader.specs.declared.tables.tags.TagTable.{TagTable}
use Rattle.facet_solver_reader.specs.Branches.{ReadsList, ReadsPart}
use Rattle.facet_solver_reader.specs.Choices.{Choice, ChoiceAt, ChoosesParts, Item, Reading}
use Rattle.facet_solver_reader.specs.Choices.{a_value, choosing, done, each_of, having, lacking}
use Rattle.facet_solver_reader.specs.Choices.{member_of, next, taking, without}
use Rattle.facet_solver_reader.specs.Choices as choices
use Rattle.facet_solver_reader.specs.Chosen.{IsAlone, ReadsChosen}
use Rattle.facet_solver_reader.specs.Documents.{Tree, text}
use Rattle.facet_solver_reader.specs.Documents as trees
use Rattle.facet_solver_reader.specs.Nodes.{AreByName, entries, members_in, value_of}
use Rattle.facet_solver_reader.specs.Objects.{Agrees, Object, ReadsMember, find}
use Rattle.facet_solver_reader.specs.Parts.{ListId, Part, Selection, a_member, a_selection, of_branch}
use Rattle.facet_solver_reader.specs.Parts.{of_struct, of_tag}
use Rattle.facet_solver_reader.specs.Reading.{object_view}
use Rattle.facet_solver_reader.specs.Readings.{ReadsValue}
use Rattle.facet_solver_reader.specs.Rules.{Rules}
use Rattle.facet_solver_reader.specs.Tables.{IsPartOfList, rules_at}
use Rattle.facet_solver_reader.specs.Tags.{IsNamedBy, IsTagTable, tag_of}
use Rattle.facet_solver_reader.specs.Types.{content_member, has_fields, parts_of_branch, parts_of_content}
use Rattle.facet_solver_reader.specs.Types.{repr_at, tag_member, variant_at}
use Rattle.facet_solver_reader.specs.Values.{ReadsTag}
use Rattle.facet_solver_reader.proofs.Alone.{branch_reads}
use Rattle.facet_solver_reader.proofs.OneEnum.{IsOfOne, RiseFrom, part_of_one, rise_apart, rise_at}
use Rattle.facet_solver_reader.proofs.Ranks.{ranked_tag}
use Rattle.facet_solver_reader.proofs.Readings.{value_by_parts}
use Rattle.facet_solver_reader.proofs.TagTexts.{one_number}

-- a value that is read as the text of a tag is that text
is_text : (name : Name) (v : Tree) (r : Reading) → ReadsTag name v r → v ≡ text name
is_text name (text x) a_value h = ap (λ y. text y) h
is_text name (text x) (each_of rs) h = absurd h
is_text name (text x) (choices.an_object c) h = absurd h
is_text name (text x) (choices.a_variant k r) h = absurd h
is_text name trees.null r h = absurd h
is_text name (trees.truth b) r h = absurd h
is_text name (trees.number n) r h = absurd h
is_text name (trees.list vs) r h = absurd h
is_text name (trees.object ms) r h = absurd h

module _ (rules : Rules) (object : Object) (tag : Name) (v : Variant) where
  -- where a tag is read, it has the text of the variant
  member_text : (o : Option Tree) (r : Option Reading)
      → ReadsMember (ReadsValue rules)
      (record { name = tag; required = true; target = of_tag (string_bytes v.name) }) o r
      → o ≡ Some (text (string_bytes v.name))
  member_text None None h = absurd (let b : true ≡ false = h in cc)
  member_text None (Some r) h = absurd h
  member_text (Some w) None h = absurd h
  member_text (Some w) (Some r) h =
      let name = string_bytes v.name in
      ap (λ x. Some x)
      (is_text name w r ((value_by_parts rules 1 (of_tag name) w (ranked_tag rules 0 name) r).0 h))

  -- so an object has it that is read by parts which begin with the tag
  parts_text : (rest : List Part) (c : Choice) (items : List Item)
      → ChoosesParts rules.lists c (tag_member tag v ∷ rest) items
      → Agrees rules (ReadsValue rules) object items
      → find object.members tag ≡ Some (text (string_bytes v.name))
  parts_text rest done items h a = absurd h
  parts_text rest (next lacking c) items h a =
      let is : items ≡ member_of _ None ∷ h.second =
      h.items_are ∙ ap (λ (is : List Item). is ++ h.second) h.chooses_first in
      member_text (find object.members tag) None
      (subst (Agrees rules (ReadsValue rules) object) is a).0
  parts_text rest (next (having r) c) items h a =
      let is : items ≡ member_of _ (Some r) ∷ h.second =
      h.items_are ∙ ap (λ (is : List Item). is ++ h.second) h.chooses_first in
      member_text (find object.members tag) (Some r)
      (subst (Agrees rules (ReadsValue rules) object) is a).0
  parts_text rest (next without c) items h a = absurd h.chooses_first
  parts_text rest (next (choosing k d) c) items h a = absurd h.chooses_first
  parts_text rest (next (taking t) c) items h a = absurd h.chooses_first

module _ (shapes : Catalogue) (id k : ℕ) where
  -- the parts of a variant begin with the tag of the enum
  begins : (r : Repr) (tag : Name) (v : Variant) (ps : List Part) → tag_of r ≡ Some tag
      → parts_of_branch shapes id k r v ≡ Some ps
      → (rest : List Part) × (ps ≡ tag_member tag v ∷ rest)
  begins flattened tag v ps e f = absurd (cc)
  begins externally_tagged tag v ps e f = absurd (cc)
  begins (internally_tagged t) tag v ps e f =
      go (parts_of_content shapes v) (let same : t ≡ tag = cc in same) f
    where
      go : (o : Option (List Part)) → t ≡ tag → option_map (λ qs. tag_member t v ∷ qs) o ≡ Some ps
          → (rest : List Part) × (ps ≡ tag_member tag v ∷ rest)
      go None same g = absurd (cc)
      go (Some qs) same g =
          let is : ps ≡ tag_member t v ∷ qs = cc in
          (qs, is ∙ ap (λ x. tag_member x v ∷ qs) same)
  begins (adjacently_tagged t name) tag v ps e f =
      let content = content_member name (has_fields v.fields.items) id k in
      let same : t ≡ tag = cc in
      let is : ps ≡ tag_member t v ∷ content ∷ [] = cc in
      (content ∷ [], is ∙ ap (λ x. tag_member x v ∷ content ∷ []) same)

  -- a branch that has parts is of a variant
  variant_of : (o : Option Variant) (ps : List Part)
      → option_and_then (parts_of_branch shapes id k (repr_at shapes id)) o ≡ Some ps
      → (v : Variant) × (o ≡ Some v) × (parts_of_branch shapes id k (repr_at shapes id) v ≡ Some ps)
  variant_of None ps e = absurd (cc)
  variant_of (Some v) ps e = (v, refl, e)

module _ (t : Tables) (nodes : Nodes) (o : code.Object) (id : ℕ) (tag : TagTable)
    (table : IsTagTable t.shapes.now id tag) where
  -- an object that is read by a variant names it
  named_where_read : (k : ℕ) (c : Choice)
      → ReadsList (rules_at t) (ReadsValue (rules_at t)) (object_view nodes o) (of_branch id k) c
      → IsNamedBy tag (members_in (value_of nodes o.node)) k
  named_where_read k c r =
      let shapes = t.shapes.now in
      let parts = r.chooses.parts in
      let of = variant_of shapes id k (variant_at shapes id k) parts r.chooses.parts_are in
      let first = begins shapes id k (repr_at shapes id) tag.name.now of.0 parts table.tag_is of.2 in
      record {
        name = string_bytes of.0.name;
        found =
            parts_text (rules_at t) (object_view nodes o) tag.name.now of.0 first.0 c r.items
            (subst (λ ps. ChoosesParts (rules_at t).lists c ps r.items) first.1 r.chooses.chooses)
            r.agrees;
        names = table.variants k of.0 of.1;
      }

  -- it names only one
  named_once : (ms : List trees.Member) (j k : ℕ) → IsNamedBy tag ms j → IsNamedBy tag ms k → j ≡ k
  named_once ms j k a b =
      let both : Some (text a.name) ≡ Some (text b.name) = sym a.found ∙ b.found in
      let same : a.name ≡ b.name = cc in
      one_number tag.by_text.items table.by_text b.name j k
      (subst (λ x. Contains (entries tag.by_text.items) (x, j)) same a.names) b.names

  module _ (s : Selection) (part : IsPartOfList t (a_selection s)) (n : ℕ)
      (first : slice_get s.branches 0 ≡ Some (of_branch id n)) where
    -- the branches are variants of the enum
    rise : RiseFrom id 0 s.branches
    rise =
        go (part_of_one t.shapes.now part.list part.parts part.index (a_selection s) part.parts_are
        part.is_at)
      where
        go : IsOfOne (a_selection s) → RiseFrom id 0 s.branches
        go (inl h) =
            let e : slice_get (of_struct h.0 ∷ []) 0 ≡ Some (of_branch id n) =
            subst (λ bs. slice_get bs 0 ≡ Some (of_branch id n)) h.1 first in
            absurd (cc)
        go (inr h) =
            let at = rise_at h.0 0 s.branches 0 (of_branch id n) h.1 first in
            let e : of_branch id n ≡ of_branch h.0 at.0 = at.2 in
            let same : h.0 ≡ id = cc in
            subst (λ i. RiseFrom i 0 s.branches) same h.1

    -- a reading is by the branch of a variant that the object names
    read_named : (j : ℕ) (c : Choice) → ReadsChosen t nodes o s (choosing j c)
        → (k : ℕ) × (slice_get s.branches j ≡ Some (of_branch id k))
        × IsNamedBy tag (members_in (value_of nodes o.node)) k
    read_named j c r =
        let b = r.chooses.chooses in
        let at = rise_at id 0 s.branches j b.list rise b.branch_is in
        let is : slice_get s.branches j ≡ Some (of_branch id at.0) =
        b.branch_is ∙ ap (λ i. Some i) at.2 in
        let reads = branch_reads (rules_at t) (ReadsValue (rules_at t)) (object_view nodes o) s j c
        (of_branch id at.0) is r in
        (at.0, is, named_where_read at.0 reads.0 reads.1)

    -- where it names none, there is none
    pub alone_unnamed : ((k : ℕ) → IsNamedBy tag (members_in (value_of nodes o.node)) k → ⊥)
        → (k : ℕ) → IsAlone t nodes o s k
    alone_unnamed none k j c r =
        let named = read_named j c r in absurd (none named.0 named.2)

    -- where it names one, no branch but that one reads it
    pub alone_named : (k i : ℕ) → IsNamedBy tag (members_in (value_of nodes o.node)) k
        → slice_get s.branches k ≡ Some (of_branch i k) → IsAlone t nodes o s k
    alone_named k i h at j c r =
        let named = read_named j c r in
        let same = named_once (members_in (value_of nodes o.node)) named.0 k named.2 h in
        let here = rise_at id 0 s.branches k (of_branch i k) rise at in
        let e : of_branch i k ≡ of_branch id here.0 = here.2 in
        let of : i ≡ id = cc in
        rise_apart id 0 s.branches j k k rise
        (subst (λ n. slice_get s.branches j ≡ Some (of_branch id n)) same named.1)
        (subst (λ m. slice_get s.branches k ≡ Some (of_branch m k)) of at)

-- the variant that is found by the text of an object's tag is the one that the object names
pub named_by_text : (tag : TagTable) (ms : List trees.Member) (x : Name)
    → find ms tag.name.now ≡ Some (text x) → (found : Option ℕ)
    → MatchOption found ((k : ℕ) → ¬ Contains (entries tag.by_text.items) (x, k))
    (λ k. Contains (entries tag.by_text.items) (x, k))
    → MatchOption found ((k : ℕ) → ¬ IsNamedBy tag ms k) (IsNamedBy tag ms)
named_by_text tag ms x is None none = λ k h.
    let both : Some (text h.name) ≡ Some (text x) = sym h.found ∙ is in
    let same : h.name ≡ x = cc in
    none k (subst (λ y. Contains (entries tag.by_text.items) (y, k)) same h.names)
named_by_text tag ms x is (Some k) held = record { name = x; found = is; names = held }
