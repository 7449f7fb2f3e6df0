-- A value that names a variant is read as it once where its content is.
use Rattle.std.proofs.Common.{◌≡◌, ◌∙◌, sym, ap, subst, refl, ℕ, List, [], ◌∷◌, Option, Some, None}
use Rattle.std.proofs.Common.{slice_get, inl, inr, length, ◌<◌}
use Rattle.std.specs.Prelude.{◌↔◌, ◌⊎◌}
use Rattle.std.proofs.lemmas.Option.{slice_get_within}
use Rattle.facet_solver_shape.specs.Names.{Name}
use Rattle.facet_solver_reader.specs.declared.count.Count.TheVariants.{One}
use Rattle.facet_solver_reader.specs.Choices.{Reading, a_value, each_of, an_object, a_variant}
use Rattle.facet_solver_reader.specs.Counted.{Counted}
use Rattle.facet_solver_reader.specs.Documents.{Member, Members, Tree, member, members, no_members}
use Rattle.facet_solver_reader.specs.Documents.{object}
use Rattle.facet_solver_reader.specs.Kinds.{is_object}
use Rattle.facet_solver_reader.specs.Nodes.{children}
use Rattle.facet_solver_reader.specs.Reading.{IsOnlyMember}
use Rattle.facet_solver_reader.specs.Readings.{ReadsValue, inner}
use Rattle.facet_solver_reader.specs.Rules.{NamedVariant, Rules, a_named_variant}
use Rattle.facet_solver_reader.specs.ToldAt.{IsOnlyNamed}
use Rattle.facet_solver_reader.specs.Values.{Inner, ReadsEnd, ReadsNamed, ReadsNamedVariant}
use Rattle.facet_solver_reader.proofs.Joined.{AreImages}
use Rattle.facet_solver_reader.proofs.Counting.{counted_images, only_of_images}
use Rattle.facet_solver_reader.proofs.InMemory.{only_child}
use Rattle.facet_solver_reader.proofs.ToldVariants.{one_named}

-- a value of one member is that member
pub as_member : (v : Tree) (name : Name) (w : Tree) → IsOnlyMember v name
    → slice_get (children v) 0 ≡ Some w → v ≡ object (member name w no_members)
as_member v name w o at =
    o.is_object ∙ ap object (go o.members (only_child v name w o at))
  where
    go : (ms : Members) → members ms ≡ record { name = name; value = w } ∷ []
        → ms ≡ member name w no_members
    go no_members e = absurd (cc)
    go (member n u no_members) e =
        let m : Member = record { name = n; value = u } in
        let both : m ≡ record { name = name; value = w } = cc in
        let first : n ≡ name = ap (λ (x : Member). x.name) both in
        let second : u ≡ w = ap (λ (x : Member). x.value) both in
        ap (λ x. member x u no_members) first ∙ ap (λ y. member name y no_members) second
    go (member n u (member m x ms)) e = absurd (cc)

module _ (rules : Rules) (reads : Inner) (vs : List NamedVariant) (v : Tree) (name : Name)
    (w : Tree) (is : v ≡ object (member name w no_members)) (k : ℕ) (a : NamedVariant)
    (there : slice_get vs k ≡ Some a) (named : a.name ≡ name) where
  -- a reading of the value as a named variant
  abbrev N : Reading → Type 0
  N r = ReadsEnd rules reads (a_named_variant vs) v r

  -- what is read as the content is read as the variant
  pub into_named : (q : Reading) → reads.within a.content w q
      → ReadsEnd rules reads (a_named_variant vs) v (a_variant k q)
  into_named q p =
      subst (λ u. ReadsEnd rules reads (a_named_variant vs) u (a_variant k q)) (sym is)
      (subst (λ (o : Option NamedVariant).
      ReadsNamed reads.within o (record { name = name; value = w }) q) (sym there) (named, p))

  module _ (only : IsOnlyNamed vs name k) where
    -- and where no other has the name, nothing else is
    images : AreImages (reads.within a.content w) N (a_variant k)
    images = record { into = into_named; out = out; same = λ x y e. cc }
      where
        at_index : (o : Option NamedVariant) (j : ℕ) (q : Reading) → slice_get vs j ≡ o
            → ReadsNamed reads.within o (record { name = name; value = w }) q
            → (x : Reading) × reads.within a.content w x × (a_variant j q ≡ a_variant k x)
        at_index None j q e h = absurd h
        at_index (Some b) j q e h =
            let index : j ≡ k = only.alone j b e h.0 in
            let both : Some b ≡ Some a = sym e ∙ ap (slice_get vs) index ∙ there in
            let same : b ≡ a = cc in (
              q,
              subst (λ (c : NamedVariant). reads.within c.content w q) same h.1,
              ap (λ i. a_variant i q) index,
            )

        at_member : (z : Reading) → ReadsEnd rules reads (a_named_variant vs)
            (object (member name w no_members)) z
            → (x : Reading) × reads.within a.content w x × (z ≡ a_variant k x)
        at_member a_value h = absurd h
        at_member (each_of rs) h = absurd h
        at_member (an_object c) h = absurd h
        at_member (a_variant j q) h = at_index (slice_get vs j) j q refl h

        out : (z : Reading) → ReadsEnd rules reads (a_named_variant vs) v z
            → (x : Reading) × reads.within a.content w x × (z ≡ a_variant k x)
        out z h =
            at_member z (subst (λ u. ReadsEnd rules reads (a_named_variant vs) u z) is h)

    pub named_of_content : Counted (reads.within a.content w) One
        → Counted (ReadsEnd rules reads (a_named_variant vs) v) One
    named_of_content one =
        counted_images (reads.within a.content w) N (a_variant k) One images one

    pub content_of_named : Counted (ReadsEnd rules reads (a_named_variant vs) v) One
        → Counted (reads.within a.content w) One
    content_of_named one = only_of_images (reads.within a.content w) N (a_variant k) images one

-- the index of the variant that a value names: it alone has the name, or the value is read once, as
-- that
abbrev pub IsIndexOf : Rules → List NamedVariant → Tree → Name → ℕ → Type 0
IsIndexOf rules vs v name k =
    IsOnlyNamed vs name k
    ⊎ (Counted (ReadsNamedVariant (ReadsValue rules) vs v) One × ((k < length vs)
    × (r : Reading) × ReadsNamedVariant (ReadsValue rules) vs v (a_variant k r)))

-- it is within
pub index_within : (rules : Rules) (vs : List NamedVariant) (v : Tree) (name : Name) (k : ℕ)
    → IsIndexOf rules vs v name k → k < length vs
index_within rules vs v name k (inl only) = slice_get_within vs k only.variant only.is_at
index_within rules vs v name k (inr h) = h.1.0

module _ (rules : Rules) (vs : List NamedVariant) (v : Tree) (name : Name) (k : ℕ)
    (a : NamedVariant) (there : slice_get vs k ≡ Some a) (w : Tree)
    (is : v ≡ object (member name w no_members)) where
  -- the variant there has the name
  pub index_named : IsIndexOf rules vs v name k → a.name ≡ name
  index_named (inl only) =
      let both : Some only.variant ≡ Some a = sym only.is_at ∙ there in
      let same : only.variant ≡ a = cc in
      ap (λ (b : NamedVariant). b.name) (sym same) ∙ only.named
  index_named (inr h) =
      let read = subst (λ u. ReadsNamedVariant (ReadsValue rules) vs u (a_variant k h.1.1)) is h.1.2 in
      let here : ReadsNamed (ReadsValue rules) (Some a) (record { name = name; value = w }) h.1.1 =
      subst
      (λ (o : Option NamedVariant).
      ReadsNamed (ReadsValue rules) o (record { name = name; value = w }) h.1.1)
      there read in
      here.0

  -- and the value is read once where its content is
  pub member_once : IsIndexOf rules vs v name k
      → Counted (ReadsValue rules a.content w) One
      ↔ Counted (ReadsEnd rules (inner rules) (a_named_variant vs) v) One
  member_once (inl only) = (
    named_of_content rules (inner rules) vs v name w is k a there (index_named (inl only)) only,
    content_of_named rules (inner rules) vs v name w is k a there (index_named (inl only)) only,
  )
  member_once (inr h) = (
    λ one. h.0,
    λ one.
        one_named rules (inner rules) vs v k a h.1.1 w there one h.1.2 (ap is_object is)
        (ap (λ u. slice_get (children u) 0) is),
  )
