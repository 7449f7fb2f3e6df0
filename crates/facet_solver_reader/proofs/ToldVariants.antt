-- The only reading of a value as a variant, and what is told of it.
use Rattle.std.proofs.Common.{◌≡◌, ◌⊎◌, ◌∙◌, sym, ap, subst, refl, ⊎_elim, inl, inr, ℕ, ◌<◌, List}
use Rattle.std.proofs.Common.{[]}
use Rattle.std.proofs.Common.{◌∷◌, Some, None, Option, slice_get, true, false, length, Box}
use Rattle.std.proofs.Common.{Global}
use Rattle.std.proofs.lemmas.Option.{slice_get_within}
use Rattle.std.specs.Borrow.{Bor}
use Rattle.std.specs.List.{list_any}
use Rattle.facet_solver_shape.specs.Catalogues.{Catalogue}
use Rattle.facet_solver_shape.specs.Names.{Name}
use Rattle.facet_solver_reader.specs.declared.count.Count.TheVariants.{One}
use Rattle.facet_solver_reader.specs.declared.document.Document.{Document}
use Rattle.facet_solver_reader.specs.declared.reading.Reading as code
use Rattle.facet_solver_reader.specs.declared.reading.ReadingKind.{ReadingKind}
use Rattle.facet_solver_reader.specs.declared.reading.ReadingKind.TheVariants as kinds
use Rattle.facet_solver_reader.specs.declared.reading.VariantName.{VariantName}
use Rattle.facet_solver_reader.specs.Choices.{Choice, Reading, a_value, each_of, an_object}
use Rattle.facet_solver_reader.specs.Choices.{a_variant}
use Rattle.facet_solver_reader.specs.Counted.{Counted}
use Rattle.facet_solver_reader.specs.Documents.{Tree, null, truth, number, text, list, object, view}
use Rattle.facet_solver_reader.specs.Documents.{member, members, no_members}
use Rattle.facet_solver_reader.specs.Kinds.{is_object}
use Rattle.facet_solver_reader.specs.declared.nodes.Nodes.{Nodes}
use Rattle.facet_solver_reader.specs.declared.tables.Tables.{Tables}
use Rattle.facet_solver_reader.specs.Nodes.{children, members_in, value_of}
use Rattle.facet_solver_reader.specs.Objects.{ReadsObject}
use Rattle.facet_solver_reader.specs.Parts.{ListId}
use Rattle.facet_solver_reader.specs.Readings.{ReadsValue, inner}
use Rattle.facet_solver_reader.specs.Tables.{rules_at}
use Rattle.facet_solver_reader.specs.Rules as types
use Rattle.facet_solver_reader.specs.Rules.{Alternative, AlternativeKind, End, NamedVariant, Rules}
use Rattle.facet_solver_reader.specs.Rules.{a_fallback, a_named_variant, an_untagged_variant, joins}
use Rattle.facet_solver_reader.specs.Rules.{other}
use Rattle.facet_solver_reader.specs.Told.{TellsAs, by_alternative, by_member, by_name, end_of_target}
use Rattle.facet_solver_reader.specs.Told.{names_of, names_view}
use Rattle.facet_solver_reader.specs.ToldAt.{IsOnlyByKind, IsToldAlternative, IsToldAs, IsToldAt}
use Rattle.facet_solver_reader.specs.ToldAt.{ReadsByAlternative}
use Rattle.facet_solver_reader.specs.Values.{Inner, ReadsAlone, ReadsByFallback, ReadsByItself}
use Rattle.facet_solver_reader.specs.Values.{ReadsByKind, ReadsByOne, ReadsDirectly, ReadsEnd}
use Rattle.facet_solver_reader.specs.Values.{ReadsJoined, ReadsLast, is_whole_of}
use Rattle.facet_solver_reader.specs.Values.{ReadsNamed, ReadsNamedVariant}
use Rattle.facet_solver_reader.proofs.OneEach.{one_into}

module _ (rules : Rules) (reads : Inner) (joined : ListId) (alone : List Alternative) (v : Tree)
  where
    -- a reading of the value as the untagged enum
    abbrev W : Reading → Type 0
    W r = ReadsEnd rules reads (an_untagged_variant joined alone) v r

    -- a variant that joins is no variant that is read by itself
    no_joined : (w : Tree) (k : ℕ) (r : Reading) → ReadsJoined rules reads.within joined w (a_variant k r)
        → ⊥
    no_joined (object ms) k r h = h
    no_joined null k r h = h
    no_joined (truth b) k r h = h
    no_joined (number n) k r h = h
    no_joined (text x) k r h = h
    no_joined (list vs) k r h = h

    -- a reading as a variant by itself is by one that is no fallback, or by a fallback where there is
    -- no other
    pub by_variant : (k : ℕ) (r : Reading) → W (a_variant k r)
        → ReadsByOne reads.itself alone (slice_get alone k) v r
        ⊎ (((q : Reading) → ReadsDirectly rules reads (an_untagged_variant joined alone) v q → ⊥)
        × ReadsByFallback reads.itself (slice_get alone k) v r)
    by_variant k r h =
        ⊎_elim
        (λ (d : ReadsDirectly rules reads (an_untagged_variant joined alone) v (a_variant k r)).
        ⊎_elim (λ (j : ReadsJoined rules reads.within joined v (a_variant k r)).
        absurd (no_joined v k r j))
        (λ (a : ReadsAlone reads.itself alone v (a_variant k r)). inl a) d)
        (λ (l : ReadsLast rules reads (an_untagged_variant joined alone) v (a_variant k r)).
        inr (l.0, l.1)) h

    -- such a variant is there
    pub variant_within : (k : ℕ) (r : Reading) → W (a_variant k r) → k < length alone
    variant_within k r h = go (slice_get alone k) refl (by_variant k r h)
      where
        go : (o : Option Alternative) → slice_get alone k ≡ o
            → ReadsByOne reads.itself alone o v r
            ⊎ (((q : Reading) → ReadsDirectly rules reads (an_untagged_variant joined alone) v q → ⊥)
            × ReadsByFallback reads.itself o v r)
            → k < length alone
        go None e h =
            ⊎_elim (λ (a : ReadsByOne reads.itself alone None v r). absurd a)
            (λ (f : ((q : Reading)
            → ReadsDirectly rules reads (an_untagged_variant joined alone) v q → ⊥)
            × ReadsByFallback reads.itself None v r). absurd f.1) h
        go (Some a) e h = slice_get_within alone k a e

    module _ (k : ℕ) (a : Alternative) (there : slice_get alone k ≡ Some a) where
      -- how the variant reads the value
      abbrev ByAlternative : Reading → Type 0
      ByAlternative r =
          ReadsByItself reads.itself alone a v r
          ⊎ (((q : Reading) → ReadsDirectly rules reads (an_untagged_variant joined alone) v q → ⊥)
          × ((a.kind ≡ a_fallback) × reads.itself a.content v r))

      -- a reading as the variant is one by it
      pub out_of : (r : Reading) → W (a_variant k r) → ByAlternative r
      out_of r h =
          subst (λ (o : Option Alternative).
          ReadsByOne reads.itself alone o v r
          ⊎ (((q : Reading) → ReadsDirectly rules reads (an_untagged_variant joined alone) v q → ⊥)
          × ReadsByFallback reads.itself o v r)) there (by_variant k r h)

      -- and the other way round
      pub into : (r : Reading) → ByAlternative r → W (a_variant k r)
      into r h =
          let back = subst (λ (o : Option Alternative).
          ReadsByOne reads.itself alone o v r
          ⊎ (((q : Reading) → ReadsDirectly rules reads (an_untagged_variant joined alone) v q → ⊥)
          × ReadsByFallback reads.itself o v r)) (sym there) h in
          ⊎_elim (λ (p : ReadsByOne reads.itself alone (slice_get alone k) v r). inl (inr p))
          (λ (p : ((q : Reading)
          → ReadsDirectly rules reads (an_untagged_variant joined alone) v q → ⊥)
          × ReadsByFallback reads.itself (slice_get alone k) v r). inr (p.0, p.1)) back

      -- how a variant of a kind reads the value
      abbrev By : AlternativeKind → Reading → Type 0
      By kind r =
          ReadsByKind kind (list_any (is_whole_of v) alone) v r (reads.itself a.content v r)
          ⊎ (((q : Reading) → ReadsDirectly rules reads (an_untagged_variant joined alone) v q → ⊥)
          × ((kind ≡ a_fallback) × reads.itself a.content v r))

      -- null alone is read as it is
      null_value : (w : Tree) (r : Reading)
          → ReadsByKind types.null_alone (list_any (is_whole_of v) alone) w r
          (reads.itself a.content v r) → r ≡ a_value
      null_value null r h = h
      null_value (truth b) r h = absurd h
      null_value (number n) r h = absurd h
      null_value (text x) r h = absurd h
      null_value (list vs) r h = absurd h
      null_value (object ms) r h = absurd h

      -- what the value is read as by a kind of variant
      content_by : (kind : AlternativeKind) (r : Reading) → By kind r
          → ReadsByAlternative kind r (reads.itself a.content v r)
      content_by joins r (inl h) = absurd h
      content_by joins r (inr h) = h.1.1
      content_by types.null_alone r (inl h) = null_value v r h
      content_by types.null_alone r (inr h) =
          let no : types.null_alone ≡ a_fallback = h.1.0 in absurd (cc)
      content_by (types.a_whole range) r (inl h) = h
      content_by (types.a_whole range) r (inr h) = h.1.1
      content_by types.a_float r (inl h) = h.1
      content_by types.a_float r (inr h) = h.1.1
      content_by a_fallback r (inl h) = absurd h
      content_by a_fallback r (inr h) = h.1.1
      content_by other r (inl h) = h
      content_by other r (inr h) = h.1.1

      -- another reading of the content is one as the variant
      other_by : (kind : AlternativeKind) (r q : Reading) → By kind r
          → (kind ≡ types.null_alone → ⊥) → reads.itself a.content v q → By kind q
      other_by joins r q (inl h) apart p = absurd h
      other_by joins r q (inr h) apart p = inr (h.0, (h.1.0, p))
      other_by types.null_alone r q h apart p = absurd (apart refl)
      other_by (types.a_whole range) r q (inl h) apart p = inl p
      other_by (types.a_whole range) r q (inr h) apart p = inr (h.0, (h.1.0, p))
      other_by types.a_float r q (inl h) apart p = inl (h.0, p)
      other_by types.a_float r q (inr h) apart p = inr (h.0, (h.1.0, p))
      other_by a_fallback r q (inl h) apart p = absurd h
      other_by a_fallback r q (inr h) apart p = inr (h.0, (h.1.0, p))
      other_by other r q (inl h) apart p = inl p
      other_by other r q (inr h) apart p = inr (h.0, (h.1.0, p))

      -- a reading as the variant reads its content
      pub content_read : (r : Reading) → W (a_variant k r)
          → ReadsByAlternative a.kind r (reads.itself a.content v r)
      content_read r h = content_by a.kind r (out_of r h)

      -- where the value has one reading, it has one as the content
      pub one_alternative : Counted W One → (r : Reading) → W (a_variant k r)
          → IsOnlyByKind a.kind (Counted (reads.itself a.content v) One)
      one_alternative one r h = go a.kind (out_of r h) (λ q p. into q p)
        where
          one_by : (kind : AlternativeKind) → By kind r → (kind ≡ types.null_alone → ⊥)
              → reads.itself a.content v r → ((q : Reading) → By kind q → W (a_variant k q))
              → Counted (reads.itself a.content v) One
          one_by kind b apart p back =
              one_into (reads.itself a.content v) W (a_variant k)
              (λ q s. back q (other_by kind r q b apart s)) (λ x y e. cc) one r p

          go : (kind : AlternativeKind) → By kind r → ((q : Reading) → By kind q → W (a_variant k q))
              → IsOnlyByKind kind (Counted (reads.itself a.content v) One)
          go joins (inl b) back = absurd b
          go joins (inr b) back = let fallback : joins ≡ a_fallback = b.1.0 in absurd (cc)
          go types.null_alone b back = tt
          go (types.a_whole range) b back =
              one_by (types.a_whole range) b (λ e. cc) (content_by (types.a_whole range) r b) back
          go types.a_float b back =
              one_by types.a_float b (λ e. cc) (content_by types.a_float r b) back
          go a_fallback b back = one_by a_fallback b (λ e. cc) (content_by a_fallback r b) back
          go other b back = one_by other b (λ e. cc) (content_by other r b) back

      -- two readings by one kind of variant are one, where the value has one reading
      pub same_by : (kind : AlternativeKind) (r q : Reading)
          → IsOnlyByKind kind (Counted (reads.itself a.content v) One)
          → ReadsByAlternative kind r (reads.itself a.content v r)
          → ReadsByAlternative kind q (reads.itself a.content v q) → q ≡ r
      same_by joins r q one h g = absurd one
      same_by types.null_alone r q one h g = g ∙ sym h
      same_by (types.a_whole range) r q one h g = one.only q g ∙ sym (one.only r h)
      same_by types.a_float r q one h g = one.only q g ∙ sym (one.only r h)
      same_by a_fallback r q one h g = one.only q g ∙ sym (one.only r h)
      same_by other r q one h g = one.only q g ∙ sym (one.only r h)

    -- a reading by the variants that join is of an object
    pub joined_one : (c : Choice) → W (an_object c) → Counted W One
        → (is_object v ≡ true) × Counted (ReadsObject rules reads.within joined (members_in v)) One
    joined_one c h one = go v refl (direct h)
      where
        direct : W (an_object c) → ReadsJoined rules reads.within joined v (an_object c)
        direct h =
            ⊎_elim
            (λ (d : ReadsDirectly rules reads (an_untagged_variant joined alone) v (an_object c)).
            ⊎_elim (λ (j : ReadsJoined rules reads.within joined v (an_object c)). j)
            (λ (a : ReadsAlone reads.itself alone v (an_object c)). absurd a) d)
            (λ (l : ReadsLast rules reads (an_untagged_variant joined alone) v (an_object c)).
            absurd l.1) h

        go : (w : Tree) → v ≡ w → ReadsJoined rules reads.within joined w (an_object c)
            → (is_object v ≡ true)
            × Counted (ReadsObject rules reads.within joined (members_in v)) One
        go (object ms) e j = (
          ap is_object e,
          subst (λ u. Counted (ReadsObject rules reads.within joined (members_in u)) One) (sym e)
              (one_into (ReadsObject rules reads.within joined (members ms)) W an_object
              (λ d p. inl (inl (subst (λ u. ReadsJoined rules reads.within joined u (an_object d))
              (sym e) p))) (λ x y q. cc) one c j),
        )
        go null e j = absurd j
        go (truth b) e j = absurd j
        go (number n) e j = absurd j
        go (text x) e j = absurd j
        go (list vs) e j = absurd j

module _ (rules : Rules) (reads : Inner) (vs : List NamedVariant) (v : Tree) where
  -- a reading of the value as a named variant
  abbrev N : Reading → Type 0
  N r = ReadsEnd rules reads (a_named_variant vs) v r

  -- a value that is read as a named variant is a text, read as it is, or an object of one member,
  -- whose value is read as the content
  pub data IsNamed (k : ℕ) (a : NamedVariant) (r : Reading) : Tree → Type 0 where
    a_text_named : (x : Name) → r ≡ a_value → IsNamed k a r (text x)
    a_member_named : (name : Name) (w : Tree) → a.name ≡ name → reads.within a.content w r
        → IsNamed k a r (object (member name w no_members))

  -- which of both it is
  pub named_form : (k : ℕ) (a : NamedVariant) (r : Reading) → slice_get vs k ≡ Some a
      → N (a_variant k r) → IsNamed k a r v
  named_form k a r there h = go v r h
    where
      go : (w : Tree) (r : Reading) → ReadsNamedVariant reads.within vs w (a_variant k r)
          → IsNamed k a r w
      go (text x) a_value h = a_text_named x refl
      go (text x) (each_of rs) h = absurd h
      go (text x) (an_object c) h = absurd h
      go (text x) (a_variant j q) h = absurd h
      go (object no_members) r h = absurd h
      go (object (member name w no_members)) r h =
          let p : ReadsNamed reads.within (Some a) (record { name = name; value = w }) r =
          subst (λ (o : Option NamedVariant).
          ReadsNamed reads.within o (record { name = name; value = w }) r) there h in
          a_member_named name w p.0 p.1
      go (object (member name w (member n u ms))) r h = absurd h
      go null r h = absurd h
      go (truth b) r h = absurd h
      go (number n) r h = absurd h
      go (list us) r h = absurd h

  -- the content of an only member has one reading, where the value has one
  pub one_named : (k : ℕ) (a : NamedVariant) (r : Reading) (w : Tree) → slice_get vs k ≡ Some a
      → Counted N One → N (a_variant k r) → is_object v ≡ true
      → slice_get (children v) 0 ≡ Some w
      → Counted (reads.within a.content w) One
  one_named k a r w there one h is child = go v refl (named_form k a r there h) is child
    where
      go : (u : Tree) → v ≡ u → IsNamed k a r u → is_object u ≡ true
          → slice_get (children u) 0 ≡ Some w → Counted (reads.within a.content w) One
      go (text x) e (a_text_named y as_is) is child = absurd (cc)
      go null e p is child = elim p [ ]
      go (truth b) e p is child = elim p [ ]
      go (number n) e p is child = elim p [ ]
      go (list us) e p is child = elim p [ ]
      go (object no_members) e p is child = elim p [ ]
      go (object (member n u ms)) e (a_member_named name x named p) is child =
          let same : x ≡ w = cc in
          subst (λ t. Counted (reads.within a.content t) One) same
          (one_into (reads.within a.content x) N (a_variant k)
          (λ q s. subst (λ t. ReadsEnd rules reads (a_named_variant vs) t (a_variant k q)) (sym e)
          (subst (λ (o : Option NamedVariant).
          ReadsNamed reads.within o (record { name = name; value = x }) q) (sym there) (named, s)))
          (λ y z q. cc) one r p)

-- a variant that reads more than null is read by its content
pub reads_by_content : (kind : AlternativeKind) (r : Reading) (C : Type 0)
    → (kind ≡ types.null_alone → ⊥) → C → ReadsByAlternative kind r C
reads_by_content joins r C apart h = h
reads_by_content types.null_alone r C apart h = absurd (apart refl)
reads_by_content (types.a_whole range) r C apart h = h
reads_by_content types.a_float r C apart h = h
reads_by_content a_fallback r C apart h = h
reads_by_content other r C apart h = h

-- what is told with one list of variants and one kind is told with the same
pub tells_same : (rules : Rules) (shapes : Catalogue) (e : End) (v : Tree) (r : Reading)
    (ns ms : List VariantName) (j k : ReadingKind) → ns ≡ ms → j ≡ k
    → TellsAs rules shapes e v r ns j → TellsAs rules shapes e v r ms k
tells_same rules shapes e v r ns ms j k p q h =
    subst (λ xs. TellsAs rules shapes e v r xs k) p
    (subst (λ x. TellsAs rules shapes e v r ns x) q h)

-- what is told of a value as a variant of an untagged enum
pub alternative_told : (t : Tables) (nodes : Nodes) (node : ℕ) (joined : ListId)
    (alone : List Alternative) (k : ℕ) (a : Alternative) (r : Reading) (w : code.Reading)
    → slice_get alone k ≡ Some a
    → ReadsEnd (rules_at t) (inner (rules_at t)) (an_untagged_variant joined alone)
    (value_of nodes node) (a_variant k r)
    → Counted (ReadsEnd (rules_at t) (inner (rules_at t)) (an_untagged_variant joined alone)
    (value_of nodes node)) One
    → IsToldAlternative t nodes node a w
    → IsToldAs t nodes node (an_untagged_variant joined alone) w
alternative_told t nodes node joined alone k a r w there h one told =
    let rules = rules_at t in
    let v = value_of nodes node in
    let e = an_untagged_variant joined alone in
    let same : told.reading ≡ r =
    same_by rules (inner rules) joined alone v k a there a.kind r told.reading
    (one_alternative rules (inner rules) joined alone v k a there one r h)
    (content_read rules (inner rules) joined alone v k a there r h) told.reads in
    let inside : TellsAs rules t.shapes.now (end_of_target rules a.content) v r told.names w.kind =
    subst (λ q. TellsAs rules t.shapes.now (end_of_target rules a.content) v q told.names w.kind) same
    told.tells in
    record {
      reading = a_variant k r;
      reads = h;
      tells = tells_same rules t.shapes.now e v (a_variant k r) (told.name ∷ told.names)
          w.variants.items w.kind w.kind (sym told.variants_are) refl
          (by_alternative joined alone k a v r told.name told.names w.kind there told.is_of inside);
    }

-- what is told of a value that is a text, as a variant that it names
pub text_told : (t : Tables) (nodes : Nodes) (node : ℕ) (vs : List NamedVariant) (k : ℕ)
    (a : NamedVariant) (r : Reading) (n : VariantName) (d : Bor Document)
    (w : code.Reading) → slice_get vs k ≡ Some a
    → ReadsEnd (rules_at t) (inner (rules_at t)) (a_named_variant vs) (value_of nodes node)
    (a_variant k r)
    → is_object (value_of nodes node) ≡ false → view d.now ≡ value_of nodes node
    → names_view n ≡ names_of t.shapes.now a.content → w.variants.items ≡ n ∷ []
    → w.kind ≡ kinds.Value d → IsToldAs t nodes node (a_named_variant vs) w
text_told t nodes node vs k a r n d w there h no_object seen is_of variants kind =
    go (value_of nodes node) refl (named_form rules (inner rules) vs v k a r there h) no_object
  where
    rules : Rules
    rules = rules_at t

    v : Tree
    v = value_of nodes node

    go : (u : Tree) → v ≡ u → IsNamed rules (inner rules) vs v k a r u → is_object u ≡ false
        → IsToldAs t nodes node (a_named_variant vs) w
    go (text x) e (a_text_named y plain) is_not =
        record {
          reading = a_variant k a_value;
          reads = subst (λ q. ReadsEnd rules (inner rules) (a_named_variant vs) v (a_variant k q)) plain
              h;
          tells = tells_same rules t.shapes.now (a_named_variant vs) v (a_variant k a_value) (n ∷ [])
              w.variants.items (kinds.Value d) w.kind (sym variants) (sym kind)
              (subst (λ z. TellsAs rules t.shapes.now (a_named_variant vs) z (a_variant k a_value)
              (n ∷ []) (kinds.Value d)) seen (by_name vs k a n d there is_of));
        }
    go (object (member m x ms)) e (a_member_named name y named p) is_not = absurd (cc)
    go (object no_members) e p is_not = elim p [ ]
    go null e p is_not = elim p [ ]
    go (truth b) e p is_not = elim p [ ]
    go (number b) e p is_not = elim p [ ]
    go (list us) e p is_not = elim p [ ]

-- what is told of an object of one member, as a variant that the member names
pub member_told : (t : Tables) (nodes : Nodes) (node child : ℕ) (vs : List NamedVariant) (k : ℕ)
    (a : NamedVariant) (r : Reading) (n : VariantName) (b : Box code.Reading Global)
    (w : code.Reading) → slice_get vs k ≡ Some a
    → ReadsEnd (rules_at t) (inner (rules_at t)) (a_named_variant vs) (value_of nodes node)
    (a_variant k r)
    → is_object (value_of nodes node) ≡ true
    → slice_get (children (value_of nodes node)) 0 ≡ Some (value_of nodes child)
    → IsToldAt t nodes child a.content b.value
    → names_view n ≡ names_of t.shapes.now a.content → w.variants.items ≡ n ∷ []
    → w.kind ≡ kinds.Content b → IsToldAs t nodes node (a_named_variant vs) w
member_told t nodes node child vs k a r n b w there h is_so at told is_of variants kind =
    go (value_of nodes node) refl (named_form rules (inner rules) vs v k a r there h) is_so at
  where
    rules : Rules
    rules = rules_at t

    v : Tree
    v = value_of nodes node

    u : Tree
    u = value_of nodes child

    go : (x : Tree) → v ≡ x → IsNamed rules (inner rules) vs v k a r x → is_object x ≡ true
        → slice_get (children x) 0 ≡ Some u → IsToldAs t nodes node (a_named_variant vs) w
    go (text x) e (a_text_named y plain) is at = absurd (cc)
    go (object no_members) e p is at = elim p [ ]
    go null e p is at = elim p [ ]
    go (truth z) e p is at = elim p [ ]
    go (number z) e p is at = elim p [ ]
    go (list us) e p is at = elim p [ ]
    go (object (member m x ms)) e (a_member_named name y named p) is at =
        let same : u ≡ y = cc in
        let q = told.reading in
        let reads : ReadsValue rules a.content y q =
        subst (λ z. ReadsValue rules a.content z q) same told.reads in
        let tells : TellsAs rules t.shapes.now (end_of_target rules a.content) y q
        b.value.variants.items b.value.kind =
        subst (λ z. TellsAs rules t.shapes.now (end_of_target rules a.content) z q
        b.value.variants.items b.value.kind) same told.tells in
        record {
          reading = a_variant k q;
          reads = subst
              (λ z. ReadsEnd rules (inner rules) (a_named_variant vs) z (a_variant k q)) (sym e)
              (subst (λ (o : Option NamedVariant).
              ReadsNamed (ReadsValue rules) o (record { name = name; value = y }) q) (sym there)
              (named, reads));
          tells = tells_same rules t.shapes.now (a_named_variant vs) v (a_variant k q) (n ∷ [])
              w.variants.items (kinds.Content b) w.kind (sym variants) (sym kind)
              (subst (λ z. TellsAs rules t.shapes.now (a_named_variant vs) z (a_variant k q) (n ∷ [])
              (kinds.Content b)) (sym e)
              (by_member vs k a n name y q b there is_of tells));
        }
