-- An untagged enum whose variants all read objects by parts alone.
use Rattle.std.proofs.Common.{◌≡◌, ◌∙◌, sym, ap, refl, ℕ, zero, suc, List, [], ◌∷◌, Option}
use Rattle.std.proofs.Common.{Bool, Some, None, ⊎_elim, inl, map, slice_get, true, false, ◌&&◌}
use Rattle.std.specs.Prelude.{◌↔◌}
use Rattle.std.specs.List.{list_all}
use Rattle.facet_solver_reader.specs.declared.count.Count.TheVariants.{One}
use Rattle.facet_solver_reader.specs.declared.end.Alternative as code
use Rattle.facet_solver_reader.specs.Choices.{Reading, a_value, each_of, an_object, a_variant}
use Rattle.facet_solver_reader.specs.Counted.{Counted}
use Rattle.facet_solver_reader.specs.Documents.{Tree, list, null, number, object, text, truth}
use Rattle.facet_solver_reader.specs.Documents.{members}
use Rattle.facet_solver_reader.specs.Kinds.{is_object}
use Rattle.facet_solver_reader.specs.Nodes.{members_in}
use Rattle.facet_solver_reader.specs.Objects.{ReadsObject}
use Rattle.facet_solver_reader.specs.Parts.{ListId}
use Rattle.facet_solver_reader.specs.Rules as types
use Rattle.facet_solver_reader.specs.Rules.{Alternative, AlternativeKind, Rules, an_untagged_variant}
use Rattle.facet_solver_reader.specs.ToldAt.{is_joined}
use Rattle.facet_solver_reader.specs.Values.{Inner, ReadsAlone, ReadsByFallback, ReadsByOne}
use Rattle.facet_solver_reader.specs.Values.{ReadsDirectly, ReadsEnd, ReadsFallback, ReadsJoined}
use Rattle.facet_solver_reader.specs.Values.{ReadsLast}
use Rattle.facet_solver_reader.specs.Views.{alternative_view}
use Rattle.facet_solver_reader.proofs.CountingValues.{joined_object}
use Rattle.facet_solver_reader.proofs.OneEach.{one_into}
use Rattle.facet_solver_reader.proofs.ReadOnce.{same_one}

-- a kind that is tested so is that
joins_so : (kind : AlternativeKind) → is_joined kind ≡ true → kind ≡ types.joins
joins_so types.joins e = refl
joins_so types.null_alone e = absurd (cc)
joins_so (types.a_whole range) e = absurd (cc)
joins_so types.a_float e = absurd (cc)
joins_so types.a_fallback e = absurd (cc)
joins_so types.other e = absurd (cc)

-- each variant has the kind
kind_at : (xs : List code.Alternative) (k : ℕ) (a : Alternative)
    → list_all (λ x. is_joined (alternative_view x).kind) xs ≡ true
    → slice_get (map alternative_view xs) k ≡ Some a → a.kind ≡ types.joins
kind_at [] k a all at = absurd (cc)
kind_at (x ∷ xs) zero a all at =
    let same : alternative_view x ≡ a = cc in
    let first : is_joined (alternative_view x).kind ≡ true = first_of _ _ all in
    joins_so a.kind (ap (λ (b : Alternative). is_joined b.kind) (sym same) ∙ first)
  where
    first_of : (p q : Bool) → (p && q) ≡ true → p ≡ true
    first_of true q e = refl
    first_of false q e = absurd (cc)
kind_at (x ∷ xs) (suc k) a all at = kind_at xs k a (rest_of _ _ all) at
  where
    rest_of : (p q : Bool) → (p && q) ≡ true → q ≡ true
    rest_of true q e = e
    rest_of false q e = absurd (cc)

module _ (rules : Rules) (reads : Inner) (joined : ListId) (xs : List code.Alternative)
    (all : list_all (λ x. is_joined (alternative_view x).kind) xs ≡ true) (v : Tree) where
  abbrev alone : List Alternative
  alone = map alternative_view xs

  -- none reads a value by itself
  none_alone : (r : Reading) → ReadsAlone reads.itself (map alternative_view xs) v r → ⊥
  none_alone a_value h = h
  none_alone (each_of rs) h = h
  none_alone (an_object c) h = h
  none_alone (a_variant k q) h = go (slice_get alone k) refl h
    where
      go : (o : Option Alternative) → slice_get alone k ≡ o
          → ReadsByOne reads.itself alone o v q → ⊥
      go None e h = h
      go (Some a) e h = by a.kind (kind_at xs k a all e) h
        where
          by : (kind : AlternativeKind) → kind ≡ types.joins
              → ReadsByOne reads.itself alone (Some (record { kind = kind; content = a.content })) v q
              → ⊥
          by types.joins e h = h
          by types.null_alone e h = absurd (cc)
          by (types.a_whole range) e h = absurd (cc)
          by types.a_float e h = absurd (cc)
          by types.a_fallback e h = absurd (cc)
          by types.other e h = absurd (cc)

  -- nor as a fallback
  none_last : (r : Reading) → ReadsFallback reads.itself (map alternative_view xs) v r → ⊥
  none_last a_value h = h
  none_last (each_of rs) h = h
  none_last (an_object c) h = h
  none_last (a_variant k q) h = go (slice_get alone k) refl h
    where
      go : (o : Option Alternative) → slice_get alone k ≡ o
          → ReadsByFallback reads.itself o v q → ⊥
      go None e h = h
      go (Some a) e h =
          let joins : a.kind ≡ types.joins = kind_at xs k a all e in
          let fallback : a.kind ≡ types.a_fallback = h.0 in
          let no : types.joins ≡ types.a_fallback = sym joins ∙ fallback in
          absurd (cc)

  -- so the readings are those by the variants that join
  pub by_joined : (r : Reading)
      → ReadsJoined rules reads.within joined v r
      ↔ ReadsEnd rules reads (an_untagged_variant joined (map alternative_view xs)) v r
  by_joined r = (
    λ j. inl (inl j),
    λ h.
        ⊎_elim
        (λ (d : ReadsDirectly rules reads (an_untagged_variant joined alone) v r).
        ⊎_elim (λ (j : ReadsJoined rules reads.within joined v r). j)
        (λ (a : ReadsAlone reads.itself alone v r). absurd (none_alone r a)) d)
        (λ (l : ReadsLast rules reads (an_untagged_variant joined alone) v r).
        absurd (none_last r l.1)) h,
  )

  -- and an object is read once by both
  pub joined_end_one : is_object v ≡ true
      → Counted (ReadsObject rules reads.within joined (members_in v)) One
      ↔ Counted (ReadsEnd rules reads (an_untagged_variant joined (map alternative_view xs)) v) One
  joined_end_one is =
      let same = same_one (ReadsJoined rules reads.within joined v)
      (ReadsEnd rules reads (an_untagged_variant joined alone) v) by_joined in (
        λ one. same.0 (joined_object rules reads.within joined v One is one),
        λ one. object_one v is (same.1 one),
      )
    where
      object_one : (u : Tree) → is_object u ≡ true
          → Counted (ReadsJoined rules reads.within joined u) One
          → Counted (ReadsObject rules reads.within joined (members_in u)) One
      object_one (object ms) is one = go one.value one.has
        where
          go : (r : Reading) → ReadsJoined rules reads.within joined (object ms) r
              → Counted (ReadsObject rules reads.within joined (members ms)) One
          go a_value p = absurd p
          go (each_of rs) p = absurd p
          go (a_variant k q) p = absurd p
          go (an_object c) p =
              one_into (ReadsObject rules reads.within joined (members ms))
              (ReadsJoined rules reads.within joined (object ms)) an_object (λ d q. q)
              (λ x y e. cc) one c p
      object_one null is one = absurd (cc)
      object_one (truth b) is one = absurd (cc)
      object_one (number n) is one = absurd (cc)
      object_one (text x) is one = absurd (cc)
      object_one (list us) is one = absurd (cc)
