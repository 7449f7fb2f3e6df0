-- A value that is read as a target is read by an atom of it.
use Rattle.std.proofs.Common.{◌≡◌, ◌∙◌, sym, ap, subst, refl, ℕ, zero, suc, List, [], ◌∷◌, Any}
use Rattle.std.proofs.Common.{Bool, true, false, IsTrue, Option, Some, None, slice_get, inl, inr}
use Rattle.std.proofs.Common.{⊎_elim}
use Rattle.std.specs.List.{list_any}
use Rattle.std.proofs.lemmas.List.Folds.{list_any_at}
use Rattle.std.proofs.lemmas.Option.{get_or_from_slice_get, slice_get_within}
use Rattle.facet_solver_checker.specs.declared.atoms.Atom.{Atom}
use Rattle.facet_solver_checker.specs.declared.atoms.Atom.TheVariants.{Null, Plain, Joined}
use Rattle.facet_solver_reader.specs.declared.plan.Plan.{Plan}
use Rattle.facet_solver_reader.specs.declared.plan.PlannedAlternative.{PlannedAlternative}
use Rattle.facet_solver_reader.specs.declared.plan.PlannedEnd.{PlannedEnd}
use Rattle.facet_solver_reader.specs.declared.plan.PlannedEnd.TheVariants as planned
use Rattle.facet_solver_reader.specs.declared.plan.PlannedKind.{PlannedKind}
use Rattle.facet_solver_reader.specs.declared.plan.PlannedKind.TheVariants as kinds
use Rattle.facet_solver_reader.specs.declared.plan.PlannedTarget.{PlannedTarget}
use Rattle.facet_solver_checker.specs.Atoms.{AsksByAlternative, AsksNumber, AsksOnward, HasAtom}
use Rattle.facet_solver_checker.specs.Atoms.{by_itself, as_asked, HasOwn, IsPlanFor, is_null_alone}
use Rattle.facet_solver_checker.specs.Atoms.{is_null_kind, ReadsAs, ReadsAtom}
use Rattle.facet_solver_shape.specs.Names.{Name}
use Rattle.facet_solver_reader.specs.Choices.{Reading, a_value, an_object, a_variant}
use Rattle.facet_solver_reader.specs.Documents.{Tree, null, object, Members}
use Rattle.facet_solver_reader.specs.Objects.{Reads}
use Rattle.facet_solver_reader.specs.Parts.{ListId, Target, of_shape, of_content, of_tag}
use Rattle.facet_solver_reader.specs.Plans.{AreInPairs, IsNumberIfChosen, IsNumberOf}
use Rattle.facet_solver_reader.specs.Plans.{IsPlannedAlternative, IsPlannedAs, IsPlannedContent}
use Rattle.facet_solver_reader.specs.Plans.{IsPlannedEnd, IsPlannedKind, IsPlannedTag}
use Rattle.facet_solver_reader.specs.Plans.{IsPlannedTarget, Meaning}
use Rattle.facet_solver_reader.specs.Rules as types
use Rattle.facet_solver_reader.specs.Rules.{Alternative, AlternativeKind, End, Content, as_shape}
use Rattle.facet_solver_reader.specs.Rules.{an_option, an_untagged_variant, joins, a_fallback}
use Rattle.facet_solver_reader.specs.Rules.{other}
use Rattle.facet_solver_reader.specs.Values.{Inner, OfVariant, ReadsAlone, ReadsByFallback}
use Rattle.facet_solver_reader.specs.Values.{ReadsByKind, ReadsByOne, ReadsContent, ReadsDirectly}
use Rattle.facet_solver_reader.specs.Values.{ReadsEnd, ReadsFallback, ReadsJoined, ReadsLast}
use Rattle.facet_solver_reader.specs.Values.{ReadsTarget, ReadsWithin, is_whole_of}
use Rattle.facet_solver_reader.proofs.Pairs.{pair_of}
use Rattle.facet_solver_checker.proofs.PlainReads.{by_list, content_read, end_read, tag_read}
use Rattle.facet_solver_reader.proofs.Quantifiers.{any_at}

-- a value is read by an atom that a target at a number has by itself, or as a target that this asks
data ReadsBy (m : Meaning) (reads itself : Reads) (i : ℕ) (p : PlannedEnd) (v : Tree) : Type 0
  where
    by_null : HasOwn i p Null → ReadsAs m reads planned.Null v → ReadsBy m reads itself i p v
    by_plain : HasOwn i p (Plain i) → ReadsAs m reads p v → ReadsBy m reads itself i p v
    by_joined : (n : ℕ) → HasOwn i p (Joined n) → ReadsAs m reads (planned.Object (Some n)) v
        → ReadsBy m reads itself i p v
    by_asked : (k : ℕ) (u : Target) (q : Reading) → AsksNumber p k → IsNumberOf m u k
        → itself u v q → ReadsBy m reads itself i p v

-- a fallback asks the same value on
fallback_asks : (k : PlannedKind) → IsPlannedKind a_fallback k → AsksOnward k
fallback_asks kinds.Fallback is = tt
fallback_asks k is = absurd is

-- whether a shape's end asks nothing else of the value itself
abbrev is_plain_end : End → Bool
is_plain_end (an_option s) = false
is_plain_end (an_untagged_variant joined alone) = false
is_plain_end e = true

-- whether content does
abbrev is_plain_content : Content → Bool
is_plain_content (as_shape s) = false
is_plain_content c = true

-- what asks nothing else of the value itself is an atom
own_of_end : (m : Meaning) (i : ℕ) (e : End) (p : PlannedEnd) → is_plain_end e ≡ true
    → IsPlannedEnd m e p → HasOwn i p (Plain i)
own_of_end m i (an_option s) p plain is = absurd (cc)
own_of_end m i (an_untagged_variant joined alone) p plain is = absurd (cc)
own_of_end m i e (planned.Option n) plain is = absurd is
own_of_end m i e (planned.Same n) plain is = absurd is
own_of_end m i e (planned.Untagged n ps) plain is = absurd is
own_of_end m i e p plain is = (refl, refl)

own_of_content : (m : Meaning) (i : ℕ) (c : Content) (p : PlannedEnd) → is_plain_content c ≡ true
    → IsPlannedContent m c p → HasOwn i p (Plain i)
own_of_content m i (as_shape s) p plain is = absurd (cc)
own_of_content m i c (planned.Option n) plain is = absurd is
own_of_content m i c (planned.Same n) plain is = absurd is
own_of_content m i c (planned.Untagged n ps) plain is = absurd is
own_of_content m i c p plain is = (refl, refl)

own_of_tag : (i : ℕ) (x : Name) (p : PlannedEnd) → IsPlannedTag x p → HasOwn i p (Plain i)
own_of_tag i x (planned.Tag name) is = (refl, refl)
own_of_tag i x p is = absurd is

module _ (m : Meaning) (reads itself : Reads) (i : ℕ) where
  abbrev inner : Inner
  inner = record { within = reads; itself = itself }

  module _ (p : PlannedEnd) (ps : List PlannedAlternative)
      (asks : (k : ℕ) → Any (AsksByAlternative k) ps → AsksNumber p k)
      (nulls : IsTrue (list_any is_null_alone ps) → HasOwn i p Null)
      (alone : List Alternative) (are : AreInPairs (IsPlannedAlternative m) alone ps) (v : Tree)
    where
      -- the alternative at an index
      abbrev PlannedAt : ℕ → Alternative → Type 0
      PlannedAt k a =
          (b : PlannedAlternative) × (slice_get ps k ≡ Some b) × IsPlannedAlternative m a b

      -- an alternative that asks the same value on
      onward : (k : ℕ) (a : Alternative) (b : PlannedAt k a) (q : Reading) → AsksOnward b.0.kind
          → itself a.content v q → ReadsBy m reads itself i p v
      onward k a b q on h =
          by_asked b.0.content a.content q
          (asks b.0.content (any_at (AsksByAlternative b.0.content) ps k b.0 b.1 (on, refl)))
          b.2.content h

      -- an alternative that reads a value by its kind
      by_kind : (k : ℕ) (a : Alternative) (b : PlannedAt k a) (q : Reading)
          (kind : AlternativeKind) (planned_kind : PlannedKind) → b.0.kind ≡ planned_kind
          → IsPlannedKind kind planned_kind → (whole : Bool) (w : Tree) → w ≡ v
          → ReadsByKind kind whole w q (itself a.content v q) → ReadsBy m reads itself i p v
      by_kind k a b q joins pk e is whole w s h = absurd h
      by_kind k a b q types.null_alone kinds.Null e is whole null s h =
          by_null (nulls (list_any_at is_null_alone ps k b.0 (slice_get_within ps k b.0 b.1)
          (ap is_null_alone (get_or_from_slice_get ps k b.0 b.0 b.1) ∙ ap is_null_kind e)))
          (subst (λ x. ReadsAs m reads planned.Null x) s tt)
      by_kind k a b q types.null_alone kinds.Null e is whole w s h = absurd h
      by_kind k a b q (types.a_whole range) (kinds.Whole r) e is whole w s h =
          onward k a b q (subst AsksOnward (sym e) tt) h
      by_kind k a b q types.a_float kinds.Float e is whole w s h =
          onward k a b q (subst AsksOnward (sym e) tt) h.1
      by_kind k a b q a_fallback kinds.Fallback e is whole w s h = absurd h
      by_kind k a b q other kinds.Other e is whole w s h =
          onward k a b q (subst AsksOnward (sym e) tt) h
      by_kind k a b q kind pk e is whole w s h = absurd is

      -- one alternative that is no fallback
      by_one : (k : ℕ) (o : Option Alternative) → slice_get alone k ≡ o → (q : Reading)
          → ReadsByOne itself alone o v q → ReadsBy m reads itself i p v
      by_one k None at q h = absurd h
      by_one k (Some a) at q h =
          let b = pair_of (IsPlannedAlternative m) alone ps k a are at in
          by_kind k a b q a.kind b.0.kind refl b.2.kind (list_any (is_whole_of v) alone) v refl h

      -- one that is
      by_fallback : (k : ℕ) (o : Option Alternative) → slice_get alone k ≡ o → (q : Reading)
          → ReadsByFallback itself o v q → ReadsBy m reads itself i p v
      by_fallback k None at q h = absurd h
      by_fallback k (Some a) at q h =
          let b = pair_of (IsPlannedAlternative m) alone ps k a are at in
          onward k a b q
          (fallback_asks b.0.kind (subst (λ x. IsPlannedKind x b.0.kind) h.0 b.2.kind)) h.1

      -- one of them
      by_alone : (r : Reading) → ReadsAlone itself alone v r → ReadsBy m reads itself i p v
      by_alone (a_variant k q) h = by_one k (slice_get alone k) refl q h
      by_alone r h = absurd h

      by_last : (r : Reading) → ReadsFallback itself alone v r → ReadsBy m reads itself i p v
      by_last (a_variant k q) h = by_fallback k (slice_get alone k) refl q h
      by_last r h = absurd h

  -- an object by the variants that join
  by_join : (joined : ListId) (n : Option ℕ) (p : PlannedEnd)
      → ((k : ℕ) → n ≡ Some k → HasOwn i p (Joined k)) → IsNumberIfChosen m joined n
      → (v : Tree) (r : Reading) → ReadsJoined m.rules reads joined v r
      → ReadsBy m reads itself i p v
  by_join joined None p own is (object ms) (an_object c) h =
      absurd (by_list m reads joined None is ms c h)
  by_join joined (Some k) p own is (object ms) (an_object c) h =
      by_joined k (own k refl) (by_list m reads joined (Some k) is ms c h)
  by_join joined n p own is v r h = absurd h

  -- by what a shape comes to
  by_end : (e : End) (p : PlannedEnd) (v : Tree) (r : Reading) → IsPlannedEnd m e p
      → ReadsEnd m.rules inner e v r → ReadsBy m reads itself i p v
  by_end (an_option s) (planned.Option n) null r is h = by_null refl tt
  by_end (an_option s) (planned.Option n) v r is h = by_asked n (of_shape s) r refl is h
  by_end (an_untagged_variant joined alone) (planned.Untagged n ps) v r is h =
      ⊎_elim
      (λ (d : ReadsDirectly m.rules inner (an_untagged_variant joined alone) v r).
      ⊎_elim
      (λ (j : ReadsJoined m.rules reads joined v r).
      by_join joined n (planned.Untagged n ps) (λ k e. e) is.0 v r j)
      (λ (a : ReadsAlone itself alone v r).
      by_alone (planned.Untagged n ps) ps.items (λ k a. a) (λ a. a) alone is.1 v r a) d)
      (λ (l : ReadsLast m.rules inner (an_untagged_variant joined alone) v r).
      by_last (planned.Untagged n ps) ps.items (λ k a. a) (λ a. a) alone is.1 v r l.1) h
  by_end (an_option s) p v r is h = absurd is
  by_end (an_untagged_variant joined alone) p v r is h = absurd is
  by_end e p v r is h = by_plain (own_of_end m i e p refl is) (end_read m reads e p v r is h)

  -- by what the content of a variant comes to
  by_content : (c : Content) (p : PlannedEnd) (v : Tree) (r : Reading) → IsPlannedContent m c p
      → ReadsContent m.rules inner c v r → ReadsBy m reads itself i p v
  by_content (as_shape s) (planned.Same n) v r is h = by_asked n (of_shape s) r refl is h
  by_content (as_shape s) p v r is h = absurd is
  by_content c p v r is h =
      by_plain (own_of_content m i c p refl is) (content_read m reads c p v r is h)

  -- by what a target comes to
  by_target : (t : Target) (p : PlannedEnd) (v : Tree) (r : Reading) → IsPlannedAs m t p
      → ReadsTarget m.rules inner t v r → ReadsBy m reads itself i p v
  by_target (of_shape s) p v r is h = by_end (m.rules.end_of s) p v r is h
  by_target (of_content s k) p v r is h = by_content (m.rules.content_of s k) p v r is h
  by_target (of_tag name) p v r is h =
      by_plain (own_of_tag i name p is) (tag_read m reads name p v r is h)

-- the target at a number has an atom that reads a value
pub record IsReadByAtom (m : Meaning) (plan : Plan) (reads : Reads) (i : ℕ) (v : Tree) : Type 0
  where
    pub atom : Atom
    pub has : HasAtom plan i atom
    pub is_read : ReadsAtom m plan reads atom v

-- a value that is read as a target is read by an atom of it
pub read_by_atom : (m : Meaning) (plan : Plan) → IsPlanFor m plan → (reads : Reads) (n : ℕ)
    (t : Target) (i : ℕ) → IsNumberOf m t i → (v : Tree) (r : Reading)
    → ReadsWithin m.rules reads n t v r → IsReadByAtom m plan reads i v
read_by_atom m plan is reads zero t i number v r h = absurd h
read_by_atom m plan is reads (suc n) t i number v r h =
    let p = pair_of (IsPlannedTarget m) m.targets plan.targets.items i t is.each_target number in
    go p.0 p.1 (λ k u q on g. read_by_atom m plan is reads n u k on v q g)
    (by_target m reads (ReadsWithin m.rules reads n) i t p.0.end v r p.2.end h)
  where
    Below : Type 0
    Below = (k : ℕ) (u : Target) (q : Reading) → IsNumberOf m u k
        → ReadsWithin m.rules reads n u v q → IsReadByAtom m plan reads k v

    go : (p : PlannedTarget) → slice_get plan.targets.items i ≡ Some p → Below
        → ReadsBy m reads (ReadsWithin m.rules reads n) i p.end v
        → IsReadByAtom m plan reads i v
    go p at below (by_null own g) =
        record { atom = Null; has = by_itself i p Null at own; is_read = g }
    go p at below (by_plain own g) =
        record {
          atom = Plain i;
          has = by_itself i p (Plain i) at own;
          is_read = record { target = p; target_is = at; is_read = g };
        }
    go p at below (by_joined k own g) =
        record { atom = Joined k; has = by_itself i p (Joined k) at own; is_read = g }
    go p at below (by_asked k u q asks is_number g) =
        let b = below k u q is_number g in
        record {
          atom = b.atom;
          has = as_asked i k p b.atom at asks b.has;
          is_read = b.is_read;
        }
