-- Which variant a value is read as, by its index.
use Rattle.std.proofs.Common.{◌≡◌, ◌≢◌, ◌∷◌, [], refl, subst, ℕ, List, slice_get, inl}
use Rattle.std.proofs.Common.{inr, true, ⊎_elim}
use Rattle.facet_solver_reader.specs.declared.count.Count.{Count}
use Rattle.facet_solver_reader.specs.declared.count.Count.TheVariants.{None as NoCount, One}
use Rattle.facet_solver_reader.specs.declared.count.Count.TheVariants.{Several}
use Rattle.facet_solver_reader.specs.Choices.{Choice, Reading, an_object}
use Rattle.facet_solver_reader.specs.Choices.{a_variant}
use Rattle.facet_solver_reader.specs.Counted.{Counted}
use Rattle.facet_solver_reader.specs.Documents.{Member, Members, Tree, list, member, members, null}
use Rattle.facet_solver_reader.specs.Documents.{no_members, number, object, text, truth}
use Rattle.facet_solver_reader.specs.Kinds.{is_object}
use Rattle.facet_solver_reader.specs.Nodes.{members_in}
use Rattle.facet_solver_reader.specs.Objects.{Reads, ReadsObject}
use Rattle.facet_solver_reader.specs.Parts.{ListId}
use Rattle.facet_solver_reader.specs.Rules.{Alternative, NamedVariant, Rules}
use Rattle.facet_solver_reader.specs.Rules.{an_untagged_variant}
use Rattle.facet_solver_reader.specs.Values.{Inner, ReadsAlone, ReadsDirectly, ReadsEnd}
use Rattle.facet_solver_reader.specs.Values.{ReadsFallback, ReadsJoined, ReadsLast, ReadsNamed}
use Rattle.facet_solver_reader.specs.Values.{ReadsNamedVariant}
use Rattle.facet_solver_reader.proofs.UntaggedVariants.{count_directly}

-- what is counted, and not none of it, is there
pub some_counted : {X : Type 0} (P : X → Type 0) (n : Count) → n ≢ NoCount → Counted P n
    → (x : X) × P x
some_counted P NoCount some h = absurd (some refl)
some_counted P One some h = (h.value, h.has)
some_counted P Several some h = (h.first, h.has_first)

-- an object of one member is read as the variant that reads the member
pub named_by_member : (reads : Reads) (vs : List NamedVariant) (ms : Members) (x : Member) (k : ℕ)
    (r : Reading) → members ms ≡ x ∷ [] → ReadsNamed reads (slice_get vs k) x r
    → ReadsNamedVariant reads vs (object ms) (a_variant k r)
named_by_member reads vs no_members x k r single h = absurd (cc)
named_by_member reads vs (member n v no_members) x k r single h =
    let is : x ≡ record { name = n; value = v } = cc in
    subst (λ m. ReadsNamed reads (slice_get vs k) m r) is h
named_by_member reads vs (member n v (member n2 v2 ms)) x k r single h = absurd (cc)

-- an object that the variants which join read is read so as an untagged enum
pub read_by_joined : (rules : Rules) (reads : Inner) (joined : ListId) (alone : List Alternative)
    (v : Tree) (c : Choice) → is_object v ≡ true
    → ReadsObject rules reads.within joined (members_in v) c
    → ReadsEnd rules reads (an_untagged_variant joined alone) v (an_object c)
read_by_joined rules reads joined alone v c is h = inl (inl (of v is h))
  where
    of : (u : Tree) → is_object u ≡ true → ReadsObject rules reads.within joined (members_in u) c
        → ReadsJoined rules reads.within joined u (an_object c)
    of (object ms) e r = r
    of null e r = absurd (cc)
    of (truth b) e r = absurd (cc)
    of (number n) e r = absurd (cc)
    of (text x) e r = absurd (cc)
    of (list vs) e r = absurd (cc)

module _ (rules : Rules) (reads : Inner) (joined : ListId) (alone : List Alternative) (v : Tree)
    (no_joined : Counted (ReadsJoined rules reads.within joined v) NoCount)
    (no_alone : Counted (ReadsAlone reads.itself alone v) NoCount) where
  -- what no variant reads that joins, nor one by itself, none reads but a fallback
  none_directly : Counted (ReadsDirectly rules reads (an_untagged_variant joined alone) v) NoCount
  none_directly = count_directly rules reads joined alone v NoCount NoCount no_joined no_alone

  -- if it is read then, a fallback reads it
  pub read_by_last : (r : Reading) → ReadsEnd rules reads (an_untagged_variant joined alone) v r
      → ReadsFallback reads.itself alone v r
  read_by_last r w =
      ⊎_elim (λ (d : ReadsDirectly rules reads (an_untagged_variant joined alone) v r).
      absurd (none_directly r d))
      (λ (l : ReadsLast rules reads (an_untagged_variant joined alone) v r). l.1) w

  -- and what a fallback reads is read so
  pub read_last : (r : Reading) → ReadsFallback reads.itself alone v r
      → ReadsEnd rules reads (an_untagged_variant joined alone) v r
  read_last r h = inr (none_directly, h)
