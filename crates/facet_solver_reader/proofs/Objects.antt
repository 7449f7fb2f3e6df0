-- The readings of an object with and without its members of no known name.
use Rattle.std.proofs.Common.{◌≡◌, ◌≢◌, ◌↔◌, inl, inr, subst, ⊎_elim, List, refl, false, IsTrue}
use Rattle.facet_solver_reader.specs.declared.count.Count.{Count}
use Rattle.facet_solver_reader.specs.declared.count.Count.TheVariants.{One, None as NoReading}
use Rattle.facet_solver_reader.specs.declared.count.Count.TheVariants.{Several}
use Rattle.facet_solver_reader.specs.Branches.{ReadsList}
use Rattle.facet_solver_reader.specs.Choices.{Choice}
use Rattle.facet_solver_reader.specs.Counted.{Counted}
use Rattle.facet_solver_reader.specs.Documents.{Member}
use Rattle.facet_solver_reader.specs.Known.{Chooses, IsKnown, rest}
use Rattle.facet_solver_reader.specs.Objects.{HasUnknown, ReadsAll, ReadsIgnoring, ReadsObject}
use Rattle.facet_solver_reader.specs.Objects.{Reads, taking, ignoring}
use Rattle.facet_solver_reader.specs.Parts.{ListId}
use Rattle.facet_solver_reader.specs.Rules.{Rules}
use Rattle.facet_solver_reader.proofs.Counting.{counted_same}

module _ (rules : Rules) (reads : Reads) (members : List Member) (list : ListId) where
  -- unknown members that no choice takes
  pub count_of_untaken : HasUnknown rules (taking members list)
      → (IsKnown (Chooses rules.lists list) rest → ⊥)
      → Counted (ReadsAll rules reads members list) NoReading
  count_of_untaken unknown none = λ c t.
      none (record {
        choice = c;
        items = t.reading.items;
        chooses = t.reading.chooses;
        has = t.all unknown;
      })

  -- else a reading takes them
  pub all_is_read :
      (HasUnknown rules (taking members list) → IsKnown (Chooses rules.lists list) rest)
      → (c : Choice)
      → ReadsList rules reads (taking members list) list c ↔ ReadsAll rules reads members list c
  all_is_read known c = (
    λ r.
        record {
          reading = r;
          all = λ u. r.known rest (record { takes = refl; unknown = u }) (known u);
        },
    λ a. a.reading,
  )

  -- and the count is that of the readings
  pub count_of_takes : (n : Count)
      → (HasUnknown rules (taking members list) → IsKnown (Chooses rules.lists list) rest)
      → Counted (ReadsList rules reads (taking members list) list) n
      → Counted (ReadsAll rules reads members list) n
  count_of_takes n known h =
      counted_same (ReadsList rules reads (taking members list) list)
      (ReadsAll rules reads members list) n
      (λ c r. (all_is_read known c).0 r) (λ c a. (all_is_read known c).1 a) h

  -- a strict reader ignores no member
  pub strict_reads : IsTrue rules.strict → (c : Choice)
      → ReadsAll rules reads members list c ↔ ReadsObject rules reads list members c
  strict_reads e c = (
    λ a. inl a,
    λ w.
        ⊎_elim (λ (a : ReadsAll rules reads members list c). a)
        (λ (i : ReadsIgnoring rules reads members list c).
        let f : rules.strict ≡ false = i.lenient in absurd (cc)) w,
  )

  -- an object of a strict reader
  pub count_of_strict : (n : Count) → IsTrue rules.strict
      → Counted (ReadsAll rules reads members list) n
      → Counted (ReadsObject rules reads list members) n
  count_of_strict n e h =
      counted_same (ReadsAll rules reads members list) (ReadsObject rules reads list members) n
      (λ c a. (strict_reads e c).0 a) (λ c w. (strict_reads e c).1 w) h

  -- where all is read, none is ignored
  pub all_reads : (d : Choice) → ReadsAll rules reads members list d → (c : Choice)
      → ReadsAll rules reads members list c ↔ ReadsObject rules reads list members c
  all_reads d all c = (
    λ a. inl a,
    λ w.
        ⊎_elim (λ (a : ReadsAll rules reads members list c). a)
        (λ (i : ReadsIgnoring rules reads members list c). absurd (i.none_reads_all d all)) w,
  )

  -- an object of which all is taken
  pub count_of_all_taken : (n : Count) → n ≢ NoReading
      → Counted (ReadsAll rules reads members list) n
      → Counted (ReadsObject rules reads list members) n
  count_of_all_taken NoReading some h = absurd (some refl)
  count_of_all_taken One some h =
      counted_same (ReadsAll rules reads members list) (ReadsObject rules reads list members) One
      (λ c a. inl a) (λ c w. (all_reads h.value h.has c).1 w) h
  count_of_all_taken Several some h =
      counted_same (ReadsAll rules reads members list) (ReadsObject rules reads list members)
      Several (λ c a. inl a) (λ c w. (all_reads h.first h.has_first c).1 w) h

  -- where none reads all and the reader is not strict, the others are ignored
  pub ignoring_reads : rules.strict ≡ false
      → Counted (ReadsAll rules reads members list) NoReading → (c : Choice)
      → ReadsList rules reads (ignoring members list) list c
      ↔ ReadsObject rules reads list members c
  ignoring_reads e none c = (
    λ r. inr (record { lenient = e; none_reads_all = none; reading = r }),
    λ w.
        ⊎_elim (λ (a : ReadsAll rules reads members list c). absurd (none c a))
        (λ (i : ReadsIgnoring rules reads members list c). i.reading) w,
  )

  -- an object of which not all is taken
  pub count_of_ignoring : (m n : Count) → rules.strict ≡ false → m ≡ NoReading
      → Counted (ReadsAll rules reads members list) m
      → Counted (ReadsList rules reads (ignoring members list) list) n
      → Counted (ReadsObject rules reads list members) n
  count_of_ignoring m n e f h g =
      let none = subst (λ k. Counted (ReadsAll rules reads members list) k) f h in
      counted_same (ReadsList rules reads (ignoring members list) list)
      (ReadsObject rules reads list members) n
      (λ c r. (ignoring_reads e none c).0 r) (λ c w. (ignoring_reads e none c).1 w) g
