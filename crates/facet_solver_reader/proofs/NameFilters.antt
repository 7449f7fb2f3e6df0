-- Names that a filter tells to be missing.
use Rattle.std.proofs.Common.{◌≡◌, ◌∙◌, ap, subst, refl, ℕ, ◌<◌, List, Option, Some, None}
use Rattle.std.proofs.Common.{true, false, nat_eq, max, arith}
use Rattle.std.proofs.lemmas.Nat.{mod_below}
use Rattle.std.proofs.lemmas.Nat.Bits.{bit_at_or, bit_at-lt}
use Rattle.std.specs.Prelude.{bit_or, IsTrue}
use Rattle.std.specs.Int.{bit_at}
use Rattle.std.specs.List.{All}
use Rattle.facet_solver_shape.specs.Names.{Name}
use Rattle.facet_solver_reader.specs.declared.count.name_filter.NameFilter.{NameFilter}
use Rattle.facet_solver_reader.specs.Documents.{Member, Tree}
use Rattle.facet_solver_reader.specs.NameFilters.{HoldsNames, bit_of, may_have}
use Rattle.facet_solver_reader.specs.Objects.{HasNamed, find}
use Rattle.facet_solver_reader.specs.Parts.{MemberPart}
use Rattle.facet_solver_reader.specs.Reading.{fails_for}
use Rattle.facet_solver_reader.proofs.Named.{has_named}

-- the bit that stands for a name is one of 64
pub bit_of_below : (x : Name) → bit_of x < 64
unfolding bit_of
bit_of_below x = mod_below _ 64 (omega arith)

-- a bit is at most one
one_is_most : (b : ℕ) → b < 2 → max 1 b ≡ 1
one_is_most b h = omega arith

-- a bit that is set stays so where another is set
pub bit_kept : (word more j : ℕ) → bit_at word j ≡ 1 → bit_at (bit_or word more) j ≡ 1
bit_kept word more j h =
    bit_at_or word more j ∙ ap (λ b. max b (bit_at more j)) h
    ∙ one_is_most (bit_at more j) (bit_at-lt more j)

-- where the bit of each member's name is set, a filter holds their names
pub holds_names : (ms : List Member) (filter : NameFilter)
    → All (λ (m : Member). bit_at filter.bits (bit_of m.name) ≡ 1) ms → HoldsNames ms filter
holds_names ms filter all =
    record {
      holds = λ x has.
          let a = (has_named ms x).0 has in
          let set = subst (λ y. bit_at filter.bits (bit_of y) ≡ 1)
          (ap (λ (m : Member). m.name) a.3 ∙ a.4) (all a.0 a.1 a.2) in
          ap (λ b. nat_eq b 1) set;
    }

-- a name whose bit is not set is missing
pub not_found : (ms : List Member) (filter : NameFilter) (x : Name) → HoldsNames ms filter
    → may_have filter x ≡ false → find ms x ≡ None
not_found ms filter x holds isnt = go (find ms x) refl
  where
    go : (found : Option Tree) → find ms x ≡ found → find ms x ≡ None
    go None e = e
    go (Some v) e =
        let has : HasNamed ms x = record { value = v; found = e } in
        let is : may_have filter x ≡ true = holds.holds x has in
        absurd (cc)

-- a member fails that is required and whose bit is not set
pub lacking_fails : (ms : List Member) (filter : NameFilter) (m : MemberPart)
    → HoldsNames ms filter → m.required ≡ true → may_have filter m.name ≡ false
    → IsTrue (fails_for m (find ms m.name))
lacking_fails ms filter m holds required isnt =
    ap (fails_for m) (not_found ms filter m.name holds isnt) ∙ required
