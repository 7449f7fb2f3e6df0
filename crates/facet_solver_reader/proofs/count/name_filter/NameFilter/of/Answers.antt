use Rattle.std.proofs.Common.{◌≡◌, ◌*◌, ◌%◌, ◌^◌, get_or, map, refl, subst, take}
use Rattle.std.proofs.lemmas.Nat.Bits.{bit_at_set_same}
use Rattle.std.specs.Int.{bit_at, w64}
use Rattle.std.specs.Prelude.{bit_or}
use Rattle.facet_solver_reader.specs.Documents.{Member}
use Rattle.facet_solver_reader.specs.NameFilters.{bit_of}
use Rattle.facet_solver_reader.specs.Reading.{member_view}
use Rattle.facet_solver_reader.proofs.CountingObjects.{all_seen, all_seen_more}
use Rattle.facet_solver_reader.proofs.NameFilters.{bit_kept, holds_names}
use Rattle.facet_solver_reader.proofs.Quantifiers.{all_of_none}
use Rattle.facet_solver_reader.proofs.count.name_filter.NameFilter.of.Goals as goal

pub loop-member-init : goal.loop-member-init
loop-member-init c = all_of_none (λ (m : Member). bit_at 0 (bit_of m.name) ≡ 1)

pub loop-member-preserved : goal.loop-member-preserved
loop-member-preserved c =
    let word = c.loop-member.bits in
    let bit = 1 * 2 ^ c.bit_of.result % 2 ^ 64 in
    let set = subst (λ k. bit_at (bit_or word bit) k ≡ 1) c.bit_of.ensures.bit
    (bit_at_set_same w64 word c.bit_of.result c.bit_of.ensures.below) in
    all_seen_more member_view c.args.members.now
    (λ (m : Member). bit_at (bit_or word bit) (bit_of m.name) ≡ 1) c.loop-member.member-index
    c.member-item.result c.loop-member-test.true c.member-item.is
    (λ i d h. bit_kept word bit (bit_of (get_or (take c.loop-member.member-index (map member_view c.args.members.now)) i d).name) (c.loop-member.invariant i d h)) set

pub returns : goal.returns
returns c =
    holds_names (map member_view c.args.members.now) _
    (all_seen member_view c.args.members.now
    (λ (m : Member). bit_at c.loop-member.bits (bit_of m.name) ≡ 1)
    (map member_view c.args.members.now) c.loop-member.member-index refl c.loop-member-test.false
    c.loop-member.invariant)
