use Rattle.std.proofs.Common.{◌∙◌, ap, nat_eq, sym}
use Rattle.std.proofs.lemmas.Nat.Bits.{bit_at_ones, shr_and_one}
use Rattle.std.specs.Int.{bit_at}
use Rattle.facet_solver_reader.specs.NameFilters.{bit_of}
use Rattle.facet_solver_reader.proofs.NameFilters.{bit_of_below}
use Rattle.facet_solver_reader.proofs.count.name_filter.NameFilter.may_have.Goals as goal

pub returns-then-self : goal.returns-then-self
returns-then-self c =
    let bit = bit_of c.args.name.now in
    sym (ap (λ word. nat_eq (bit_at word bit) 1) c.if-self.true
    ∙ ap (λ b. nat_eq b 1) (bit_at_ones 64 bit (bit_of_below c.args.name.now)))

pub returns : goal.returns
returns c =
    let word = c.args.self.now.bits in
    ap (λ b. nat_eq b 1)
    (shr_and_one word c.bit_of.result ∙ ap (bit_at word) c.bit_of.ensures.bit)
