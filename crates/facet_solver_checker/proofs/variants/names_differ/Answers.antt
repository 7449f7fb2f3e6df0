use Rattle.std.proofs.Common.{◌≡◌, Some, length, refl, slice_get}
use Rattle.std.proofs.lemmas.Option.{slice_get_read}
use Rattle.facet_solver_checker.proofs.variants.names_differ.Goals as goal

pub returns : goal.returns
returns c = λ h.
    let names = c.args.names.now in
    let one = c.in-Some.one.now in
    let other = c.in-Some-get.other.now in
    let look = c.in-Some.ensures.lookup in
    let look_other = c.in-Some-get.ensures.lookup in
    record {
      first = one;
      second = other;
      first_is = slice_get_read names (length names) c.args.first one refl look.3.0 look.1;
      second_is =
          slice_get_read names (length names) c.args.second other refl look_other.3.0 look_other.1;
      differ = c.are_two.ensures h;
    }
