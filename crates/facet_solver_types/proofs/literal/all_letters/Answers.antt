use Rattle.std.proofs.Common.{rules}
use Rattle.std.proofs.lemmas.Str.{chars_from_encodes}
use Rattle.facet_solver_types.proofs.literal.all_letters.Goals as goal

pub returns : goal.returns
returns c = search (rules, chars_from_encodes)
