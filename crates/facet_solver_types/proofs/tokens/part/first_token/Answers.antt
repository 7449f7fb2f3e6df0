use Rattle.facet_solver_types.proofs.Words.{digit_continues}
use Rattle.facet_solver_types.proofs.tokens.part.first_token.Goals as goal

pub number-requires : goal.number-requires
number-requires c = digit_continues c.args.text.now (cc)
