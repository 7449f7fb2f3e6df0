use Rattle.std.proofs.Common.{IfOk, sym, subst}
use Rattle.std.specs.Str.{IsCharBoundary}
use Rattle.facet_solver_types.specs.Spellings.{IsCut}
use Rattle.facet_solver_types.proofs.Cuts.{gap_cut, token_cut}
use Rattle.facet_solver_types.proofs.tokens.part.first_part.Goals as goal

pub returns-in_ok-first_token-clause-cut : goal.returns-in_ok-first_token-clause-cut
returns-in_ok-first_token-clause-cut c utf8 =
    subst (λ r. IfOk r (IsCut c.args.text.now)) (sym c.in_ok-first_token.ensures.value) (token_cut c.args.text.now utf8 c.requires)

pub returns-else-gap-eq0-clause-cut : goal.returns-else-gap-eq0-clause-cut
returns-else-gap-eq0-clause-cut c utf8 =
    subst (λ r. IfOk r (IsCharBoundary c.args.text.now)) (sym c.in_ok-gap.ensures.value) (gap_cut c.args.text.now utf8)
