use Rattle.std.proofs.Common.{get_or}
use Rattle.std.proofs.lemmas.Option.{slice_get-get_or}
use Rattle.facet_solver_checker.proofs.Gathering.{no_name}
use Rattle.facet_solver_checker.proofs.branches.some_member_apart.Goals as goal

pub returns-then-none : goal.returns-then-none
returns-then-none c = λ m is e.
    let names = c.args.names.now in
    let i = c.loop-name.name-index in (
      get_or names i no_name,
      (i, slice_get-get_or names i no_name c.loop-name-test.true),
      c.member_apart-none.ensures m is c.if-none.true,
    )
