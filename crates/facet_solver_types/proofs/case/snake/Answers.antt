use Rattle.facet_solver_types.proofs.Ascii.{first_ascii, behind_ascii}
use Rattle.facet_solver_types.proofs.Pieces.{piece_more}
use Rattle.facet_solver_types.specs.Cases.{small_apart}
use Rattle.facet_solver_types.proofs.case.snake.Goals as goal

pub push_ascii-requires : goal.push_ascii-requires
push_ascii-requires c =
    first_ascii c.args.name.now _ _ _ _ c.as_bytes.ensures.value c.in-Some.ensures.cases.0 c.requires
    c.to_ascii_lowercase.ensures.value

pub push_small_apart-requires : goal.push_small_apart-requires
push_small_apart-requires c =
    behind_ascii c.args.name.now _ _ _ _ c.as_bytes.ensures.value c.in-Some.ensures.cases.0 c.requires

pub loop-letter-preserved : goal.loop-letter-preserved
loop-letter-preserved c = record {
  ascii = c.in_ok-push_small_apart.ensures.ascii c.loop-letter.invariant.ascii;
  apart = piece_more small_apart c.in-Some.rest.now c.loop-letter.letter-index 0 _ _ _
      c.loop-letter-test.true c.loop-letter.invariant.apart c.in_ok-push_small_apart.ensures.value;
}
