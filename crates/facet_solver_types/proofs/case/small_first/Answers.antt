use Rattle.facet_solver_types.proofs.Ascii.{first_ascii, behind_ascii}
use Rattle.facet_solver_types.proofs.case.small_first.Goals as goal

pub push_ascii-requires : goal.push_ascii-requires
push_ascii-requires c =
    first_ascii c.args.name.now _ _ _ _ c.as_bytes.ensures.value c.in-Some.ensures.cases.0 c.requires
    c.to_ascii_lowercase.ensures.value

pub push_ascii-requires-in-loop-letter : goal.push_ascii-requires-in-loop-letter
push_ascii-requires-in-loop-letter c =
    behind_ascii c.args.name.now _ _ _ _ c.as_bytes.ensures.value c.in-Some.ensures.cases.0 c.requires
