use Rattle.facet_solver_types.proofs.ReadBack.{reads_back}
use Rattle.facet_solver_types.proofs.laws.printed_texts_are_read_back.Goals as goal

pub returns : goal.returns
returns c = reads_back
