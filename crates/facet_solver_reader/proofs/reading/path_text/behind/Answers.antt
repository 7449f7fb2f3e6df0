use Rattle.std.proofs.lemmas.Slice.Eq.{strip_prefix_is}
use Rattle.std.proofs.lemmas.Bool.Decides.{Decides-eqb}
use Rattle.facet_solver_reader.proofs.PathTexts.{behind_is}
use Rattle.facet_solver_reader.proofs.reading.path_text.behind.Goals as goal

pub returns : goal.returns
returns c =
    let front = c.as_bytes.result.now in
    let text = c.args.text.now in
    let found = strip_prefix_is Decides-eqb text front c.strip_prefix.result c.strip_prefix.ensures.cases in
    rw c.as_bytes.ensures.value at (behind_is front text c.strip_prefix.result found)
