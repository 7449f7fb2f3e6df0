use Rattle.std.proofs.Common.{refl}
use Rattle.std.proofs.lemmas.Result.{IfOk-weaker}
use Rattle.facet_solver_tool.specs.ReadAnswers.{is_read, is_unread}
use Rattle.facet_solver_tool.proofs.read.read_document.Goals as goal

pub returns-in_ok-text_of-in-Ok : goal.returns-in_ok-text_of-in-Ok
returns-in_ok-text_of-in-Ok c = is_read c.in-Ok.reading c.in-Ok.ensures.ok refl

pub returns-in-Err : goal.returns-in-Err
returns-in-Err c =
    IfOk-weaker c.unread.result _ _ (λ a status. is_unread c.in-Err.error c.in-Err.ensures.error status) c.unread.ensures
