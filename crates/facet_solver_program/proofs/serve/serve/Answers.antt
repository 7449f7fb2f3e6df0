use Rattle.std.proofs.Common.{subst, sym}
use Rattle.facet_solver_program.specs.Reply.{text}
use Rattle.facet_solver_program.specs.Serve.{IsReply}
use Rattle.facet_solver_program.proofs.Replies.{is_reply}
use Rattle.facet_solver_program.proofs.serve.serve.Goals as goal

pub returns : goal.returns
returns g c =
    λ written.
    let replied = c.write_reply.ensures written in
    let reply = c.reply_to-reply.result in
    let input = g.R.Read.remaining c.args.input.now in
    let is = is_reply (λ bytes. bytes.items) input c.read_all-bytes.result reply
    c.read_all-bytes.ensures c.reply_to-reply.ensures.answer c.reply_to-reply.ensures.error in
    (text reply, subst (λ s. IsReply input s (text reply)) (sym replied.0) is, replied.1)
