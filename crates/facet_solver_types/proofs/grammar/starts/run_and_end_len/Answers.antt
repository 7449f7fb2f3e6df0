use Rattle.std.proofs.Common.{◌≡◌, ◌+◌, drop, ap, ◌∙◌}
use Rattle.facet_solver_types.specs.Runs.{run_len}
use Rattle.facet_solver_types.specs.Starts.{end_len_of, run_and_end_len, run_of}
use Rattle.facet_solver_types.specs.Tokens.{tokens_view}
use Rattle.facet_solver_types.proofs.Views.{rest_view}
use Rattle.facet_solver_types.proofs.grammar.starts.run_and_end_len.Goals as goal

pub returns-clause-value : goal.returns-clause-value
unfolding run_and_end_len
returns-clause-value c =
    let ts = tokens_view c.args.tokens.now in
    let start = c.args.start in
    let len : c.run_len-len.result ≡ run_len (run_of start) ts = c.run_len-len.ensures.value ∙ ap (λ r. run_len r ts) c.run_of.ensures in
    let end : c.end_len_of.result ≡ end_len_of start (drop c.run_len-len.result ts) = c.end_len_of.ensures.value ∙ ap (end_len_of start) (rest_view c.args.tokens.now c.run_len-len.result) in
    ap (λ n. c.run_len-len.result + n) end ∙ ap (λ n. n + end_len_of start (drop n ts)) len
