use Rattle.std.proofs.Common.{length, not, sym, ap, ◌∙◌, arith}
use Rattle.std.proofs.lemmas.List.Sums.{prefix_len_is}
use Rattle.session_commands.specs.Comments.{is_quote}
use Rattle.session_commands.proofs.progress.comment_start.Goals as goal

pub returns-then-is_quote-clause-value : goal.returns-then-is_quote-clause-value
returns-then-is_quote-clause-value c =
    sym (prefix_len_is (λ b. not (is_quote b)) c.args.line.now c.loop-i.i 0 (omega arith) (λ k h. ap not (c.loop-i.invariant k h)) (λ _. ap not (sym c.is_quote.ensures ∙ c.if-is_quote.true)))

pub returns-clause-value : goal.returns-clause-value
returns-clause-value c =
    sym (prefix_len_is (λ b. not (is_quote b)) c.args.line.now (length c.args.line.now) 0 (omega arith) (λ k h. ap not (c.loop-i.invariant k (omega arith))) (λ h. absurd (omega arith)))
