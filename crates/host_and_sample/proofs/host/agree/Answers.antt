use Rattle.std.proofs.Common.{refl}
use Rattle.host_and_sample.proofs.HostLines.{if_ok}
use Rattle.host_and_sample.proofs.HostRows.{agreed, rejected, silent, unnamed_offer}
use Rattle.host_and_sample.proofs.host.agree.Goals as goal

pub returns-then-is_word_and_one : goal.returns-then-is_word_and_one
returns-then-is_word_and_one c = λ seconds.
    if_ok c.begin.result _ _ c.begin.ensures (λ r h. agreed _ _ _ seconds _ _ (c.is_word_and_one.ensures.0 c.if-is_word_and_one.true) h)

pub returns-then-is_word_and_one-2 : goal.returns-then-is_word_and_one-2
returns-then-is_word_and_one-2 c = λ seconds.
    if_ok c.reject.result _ _ c.reject.ensures
    (λ r h. rejected _ _ _ seconds _ _ (c.is_word_and_one-else-is_word_and_one.ensures.0 c.if-is_word_and_one-2.true) h.0 (rw c.as_slice.ensures.value at h.1))

pub returns-else-is_word_and_one-2 : goal.returns-else-is_word_and_one-2
returns-else-is_word_and_one-2 c = λ seconds.
    silent _ _ _ _ seconds _
    (unnamed_offer _ _ _ seconds c.requires.stays
    (λ h. let t = c.is_word_and_one.ensures.1 h in let f = c.if-is_word_and_one.false in cc)
    (λ h. let t = c.is_word_and_one-else-is_word_and_one.ensures.1 h in let f = c.if-is_word_and_one-2.false in cc))
    refl c.new.ensures.value
