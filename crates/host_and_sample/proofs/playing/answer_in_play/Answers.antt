use Rattle.std.proofs.Common.{sym, ◌∙◌, refl}
use Rattle.host_and_sample.proofs.HostLines.{if_ok}
use Rattle.host_and_sample.proofs.HostRows.{resigned, declared, silent, unnamed_playing}
use Rattle.host_and_sample.proofs.playing.answer_in_play.Goals as goal

pub returns-then-is_same : goal.returns-then-is_same
returns-then-is_same c =
    if_ok c.decide.result _ _ c.decide.ensures (λ r h. resigned _ _ _ _ _ _ (c.is_same.ensures.answer.0 c.if-is_same.true) h.0 h.1)

pub returns-then-is_same-2 : goal.returns-then-is_same-2
returns-then-is_same-2 c =
    if_ok c.decide-then-is_same-2.result _ _ c.decide-then-is_same-2.ensures
    (λ r h. declared _ _ _ _ _ _ (c.is_same-else-is_same.ensures.answer.0 c.if-is_same-2.true) h.0 h.1)

pub returns-else-is_same-2 : goal.returns-else-is_same-2
returns-else-is_same-2 c =
    silent _ _ _ _ _ _
    (unnamed_playing _ _ _ _ c.requires.stays (sym c.is_move_line.ensures.answer ∙ c.if-is_move_line.false)
    (λ h. let t = c.is_same.ensures.answer.1 h in let f = c.if-is_same.false in cc)
    (λ h. let t = c.is_same-else-is_same.ensures.answer.1 h in let f = c.if-is_same-2.false in cc))
    refl c.new.ensures.value
