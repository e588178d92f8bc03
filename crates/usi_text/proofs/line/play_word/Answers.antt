use Rattle.std.proofs.Common.{rules, ◌∙◌, ap, subst, List, length, ◌+◌}
use Rattle.shogi_board.specs.Placed.{Placed}
use Rattle.shogi_board.specs.declared.moves.Move.{Move}
use Rattle.usi_text.specs.Moves.{UsiMove}
use Rattle.usi_text.proofs.Played.{word_stated}
use Rattle.usi_text.proofs.line.play_word.Goals as goal

pub returns : goal.returns
returns c =
    let now = c.now-now.ensures.value in
    let spelt = subst (λ (p : Placed). UsiMove p c.args.word.now c.in_ok-mv.mv) now (search rules) in
    word_stated c.args.line.now c.play.new.self c.args.word.now c.in_ok-mv.mv c.side.result (length c.moves.result.now + 1) c.play.result c.map_err.result _
    (ap (λ (ms : List Move). length ms + 1) c.moves.ensures.value) spelt (c.side.ensures.value ∙ ap (λ (p : Placed). p.side) now)
    c.play.ensures.answer c.play.ensures.played c.map_err.ensures.cases (λ e f p. search rules)

pub returns-in_err-mv : goal.returns-in_err-mv
returns-in_err-mv c = search rules
