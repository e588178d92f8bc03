use Rattle.std.proofs.Common.{ap, arith, codes, length, lit≤}
use Rattle.usi_text.specs.Words.{words}
use Rattle.usi_text.proofs.Heads.{head_is, sfen_missing, sfen_line}
use Rattle.usi_text.proofs.Piles.{is_so}
use Rattle.usi_text.proofs.line.split_line.Goals as goal

pub returns-in_err-next_word : goal.returns-in_err-next_word
returns-in_err-next_word c =
    let one = c.take_word in
    let two = c.take_word-2 in
    let ws = words c.args.text.now in
    let rest = words two.result.1.now in
    let position = is_so c.same.result c.same.ensures c.if-not-same.false in
    let sfen = is_so c.same-3.result c.same-3.ensures c.if-not-same-2.false in
    let e = head_is ws (words one.result.1.now) rest one.result.0.now two.result.0.now (codes "position") (codes "sfen") one.ensures.word one.ensures.rest two.ensures.word two.ensures.rest position sfen (lit≤ tt) (lit≤ tt) in
    rw c.from_residual-in_err-next_word.ensures (sfen_missing ws rest (words c.split_moves.result.0.now) (words c.split_moves.result.1.now) e c.split_moves.ensures (c.in_err-next_word.ensures {u = tt}).word)

pub returns : goal.returns
returns c =
    let one = c.take_word in
    let two = c.take_word-2 in
    let ws = words c.args.text.now in
    let rest = words two.result.1.now in
    let position = is_so c.same.result c.same.ensures c.if-not-same.false in
    let sfen = is_so c.same-3.result c.same-3.ensures c.if-not-same-2.false in
    let e = head_is ws (words one.result.1.now) rest one.result.0.now two.result.0.now (codes "position") (codes "sfen") one.ensures.word one.ensures.rest two.ensures.word two.ensures.rest position sfen (lit≤ tt) (lit≤ tt) in
    let some = ap length (c.in_ok-next_word.ensures {u = tt}).word in
    sfen_line ws rest (words c.split_moves.result.0.now) (words c.split_moves.result.1.now) e c.split_moves.ensures (omega (arith, some))
