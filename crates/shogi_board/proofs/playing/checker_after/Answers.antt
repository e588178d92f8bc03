use Rattle.std.proofs.Common.{None, ap, sym, ◌∙◌, subst}
use Rattle.shogi_board.specs.Pieces.{opponent}
use Rattle.shogi_board.specs.Reach.{Attack}
use Rattle.shogi_board.specs.declared.color.Color.{Color}
use Rattle.shogi_board.proofs.Opened.{moved-there, next-checker, other-free, other-reached, other-towards, unreached}
use Rattle.shogi_board.proofs.playing.checker_after.Goals as goal

pub returns-then-piece_reaches : goal.returns-then-piece_reaches
returns-then-piece_reaches c =
    (c.in-Some.king, rw c.side-side.ensures.value at c.in-Some.ensures.answer, other-reached c.requires.0 c.args.next.now c.args.mv.now c.in-Some.king c.target-to.result c.requires.1 c.requires.2 c.target-to.ensures.value (c.piece_reaches.ensures.0 c.if-piece_reaches.true))

pub attacker_towards-requires : goal.attacker_towards-requires
attacker_towards-requires c = λ a attack.
    let next = c.args.next.now in
    let m = c.args.mv.now in
    let free = unreached next m c.in-Some.king c.target-to.result c.piece_reaches.result c.target-to.ensures.value c.if-piece_reaches.false c.piece_reaches.ensures in
    let here : Attack next.material.board next.side a c.in-Some.king = subst (λ (x : Color). Attack next.material.board x a c.in-Some.king) c.side-side.ensures.value attack in
    other-towards c.requires.0 next m c.in-Some-source.from c.in-Some.king c.requires.1 c.requires.2 (rw c.side-side.ensures.value at c.in-Some.ensures.answer) free (sym c.source.ensures ∙ c.in-Some-source.is) a here

pub returns-in-Some-source : goal.returns-in-Some-source
returns-in-Some-source c =
    next-checker c.args.next.now c.in-Some.king c.attacker_towards.result c.side-side.ensures.sound (rw c.side-side.ensures.value at c.in-Some.ensures.answer) (rw c.side-side.ensures.value at c.attacker_towards.ensures)

pub returns-in-None : goal.returns-in-None
returns-in-None c =
    let next = c.args.next.now in
    let m = c.args.mv.now in
    let there = rw c.side-side.ensures.value at c.in-Some.ensures.answer in
    let free = unreached next m c.in-Some.king c.target-to.result c.piece_reaches.result c.target-to.ensures.value c.if-piece_reaches.false c.piece_reaches.ensures in
    next-checker next c.in-Some.king None c.side-side.ensures.sound there (other-free c.requires.0 next m c.in-Some.king c.requires.1 c.requires.2 there free (sym c.source.ensures ∙ c.in-None.is))

pub piece_reaches-requires : goal.piece_reaches-requires
piece_reaches-requires c =
    rw (c.target-to.ensures.value, c.kind.ensures.value) (moved-there c.requires.0 c.args.next.now c.args.mv.now c.not.result c.requires.1 c.requires.2 (c.not.ensures ∙ ap opponent c.side-side.ensures.value))
