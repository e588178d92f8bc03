use Rattle.std.proofs.Common.{arith, ◌∙◌, ap, ◌++◌}
use Rattle.shogi_board.specs.declared.color.Color.TheVariants.{Black, White}
use Rattle.usi_text.specs.SfenText.{hand_piles}
use Rattle.usi_text.proofs.Written.{hands_dash, hands_stated, stated}
use Rattle.usi_text.proofs.writing.push_hands.Goals as goal

pub returns-in_ok-push : goal.returns-in_ok-push
returns-in_ok-push c =
    let white = hand_piles White c.hand-2.result in
    let r = hands_dash c.args.text.now.items c.push_hand-2.new.text.items c.push.new.self.items (hand_piles Black c.hand.result) white
    (c.in_ok-push_hand-2.ensures ∙ ap (λ x. x ++ stated white) c.in_ok-push_hand.ensures)
    (omega (arith, c.push_hand-2.new.text.ok.0, c.args.text.now.ok.0))
    c.in_ok-push.ensures.items in
    rw (c.hand.ensures.value, c.hand-2.ensures.value) at r

pub returns-else-len-before : goal.returns-else-len-before
returns-else-len-before c =
    let white = hand_piles White c.hand-2.result in
    let r = hands_stated c.args.text.now.items c.push_hand-2.new.text.items (hand_piles Black c.hand.result) white
    (c.in_ok-push_hand-2.ensures ∙ ap (λ x. x ++ stated white) c.in_ok-push_hand.ensures)
    (omega (arith, c.push_hand-2.new.text.ok.0, c.args.text.now.ok.0)) in
    rw (c.hand.ensures.value, c.hand-2.ensures.value) at r
