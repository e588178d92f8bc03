use Rattle.std.proofs.Common.{◌≡◌, arith, ap, sym, ◌∙◌, ◌++◌, ◌∷◌, [], length, get_or}
use Rattle.std.proofs.lemmas.List.{take_more, length-take-le}
use Rattle.csa_text.proofs.MoveBytes.{move_ascii, move_length}
use Rattle.csa_text.proofs.moved.csa_move.Goals as goal

pub push_ascii-requires : goal.push_ascii-requires
push_ascii-requires c =
    let bytes = c.move_bytes-byte-items.result in
    let i = c.loop-byte.byte-index in
    let few = c.loop-byte-test.true in
    let long = ap length c.move_bytes-byte-items.ensures.bytes ∙ move_length c.args.color c.args.m.now in
    let used : length c.loop-byte.text.bytes ≡ i = ap length c.loop-byte.invariant ∙ length-take-le i bytes (omega (arith, few, long)) in
    record {
      room = omega (arith, few, used);
      ascii = move_ascii bytes c.args.color c.args.m.now i c.move_bytes-byte-items.ensures.bytes few;
    }

pub loop-byte-preserved : goal.loop-byte-preserved
loop-byte-preserved c =
    let bytes = c.move_bytes-byte-items.result in
    let i = c.loop-byte.byte-index in
    let long = ap length c.move_bytes-byte-items.ensures.bytes ∙ move_length c.args.color c.args.m.now in
    c.push_ascii.ensures ∙ (ap (λ text. text ++ get_or bytes i 0 ∷ []) c.loop-byte.invariant
    ∙ sym (take_more bytes i 0 (omega (arith, c.loop-byte-test.true, long))))
