use Rattle.std.proofs.Common.{◌∙◌, ◌++◌, sym, ap}
use Rattle.std.specs.List.{flat_map}
use Rattle.shogi_board.specs.declared.color.Color.TheVariants.{Black, White}
use Rattle.record_game.specs.Canon.{ended_line, hand_items}
use Rattle.csa_record.proofs.StartText.{start_written}
use Rattle.csa_record.proofs.start_writer.write_start.Goals as goal

pub returns : goal.returns
returns c =
    start_written c.args.start.now c.args.out.now.items c.write_ranks.new.out.items c.write_hand.new.out.items c.write_hand-2.new.out.items
    (sym c.is_from_even.ensures ∙ c.if-is_from_even.false)
    c.in_ok-write_ranks.ensures
    (c.in_ok-write_hand.ensures ∙ ap (λ h. c.write_ranks.new.out.items ++ flat_map ended_line (hand_items Black h)) c.hand-black.ensures.value)
    (c.in_ok-write_hand-2.ensures ∙ ap (λ h. c.write_hand.new.out.items ++ flat_map ended_line (hand_items White h)) c.hand-white.ensures.value)
