use Rattle.std.proofs.Common.{◌≡◌, ◌-◌, ◌++◌, List, replicate}
use Rattle.shogi_board.specs.declared.kind.Piece.{Piece}
use Rattle.usi_text.proofs.Setups.{hold_pieces}
use Rattle.usi_text.proofs.setting.add_pieces.Given as goal

abbrev pub invariant-loop : goal.invariant-loop
invariant-loop l =
    (others : List Piece) → hold_pieces l.fn.setup (replicate l.count l.piece ++ others) ≡ hold_pieces l.setup (replicate (l.count - l.counter) l.piece ++ others)
