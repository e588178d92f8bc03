use Rattle.std.proofs.Common.{◌≡◌, List, [], ◌∷◌, Some, length, slice_get, refl}
use Rattle.shogi_board.specs.Placed.{Placed}
use Rattle.shogi_board.specs.After.{after}
use Rattle.shogi_rules.specs.Positions.{position_after, positions_of}
use Rattle.shogi_board.specs.declared.moves.Move.{Move}
use Rattle.shogi_rules.proofs.Games.{positions-long}
use Rattle.shogi_rules.proofs.laws.now_stands_last.Goals as goal

last-of : (p : Placed) (ms : List Move) → slice_get (positions_of p ms) (length ms) ≡ Some (position_after p ms)
last-of p [] = refl
last-of p (m ∷ ms) = last-of (after p m) ms

pub returns : goal.returns
returns c = record { last = λ line. last-of line.start line.moves; all = λ line. positions-long line.start line.moves }
