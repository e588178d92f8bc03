-- What a record is to its users: a game.
use Rattle.std.specs.Prelude.{ℕ, List, Option}
use Rattle.shogi_board.specs.Placed.{Placed}
use Rattle.shogi_board.specs.declared.moves.Move.{Move}
use Rattle.csa_text.specs.declared.ending.Ending.{Ending}
use Rattle.csa_text.specs.Moment.{CalendarMoment}

-- a move, and its time in thousandths of a second, if it has one
pub record Timed : Type 0 where
  pub move : Move
  pub time : Option ℕ

-- an ending, and its time
pub record Ended : Type 0 where
  pub ending : Ending
  pub time : Option ℕ

-- the value of a header: a moment, or any other text
pub data HeaderText : Type 0 where
  moment : CalendarMoment → HeaderText
  plain : List ℕ → HeaderText

-- a header
pub record Entry : Type 0 where
  pub key : List ℕ
  pub text : HeaderText

-- two names, headers in the order of their keys, a start with its side to move, the moves from it,
-- and an ending
pub record Game : Type 0 where
  pub black : Option (List ℕ)
  pub white : Option (List ℕ)
  pub headers : List Entry
  pub start : Placed
  pub moves : List Timed
  pub ending : Option Ended

abbrev pub move_of : Timed → Move
move_of t = t.move
