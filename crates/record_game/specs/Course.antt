-- A start, the moves from it with their times, and an ending.
use Rattle.std.specs.Prelude.{◌≡◌, ℕ, nat_le, not, is_some, Bool, false, List, [], ◌∷◌, length, map, slice_index_or, Option, Some, None, if◌then◌else◌}
use Rattle.shogi_board.specs.declared.color.Color.{Color}
use Rattle.shogi_board.specs.Placed.{Placed}
use Rattle.shogi_rules.specs.declared.line.PlayFault.{PlayFault}
use Rattle.shogi_board.specs.declared.moves.Move.{Move}
use Rattle.shogi_rules.specs.Play as plays
use Rattle.shogi_board.specs.Setup.{first_fault}
use Rattle.shogi_rules.specs.Positions as rules
use Rattle.shogi_rules.specs.Positions.{max_moves}
use Rattle.csa_text.specs.declared.ending.Ending.{Ending}
use Rattle.record_game.specs.declared.fault.OrderFault.{OrderFault}
use Rattle.record_game.specs.declared.fault.OrderFault.TheVariants.{AfterEnding, LooseTime, TooManyMoves}
use Rattle.record_game.specs.declared.fault.Why.{Why}
use Rattle.record_game.specs.declared.fault.Why.TheVariants.{Order}
use Rattle.record_game.specs.Game.{Timed, Ended, move_of}
use Rattle.record_game.specs.Refused.{IsJudged}

pub record Course : Type 0 where
  pub start : Placed
  pub moves : List Timed
  pub ending : Option Ended

-- the line of the moves
abbrev pub course_line : Course → rules.Played
course_line c = record { start = c.start; moves = map move_of c.moves }

-- a move without a time
abbrev pub untimed : Move → Timed
untimed m = record { move = m; time = None }

-- after an ending no move is played; 10,000 moves are the most
abbrev pub play_fault : Course → Option OrderFault
play_fault c =
    first_fault
    ((AfterEnding, is_some c.ending) ∷ (TooManyMoves, nat_le max_moves (length c.moves)) ∷ [])

abbrev pub PlayAnswersAfter : Option OrderFault → Course → Color → Move → Option Why → Type 0
PlayAnswersAfter (Some fault) c color m answer = answer ≡ Some (Order fault)
PlayAnswersAfter None c color m answer =
    (played : Option PlayFault) × plays.Answers (course_line c) color m played
    × IsJudged played answer

-- why a move is refused, or None
abbrev pub PlayAnswers : Course → Color → Move → Option Why → Type 0
PlayAnswers c = PlayAnswersAfter (play_fault c) c

-- there is at most one ending
abbrev pub close_fault : Course → Option Why
close_fault c = if is_some c.ending then Some (Order AfterEnding) else None

-- the last move has no time yet
abbrev pub awaits : List Timed → Bool
awaits [] = false
awaits (t ∷ []) = not (is_some t.time)
awaits (t ∷ u ∷ ts) = awaits (u ∷ ts)

abbrev pub awaits_after_it : List Timed → Option Ended → Bool
awaits_after_it moves None = awaits moves
awaits_after_it moves (Some e) = not (is_some e.time)

-- the ending, or else the last move, may be given a time
abbrev pub awaits_time : Course → Bool
awaits_time c = awaits_after_it c.moves c.ending

abbrev pub time_fault : Course → Option Why
time_fault c = if awaits_time c then None else Some (Order LooseTime)

-- the moves with this time for the last one
abbrev pub with_last_time : List Timed → ℕ → List Timed
with_last_time [] time = []
with_last_time (t ∷ []) time = record { move = t.move; time = Some time } ∷ []
with_last_time (t ∷ u ∷ ts) time = t ∷ with_last_time (u ∷ ts) time

abbrev pub with_time_after : Option Ended → Course → ℕ → Course
with_time_after None c time = record c { moves = with_last_time c.moves time }
with_time_after (Some e) c time =
    record c { ending = Some (record { ending = e.ending; time = Some time }) }

-- the course with this time for the ending, or else for the last move
abbrev pub with_time : Course → ℕ → Course
with_time c = with_time_after c.ending c

-- the course with this ending, which has no time yet
abbrev pub with_ending : Course → Ending → Course
with_ending c e = record c { ending = Some (record { ending = e; time = None }) }

abbrev pub time_of : Timed → Option ℕ
time_of t = t.time

-- the time of this move, counted from 0, if there is such a move and it has a time
abbrev pub time_at : List Timed → ℕ → Option ℕ
time_at moves n = slice_index_or (map time_of moves) n None

-- how it ends, if it does
abbrev pub ending_of : Option Ended → Option Ending
ending_of None = None
ending_of (Some e) = Some e.ending

-- the time of the ending, if it has one
abbrev pub ending_time_of : Option Ended → Option ℕ
ending_time_of None = None
ending_time_of (Some e) = e.time
