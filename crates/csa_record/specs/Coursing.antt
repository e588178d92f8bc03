-- For private functions and fields of `Course`: a course, put together from a line, the times of
-- its moves, and an ending.
-- A reader of the public contracts may skip this file.
use Rattle.std.specs.Prelude.{◌≡◌, ℕ, not, is_some, Bool, false, List, [], ◌∷◌, length, Option, Some, None}
use Rattle.shogi_board.specs.declared.color.Color.{Color}
use Rattle.shogi_rules.specs.Play.{Answers}
use Rattle.shogi_rules.specs.declared.line.PlayFault.{PlayFault}
use Rattle.shogi_board.specs.declared.moves.Move.{Move}
use Rattle.shogi_rules.specs.Positions.{Played}
use Rattle.csa_record.specs.declared.course.Ended as stored
use Rattle.record_game.specs.declared.fault.Why.{Why}
use Rattle.record_game.specs.declared.fault.Why.TheVariants.{OutOfMemory}
use Rattle.record_game.specs.Course.{Course}
use Rattle.record_game.specs.Validity.{IsCourse}
use Rattle.record_game.specs.Game.{Timed, Ended}
use Rattle.record_game.specs.PlayFaults.{why_of}

-- each move with its time
abbrev pub timed : List Move → List (Option ℕ) → List Timed
timed [] ts = []
timed (m ∷ ms) [] = []
timed (m ∷ ms) (t ∷ ts) = record { move = m; time = t } ∷ timed ms ts

abbrev pub ended : Option stored.Ended → Option Ended
ended None = None
ended (Some e) = Some (record { ending = e.ending; time = e.time })

abbrev pub course_of : Played → List (Option ℕ) → Option stored.Ended → Course
course_of line times ending =
    record { start = line.start; moves = timed line.moves times; ending = ended ending }

-- a time for each move, and they make a course
pub record IsKept (line : Played) (times : List (Option ℕ))
    (ending : Option stored.Ended) : Type 0 where
  pub long : length times ≡ length line.moves
  pub course : IsCourse (course_of line times ending)

-- the last time is missing
abbrev pub lacks_last : List (Option ℕ) → Bool
lacks_last [] = false
lacks_last (t ∷ []) = not (is_some t)
lacks_last (t ∷ u ∷ ts) = lacks_last (u ∷ ts)

-- the times with this one as the last
abbrev pub with_last : List (Option ℕ) → ℕ → List (Option ℕ)
with_last [] time = []
with_last (t ∷ []) time = Some time ∷ []
with_last (t ∷ u ∷ ts) time = t ∷ with_last (u ∷ ts) time

-- a refused move has its fault, or else memory is lacking
abbrev pub tried_why : Option PlayFault → Why
tried_why None = OutOfMemory
tried_why (Some fault) = why_of fault

-- the move is not played, and why
abbrev pub NotPlayed : Played → Color → Move → Why → Type 0
NotPlayed line color m why = (tried : Option PlayFault) × Answers line color m tried
    × (why ≡ tried_why tried)
