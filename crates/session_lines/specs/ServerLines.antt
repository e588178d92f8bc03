-- What a line of a CSA server means, outside the game summary.
use Rattle.session_lines.specs.declared.server_words.GameResult.{GameResult}
use Rattle.session_lines.specs.declared.server_words.GameResult.TheVariants.{Win, Lose, Draw, Censored, Chudan}
use Rattle.session_lines.specs.declared.server_words.EndReason.{EndReason}
use Rattle.session_lines.specs.declared.server_words.EndReason.TheVariants as end_reason
use Rattle.std.specs.Prelude.{◌≡◌, ℕ, ◌<◌, ◌≤◌, ◌&&◌, nat_eq, Bool, List, [], ◌∷◌, length, Option, Some, None, unwrap_or, bytes_eq, if◌then◌else◌}
use Rattle.std.specs.List.{AllZip, starts_with, ends_with}
use Rattle.shogi_board.specs.declared.color.Color.{Color}
use Rattle.shogi_board.specs.declared.moves.Move.{Move}
use Rattle.csa_cutting.specs.Cut.{TextUnit, IsCut, statement_bytes, begins_with, longest_statement}
use Rattle.csa_text.specs.Saying.{Saying, walked, time}
use Rattle.csa_text.specs.Spelling.{Spells, fault_of_row}
use Rattle.csa_text.specs.declared.fault.TextFault.{TextFault}
use Rattle.csa_text.specs.declared.fault.TextFault.TheVariants.{StatementTooLong, Unknown}
use Rattle.record_game.specs.Game.{Timed, Ended}
use Rattle.record_game.specs.Says.{time_items, ending_items}
use Rattle.record_game.specs.Tells.{IsSpelt}
use Rattle.session_lines.specs.LineTexts as texts

-- its first byte is `%`, or `#`
abbrev pub is_ending_line : List ℕ → Bool
is_ending_line line = begins_with 37 line

abbrev pub is_hash_line : List ℕ → Bool
is_hash_line line = begins_with 35 line

-- `LOGIN:` .. ` OK`, `START:` .., `REJECT:` ..
abbrev pub is_login_ok : List ℕ → Bool
is_login_ok line = starts_with nat_eq line texts.login_answer && ends_with nat_eq line texts.ok

abbrev pub is_start_line : List ℕ → Bool
is_start_line line = starts_with nat_eq line texts.start

abbrev pub is_reject_line : List ℕ → Bool
is_reject_line line = starts_with nat_eq line texts.rejected

-- 1. Moves and endings
-- the line is cut into statements, and they spell these items
abbrev pub IsLineOf : List ℕ → List Saying → Type 0
IsLineOf line sayings = (units : List TextUnit) × IsCut line units × AllZip IsSpelt units sayings

-- a move of that side, optionally a time
abbrev pub TellsTimed : List ℕ → Color → Timed → Type 0
TellsTimed line color m = IsLineOf line (walked color m.move ∷ time_items m.time)

-- an ending, optionally a time
abbrev pub TellsEnding : List ℕ → Ended → Type 0
TellsEnding line e = IsLineOf line (ending_items (Some e))

-- 2. The first text fault of a line that begins with `+` or `-`
abbrev pub IsMove : Saying → Type 0
IsMove s = (color : Color) × (m : Move) × (s ≡ walked color m)

abbrev pub IsTime : Saying → Type 0
IsTime s = (t : ℕ) × (s ≡ time t)

-- the statement is too long, spells nothing, or spells another item than the one expected there
pub data UnitFault (Wanted : Saying → Type 0) (u : TextUnit) (fault : TextFault) : Type 0 where
  too_long : longest_statement < length u.bytes
      → fault ≡ StatementTooLong → UnitFault Wanted u fault
  unread :
      length u.bytes ≤ longest_statement → ((s : Saying) → Spells (statement_bytes u.bytes) s → ⊥)
      → fault ≡ fault_of_row (statement_bytes u.bytes)
      → UnitFault Wanted u fault
  another : (s : Saying) → IsSpelt u s → (Wanted s → ⊥) → fault ≡ Unknown → UnitFault Wanted u fault

-- a statement after the move and the time
pub data ExtraFault (u : TextUnit) (fault : TextFault) : Type 0 where
  too_long : longest_statement < length u.bytes → fault ≡ StatementTooLong → ExtraFault u fault
  extra : length u.bytes ≤ longest_statement → fault ≡ Unknown → ExtraFault u fault

-- the first text fault: of the first statement, where a move is expected; of the second, where a
-- time is; or of the third
pub data FirstTextFault (line : List ℕ) (fault : TextFault) : Type 0 where
  no_move : (u : TextUnit) (rest : List TextUnit)
      → IsCut line (u ∷ rest) → UnitFault IsMove u fault
      → FirstTextFault line fault
  no_time : (u v : TextUnit) (rest : List TextUnit) (color : Color) (m : Move)
      → IsCut line (u ∷ v ∷ rest) → IsSpelt u (walked color m) → UnitFault IsTime v fault
      → FirstTextFault line fault
  more : (u v w : TextUnit) (rest : List TextUnit) (color : Color) (m : Move) (t : ℕ)
      → IsCut line (u ∷ v ∷ w ∷ rest)
      → IsSpelt u (walked color m) → IsSpelt v (time t) → ExtraFault w fault
      → FirstTextFault line fault

-- 3. Results and reasons
-- the value in the row with this text
abbrev pub look_up : {X : Type 0} → List (List ℕ × X) → List ℕ → Option X
look_up [] text = None
look_up (row ∷ rows) text = if bytes_eq text row.0 then Some row.1 else look_up rows text

abbrev pub outcomes : List (List ℕ × GameResult)
outcomes =
    (texts.win, Win)
    ∷ (texts.lose, Lose)
    ∷ (texts.draw, Draw)
    ∷ (texts.censored, Censored)
    ∷ (texts.chudan, Chudan)
    ∷ []

abbrev pub reasons : List (List ℕ × EndReason)
reasons =
    (texts.resign, end_reason.Resign)
    ∷ (texts.time_up, end_reason.TimeUp)
    ∷ (texts.illegal_move, end_reason.IllegalMove)
    ∷ (texts.sennichite, end_reason.Sennichite)
    ∷ (texts.oute_sennichite, end_reason.OuteSennichite)
    ∷ (texts.jishogi, end_reason.Jishogi)
    ∷ (texts.max_moves, end_reason.MaxMoves)
    ∷ []

-- the result that a line gives
abbrev pub outcome_of : List ℕ → Option GameResult
outcome_of line = look_up outcomes line

-- the reason that a line gives: one of the table, or another
abbrev pub reason_of : List ℕ → EndReason
reason_of line = unwrap_or (look_up reasons line) end_reason.Other
