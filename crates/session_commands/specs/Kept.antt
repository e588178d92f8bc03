-- For private functions: what becomes of the record of a game.
use Rattle.std.specs.Prelude.{◌≡◌, ◌≢◌, ◌⊎◌, ⊤, ℕ, Bool, true, false, List, length, None, Some, Result, Ok, Err}
use Rattle.record_game.specs.Canon.{canon}
use Rattle.record_game.specs.Game.{Game}
use Rattle.bridge_table.specs.declared.state.ClientState.TheVariants.{Agreeing}
use Rattle.session_setup.specs.Faults.{IsFileFault}
use Rattle.session_setup.specs.declared.fault.MatchFault.{MatchFault}
use Rattle.session_setup.specs.declared.fault.MatchFault.TheVariants.{OutOfMemory}
use Rattle.shogi_session.specs.GameSoFar.{game_of}
use Rattle.shogi_session.specs.State.{Client, client_state}

-- a place took a text for what was begun there
abbrev pub TakesText : Type 0 → Type 0 → Type 1
TakesText P D = P → D → List ℕ → P → Type 0

-- a place refused a text, with this fault
abbrev pub RefusesText : Type 0 → Type 0 → Type 1
RefusesText P D = P → D → List ℕ → MatchFault → P → Type 0

-- what was begun in a place was undone
abbrev pub Drops : Type 0 → Type 0 → Type 1
Drops P D = P → D → P → Type 0

-- the fault of the session, or else the number of moves
abbrev pub report_of : Result ⊤ MatchFault → ℕ → Result ℕ MatchFault
report_of (Ok done) moves = Ok moves
report_of (Err fault) moves = Err fault

-- a game is kept if the server began it, or if no file is there whose place its record takes
abbrev pub IsKept : Client → Bool → Type 0
IsKept client replaced = (client_state client ≢ Agreeing) ⊎ (replaced ≡ false)

-- what becomes of a place where a record was begun, and what is reported: without a game, or if it
-- never began and a file is there, what was begun is undone; else the text of the game is put there
-- whether the session ended well or not; if that is refused, it is reported in place of the
-- session's fault
pub data KeepsRecord {P D : Type 0} (took : TakesText P D) (refused : RefusesText P D)
    (dropped : Drops P D) (replaced : D → Bool) (draft : D) (client : Client)
    (played : Result ⊤ MatchFault) (p q : P) : Result ℕ MatchFault → Type 0 where
  no_game : game_of client ≡ None → dropped p draft q
      → KeepsRecord took refused dropped replaced draft client played p q (report_of played 0)
  not_begun : client_state client ≡ Agreeing → replaced draft ≡ true → dropped p draft q
      → KeepsRecord took refused dropped replaced draft client played p q (report_of played 0)
  taken : (g : Game) → game_of client ≡ Some g → IsKept client (replaced draft)
      → took p draft (canon g) q
      → KeepsRecord took refused dropped replaced draft client played p q
      (report_of played (length g.moves))
  not_taken : (g : Game) (fault : MatchFault) → game_of client ≡ Some g
      → IsKept client (replaced draft) → refused p draft (canon g) fault q → IsFileFault fault
      → KeepsRecord took refused dropped replaced draft client played p q (Err fault)
  -- an allocation failed for the text
  no_text : dropped p draft q
      → KeepsRecord took refused dropped replaced draft client played p q (Err OutOfMemory)
