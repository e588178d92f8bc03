-- What is shown of the moves of a running game.
use Rattle.std.specs.Prelude.{◌≡◌, ◌⊎◌, ◌++◌, ◌∷◌, [], codes, ⊤, ℕ, Bool, true, false, List, Option, None, Some, Result, Ok, Err}
use Rattle.std.specs.Str.Pattern.{FindsText, SplitsAroundMatch}
use Rattle.session_commands.specs.Comments.{without_comment}
use Rattle.session_commands.specs.Endings.{Ended, gone_peer, quoted, refused_line}
use Rattle.session_commands.specs.Plays.{by_peer}
use Rattle.session_commands.specs.Words.{gone_line, slip_line}
use Rattle.session_commands.specs.declared.bridging.Peer.{Peer}
use Rattle.session_commands.specs.declared.ending.EndEvent.{EndEvent}
use Rattle.session_commands.specs.declared.ending.EndEvent.TheVariants.{Slip, Ending, Reason, Result as Outcome, Refused as RefusedBy}
use Rattle.session_setup.specs.declared.fault.MatchFault.{MatchFault}
use Rattle.shogi_session.specs.GameSoFar.{HasMoves, game_of}
use Rattle.shogi_session.specs.State.{Client}

-- the last line of each peer as it is quoted, if one came
pub record LastLines : Type 0 where
  pub engine : Option (List ℕ)
  pub server : Option (List ℕ)

-- the last lines, once this one came from that peer
abbrev pub with_last : Peer → List ℕ → LastLines → LastLines
with_last peer line last = record {
  engine = by_peer peer (Some line) last.engine;
  server = by_peer peer last.server (Some line);
}

-- whether moves are shown, the number of the last one that was, if any, what was said of the end,
-- and the last line of each peer
pub record Showing : Type 0 where
  pub is_on : Bool
  pub moves : Option ℕ
  pub ended : Ended
  pub last : LastLines

-- the number of moves of the client's game, or 0 if there is no game
abbrev pub IsCountOf : Client → ℕ → Type 0
IsCountOf client n = HasMoves client n ⊎ ((game_of client ≡ None) × (n ≡ 0))

-- the peer whose end is shown, if moves are: the one that left and so ended the session
abbrev pub ended_peer : Bool → Result ⊤ MatchFault → Option Peer
ended_peer false played = None
ended_peer true (Ok done) = None
ended_peer true (Err fault) = gone_peer fault

-- what is shown of the peer that ended, with its last line if one came
abbrev pub ended_line : Peer → Option (List ℕ) → List ℕ
ended_line peer None = gone_line peer ++ 10 ∷ []
ended_line peer (Some line) = gone_line peer ++ (codes " after " ++ (line ++ 10 ∷ []))

-- what is shown of an ending: its seconds after a space, or the line alone if it has none
pub data IsShownEnding (line text : List ℕ) : Type 0 where
  with_seconds : (ending seconds : List ℕ)
      → SplitsAroundMatch (FindsText (codes ",T")) line ending seconds
      → text ≡ ending ++ (codes " " ++ (seconds ++ 10 ∷ [])) → IsShownEnding line text
  without : FindsText (codes ",T") line None → text ≡ line ++ 10 ∷ [] → IsShownEnding line text

-- what is shown of a line that says this of the end: of an ending, a reason and a result the line
-- without its comment
abbrev pub IsShownEnd : EndEvent → List ℕ → List ℕ → Type 0
IsShownEnd Slip line text = text ≡ slip_line (quoted line)
IsShownEnd (RefusedBy refusal) line text =
    text ≡ refused_line refusal.fault refusal.summary (quoted line)
IsShownEnd Ending line text = IsShownEnding (quoted (without_comment line)) text
IsShownEnd Reason line text = text ≡ quoted (without_comment line) ++ 10 ∷ []
IsShownEnd Outcome line text = text ≡ quoted (without_comment line) ++ 10 ∷ []
