-- What is kept of a session, to say at its end how it ended, and the words that say it.
use Rattle.std.specs.Prelude.{◌≡◌, ◌≢◌, ◌⊎◌, ◌++◌, ◌||◌, ⊤, ℕ, true, false, List, [], ◌∷◌, Option, None, Some, Result, Ok, Err, codes, if◌then◌else◌, map, nat_lt, take}
use Rattle.bridge_table.specs.declared.fault.SessionFault.{SessionFault}
use Rattle.bridge_table.specs.declared.fault.SessionFault.TheVariants.{LoginRefused, Rejected, BadSummary, BadServerMove, EngineGone, ServerGone, LineTooLong}
use Rattle.bridge_table.specs.declared.fault.MoveCause.{MoveCause}
use Rattle.bridge_table.specs.declared.fault.MoveCause.TheVariants.{Refused, Unsent}
use Rattle.record_game.specs.declared.fault.Why.{Why}
use Rattle.record_game.specs.declared.fault.Why.TheVariants as why
use Rattle.session_commands.specs.declared.bridging.Peer.{Peer}
use Rattle.bridge_table.specs.declared.event.Status.{Status}
use Rattle.bridge_table.specs.declared.event.Status.TheVariants.{Failed}
use Rattle.bridge_table.specs.declared.state.ClientState.{ClientState}
use Rattle.bridge_table.specs.declared.state.ClientState.TheVariants as client
use Rattle.csa_cutting.specs.Cut.{begins_with}
use Rattle.session_commands.specs.declared.bridging.Peer.TheVariants.{Engine, Server}
use Rattle.session_commands.specs.declared.ending.LineRefusal.{LineRefusal}
use Rattle.session_commands.specs.declared.ending.Snapshot.{Snapshot}
use Rattle.session_commands.specs.declared.ending.EndEvent.{EndEvent}
use Rattle.session_commands.specs.declared.ending.EndEvent.TheVariants.{Slip, Ending, Reason, Result as Outcome, Refused as RefusedBy}
use Rattle.session_setup.specs.declared.fault.MatchFault.{MatchFault}
use Rattle.session_setup.specs.declared.fault.MatchFault.TheVariants as match_fault
use Rattle.session_commands.specs.FaultWords.{match_words, session_words, why_words}
use Rattle.session_commands.specs.Words.{bad_summary_line, gone_line, long_line, slip_line}
use Rattle.shogi_session.specs.declared.summary_fault.SummaryFault.{SummaryFault}
use Rattle.session_lines.specs.Texts.{without_last_spaces}

-- a byte as a log quotes it: `?` if it is no printable ASCII
abbrev pub quoted_byte : ℕ → ℕ
quoted_byte byte = if nat_lt byte 32 || nat_lt 126 byte then 63 else byte

-- a line as a log quotes it, without spaces at its end
abbrev pub quoted : List ℕ → List ℕ
quoted line = map quoted_byte (take 256 (without_last_spaces line))

-- the slip, the first reason and the last result, the line of the server that failed the session
-- and why, and the peer whose line was too long, if there are any
pub record Ended : Type 0 where
  pub slip : Option (List ℕ)
  pub reason : Option (List ℕ)
  pub outcome : Option (List ℕ)
  pub refused : Option (List ℕ × LineRefusal)
  pub long : Option Peer

-- the game is in play, or its result alone is still to come
abbrev pub IsBeforeResult : ClientState → Type 0
IsBeforeResult state =
    ((state ≡ client.Playing) ⊎ (state ≡ client.Sent)) ⊎ (state ≡ client.Reason)

-- a line that begins with `%` ended a game that was in play
abbrev pub IsEnding : ClientState → ClientState → List ℕ → Type 0
IsEnding before after line = ((before ≡ client.Playing) ⊎ (before ≡ client.Sent))
    × (after ≡ client.Reason) × (begins_with 37 line ≡ true)

-- a line that begins with `#` came before the result, and is none
abbrev pub IsReason : ClientState → ClientState → List ℕ → Type 0
IsReason before after line =
    IsBeforeResult before × (after ≡ client.Reason) × (begins_with 35 line ≡ true)

-- a line that begins with `#` is the result
abbrev pub IsResult : ClientState → ClientState → List ℕ → Type 0
IsResult before after line =
    IsBeforeResult before × (after ≡ client.Closing) × (begins_with 35 line ≡ true)

-- what a line of the server says of the end of a game, if it led a client from one state to another
pub data SaysInGame (before after : ClientState) (line : List ℕ) : EndEvent → Type 0 where
  says_ending : IsEnding before after line → SaysInGame before after line Ending
  says_reason : IsReason before after line → SaysInGame before after line Reason
  says_result : IsResult before after line → SaysInGame before after line Outcome

-- what a line from a peer says of the end, if it led a bridge from one snapshot to another and to
-- this status
pub data SaysOfEnd (before after : Snapshot) (line : List ℕ)
    : Peer → Status → EndEvent → Type 0 where
  says_slip : (status : Status) → after.slip ≡ true → before.slip ≡ false
      → SaysOfEnd before after line Engine status Slip
  says_fault : (fault : SessionFault)
      → SaysOfEnd before after line Server (Failed fault)
      (RefusedBy (record { fault = fault; summary = after.summary }))
  says_in_game : (status : Status) (event : EndEvent)
      → ((fault : SessionFault) → status ≢ Failed fault)
      → SaysInGame before.client after.client line event
      → SaysOfEnd before after line Server status event

-- nothing was said of the end
abbrev pub nothing_said : Ended
nothing_said = record { slip = None; reason = None; outcome = None; refused = None; long = None }

-- the first of two lines, or else the second
abbrev pub first_of : Option (List ℕ) → List ℕ → List ℕ
first_of None line = line
first_of (Some first) line = first

-- what is kept once a quoted line says this
abbrev pub kept_with : EndEvent → List ℕ → Ended → Ended
kept_with Slip line ended = record ended { slip = Some line }
kept_with Ending line ended = ended
kept_with Reason line ended = record ended { reason = Some (first_of ended.reason line) }
kept_with Outcome line ended = record ended { outcome = Some line }
kept_with (RefusedBy refusal) line ended = record ended { refused = Some (line, refusal) }

-- what is kept after a line from a peer, if it led a bridge from one snapshot to another and to
-- this status
pub data IsKeptAfter (before after : Snapshot) (line : List ℕ) (peer : Peer) (status : Status)
    (old : Ended) : Ended → Type 0 where
  says_event : (event : EndEvent) → SaysOfEnd before after line peer status event
      → IsKeptAfter before after line peer status old (kept_with event (quoted line) old)
  says_nothing : ((event : EndEvent) → SaysOfEnd before after line peer status event → ⊥)
      → IsKeptAfter before after line peer status old old

-- what is kept once a line of this peer is too long
abbrev pub with_long : Peer → Ended → Ended
with_long peer ended = record ended { long = Some peer }

abbrev pub slip_lines : Option (List ℕ) → List ℕ
slip_lines None = []
slip_lines (Some line) = slip_line line

-- the line of a result, after its reason if there is one
abbrev pub result_line : Option (List ℕ) → List ℕ → List ℕ
result_line None line = codes "result: " ++ (line ++ 10 ∷ [])
result_line (Some reason) line =
    codes "result: " ++ (line ++ (codes " after " ++ (reason ++ 10 ∷ [])))

abbrev pub result_lines : Option (List ℕ) → Option (List ℕ) → List ℕ
result_lines reason None = []
result_lines reason (Some line) = result_line reason line

-- what is said of a move that is refused for this cause, before the words of the cause
abbrev pub refusal_verb : Why → List ℕ
refusal_verb (why.Rule rule) = codes " breaks "
refusal_verb (why.Text fault) = codes " is refused: "
refusal_verb (why.Order fault) = codes " is refused: "
refusal_verb (why.Start fault) = codes " is refused: "
refusal_verb why.OutOfMemory = codes " is refused: "
refusal_verb why.Failed = codes " is refused: "

-- why a move of the server is refused, and LF: the rule that it breaks, or else the fault
abbrev pub cause_text : MoveCause → List ℕ
cause_text (Refused why) = refusal_verb why ++ (why_words why ++ 10 ∷ [])
cause_text Unsent = codes " is a move of the engine's side that it did not send" ++ 10 ∷ []

-- the line about a line of the server that failed the session, perhaps by its summary; the last
-- three faults come from no line of the server
abbrev pub refused_line : SessionFault → Option SummaryFault → List ℕ → List ℕ
refused_line LoginRefused cause line = codes "B1: the server sent " ++ (line ++ 10 ∷ [])
refused_line Rejected cause line = codes "B2: the server sent " ++ (line ++ 10 ∷ [])
refused_line BadSummary cause line = bad_summary_line cause line
refused_line (BadServerMove move_cause) cause line =
    codes "B4: " ++ (line ++ cause_text move_cause)
refused_line EngineGone cause line = session_words EngineGone ++ 10 ∷ []
refused_line ServerGone cause line = session_words ServerGone ++ 10 ∷ []
refused_line LineTooLong cause line = session_words LineTooLong ++ 10 ∷ []

-- the peer whose end is this fault
abbrev pub gone_peer : MatchFault → Option Peer
gone_peer (match_fault.Session EngineGone) = Some Engine
gone_peer (match_fault.Session ServerGone) = Some Server
gone_peer (match_fault.Session LoginRefused) = None
gone_peer (match_fault.Session Rejected) = None
gone_peer (match_fault.Session BadSummary) = None
gone_peer (match_fault.Session (BadServerMove cause)) = None
gone_peer (match_fault.Session LineTooLong) = None
gone_peer match_fault.Endless = None
gone_peer match_fault.Write = None
gone_peer match_fault.OutOfMemory = None

-- the line about a fault that no line of a peer shows, and about the peer whose end it is, if any
abbrev pub fault_line : Option Peer → MatchFault → List ℕ
fault_line (Some gone) fault = gone_line gone ++ 10 ∷ []
fault_line None fault = match_words fault ++ 10 ∷ []

-- the last line of a log: about the server's line that was refused, about the peer whose line was
-- too long, or else about the fault; after a session that ended well there is none
abbrev pub last_line : Option (List ℕ × LineRefusal) → Option Peer → Result ⊤ MatchFault → List ℕ
last_line (Some refused) long played =
    refused_line refused.1.fault refused.1.summary refused.0
last_line None (Some peer) played = long_line peer ++ 10 ∷ []
last_line None None (Err fault) = fault_line (gone_peer fault) fault
last_line None None (Ok done) = []

-- the lines that say how a session ended. No word of them is free: each is fixed, or quoted from a
-- line that a peer sent
abbrev pub end_text : Ended → Result ⊤ MatchFault → List ℕ
end_text ended played = slip_lines ended.slip
    ++ (result_lines ended.reason ended.outcome ++ last_line ended.refused ended.long played)
