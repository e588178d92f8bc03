-- The words that the commands print.
use Rattle.std.specs.Prelude.{◌≡◌, ◌⊎◌, ℕ, List, [], ◌∷◌, ◌++◌, Option, None, Some, codes}
use Rattle.session_commands.specs.declared.bridging.Peer.{Peer}
use Rattle.session_commands.specs.declared.bridging.Peer.TheVariants.{Engine, Server}
use Rattle.shogi_session.specs.declared.summary_fault.SummaryFault.{SummaryFault}
use Rattle.shogi_session.specs.declared.summary_fault.SummaryFault.TheVariants.{OpenBlock, LongName, NoTurn, NoPosition, SeveralPositions, BadPosition}

-- the line about an answer of the engine that is no legal move
abbrev pub slip_line : List ℕ → List ℕ
slip_line line =
    codes "slip: " ++ (line ++ (codes " is no legal move of this game" ++ 10 ∷ []))

-- what is said about a line of this peer that is too long
abbrev pub long_line : Peer → List ℕ
long_line Engine = codes "B7: the engine wrote a line of more than 65536 bytes"
long_line Server = codes "B7: the server sent a line of more than 65536 bytes"

-- what is said about this peer if its end failed the session
abbrev pub gone_line : Peer → List ℕ
gone_line Engine = codes "B5: the engine ended"
gone_line Server = codes "B6: the connection to the server ended"

-- what is said about a summary that offers no game
abbrev pub summary_words : SummaryFault → List ℕ
summary_words OpenBlock = codes "a block has no END line"
summary_words LongName = codes "a name has more than 4094 bytes"
summary_words NoTurn = codes "Your_Turn is neither + nor -"
summary_words NoPosition = codes "there is no position block"
summary_words SeveralPositions = codes "there are several position blocks"
summary_words BadPosition = codes "the position block is no position with legal moves"

-- the line about a line that ended such a summary, with the cause
abbrev pub bad_summary_line : Option SummaryFault → List ℕ → List ℕ
bad_summary_line None line = codes "B3: the server sent " ++ (line ++ 10 ∷ [])
bad_summary_line (Some cause) line = codes "B3: the server sent "
    ++ (line ++ (codes ": " ++ (summary_words cause ++ 10 ∷ [])))

-- there is no line, or it gives a reason for this name
abbrev pub IsReasonLine : List ℕ → List ℕ → Type 0
IsReasonLine name text = (text ≡ [])
    ⊎ ((words : List ℕ) × (text ≡ 32 ∷ 32 ∷ (name ++ (codes ": " ++ (words ++ 10 ∷ [])))))
