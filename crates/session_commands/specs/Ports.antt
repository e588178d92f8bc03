-- For private functions: the line with which a server says its port.
use Rattle.std.specs.Prelude.{◌≡◌, ◌++◌, ℕ, List, Option, codes, decimal}
use Rattle.bridge_table.specs.declared.fault.SessionFault.TheVariants.{ServerGone}
use Rattle.record_commands.specs.Incoming.{Coming, GivesLine, GivesLongLine}
use Rattle.session_commands.specs.Endings.{quoted}
use Rattle.session_commands.specs.Plays.{ComesEnd, ComesLine}
use Rattle.session_setup.specs.Ports.{IsPort}
use Rattle.session_setup.specs.declared.fault.MatchFault.{MatchFault}
use Rattle.session_setup.specs.declared.fault.MatchFault.TheVariants.{OutOfMemory, Session as SessionFailed}
use Rattle.session_commands.specs.declared.port_line.FirstLine.{FirstLine}
use Rattle.session_commands.specs.declared.port_line.FirstLine.TheVariants.{Port, Other, Long, Missing}

-- `listening `, and then a port in decimal
abbrev pub port_line : ℕ → List ℕ
port_line port = codes "listening " ++ decimal port

abbrev pub IsPortLine : List ℕ → ℕ → Type 0
IsPortLine line port = (line ≡ port_line port) × IsPort port

-- what the first line of an output says; another line is then the last one of the output
abbrev pub SaysFirst : Coming → Coming → FirstLine → Type 0
SaysFirst old new (Port port) =
    (line : List ℕ) × GivesLine old.bytes new.bytes line × IsPortLine line port
SaysFirst old new Other =
    ComesLine old new new.line × ((port : ℕ) → IsPortLine new.line port → ⊥)
SaysFirst old new Long = GivesLongLine old.bytes new.bytes
SaysFirst old new Missing = ComesEnd old new

-- the first line of a server's output says this port
abbrev pub SaysPort : Coming → ℕ → Type 0
SaysPort output port =
    (rest : Option (List ℕ)) × (line : List ℕ)
    × GivesLine output.bytes rest line × IsPortLine line port

-- the reason why there is no port: the first line, which is another
abbrev pub other_line_text : List ℕ → List ℕ
other_line_text line = codes "the server's first line is no port line: " ++ quoted line

-- a text was kept as the reason why there is no game
abbrev pub Explains : Type 0 → Type 1
Explains P = P → List ℕ → P → Type 0

-- an output says no port, and this was kept as the reason: its first line is another, or too long,
-- or it ended or cannot be read; or there was not enough memory; with the fault that is reported
pub data SaysNoPort {P : Type 0} (explained : Explains P) (output rest : Coming) (p q : P)
    : MatchFault → Type 0 where
  other_line : ComesLine output rest rest.line → ((port : ℕ) → IsPortLine rest.line port → ⊥)
      → explained p (other_line_text rest.line) q
      → SaysNoPort explained output rest p q (SessionFailed ServerGone)
  long_line : GivesLongLine output.bytes rest.bytes
      → explained p (codes "the server's first line has more than 65536 bytes") q
      → SaysNoPort explained output rest p q (SessionFailed ServerGone)
  no_line : ComesEnd output rest
      → explained p (codes "the server ended before it printed its port") q
      → SaysNoPort explained output rest p q (SessionFailed ServerGone)
  no_memory : q ≡ p → SaysNoPort explained output rest p q OutOfMemory
