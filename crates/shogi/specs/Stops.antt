-- What the program reports if it ends early.
use Rattle.std.specs.Prelude.{◌++◌, ℕ, List, Option, None, Some, codes, nat_lt, if◌then◌else◌}
use Rattle.csa_record.specs.declared.flow.FlowFault.{FlowFault}
use Rattle.csa_record.specs.declared.flow.FlowFault.TheVariants as record_fault
use Rattle.record_commands.specs.declared.fault.PositionLineFault.{PositionLineFault}
use Rattle.record_commands.specs.declared.fault.PositionLineFault.TheVariants as line_fault
use Rattle.archive_commands.specs.Many.{tally_line}
use Rattle.session_setup.specs.Plans.{plan_text}
use Rattle.session_setup.specs.declared.fault.LoginFault.TheVariants as login_fault
use Rattle.session_setup.specs.declared.fault.MatchFault.TheVariants as match_fault
use Rattle.session_setup.specs.declared.fault.PlayCommandFault.{PlayCommandFault}
use Rattle.session_setup.specs.declared.fault.PlayCommandFault.TheVariants as play_fault
use Rattle.session_setup.specs.declared.fault.ServeFault.{ServeFault}
use Rattle.session_setup.specs.declared.fault.ServeFault.TheVariants as serve_fault
use Rattle.session_setup.specs.declared.fault.TalkFault.{TalkFault}
use Rattle.session_setup.specs.declared.fault.TalkFault.TheVariants as talk_fault
use Rattle.shogi.specs.declared.stop.Stop.{Stop}
use Rattle.shogi.specs.declared.stop.Stop.TheVariants.{WordsNotText, UnknownCommand, Plan, BadName, BadPassword, Refused, NotAll, LineRefused, LineTooLong, Read, Write, ClientGone, ClientLineTooLong, Session, OutOfMemory}

-- the status that the program ends with
abbrev pub status_of : Stop → ℕ
status_of WordsNotText = 2
status_of UnknownCommand = 2
status_of (Plan fault) = 2
status_of BadName = 2
status_of BadPassword = 2
status_of (Refused refusal) = 1
status_of (NotAll tally) = if nat_lt 0 tally.unreadable then 3 else 1
status_of (LineRefused fault) = 1
status_of LineTooLong = 1
status_of Read = 3
status_of Write = 3
status_of ClientGone = 4
status_of ClientLineTooLong = 4
status_of (Session fault) = 4
status_of OutOfMemory = 5

-- the line, if it is one fixed text; that of a refusal or of a session ends with the words of its
-- fault
abbrev pub stop_line : Stop → Option (List ℕ)
stop_line WordsNotText = Some (codes "error: a word of the command line is not UTF-8")
stop_line UnknownCommand = Some (codes "error: there is no such command")
stop_line (Plan fault) = Some (codes "error: " ++ plan_text fault)
stop_line BadName = Some (codes "error: the name must be 1 to 32 bytes from 0x21 to 0x7E")
stop_line BadPassword = Some (codes "error: the password must be 1 to 32 bytes from 0x21 to 0x7E")
stop_line (Refused refusal) = None
stop_line (NotAll tally) = Some (tally_line tally)
stop_line (LineRefused fault) = None
stop_line LineTooLong = Some (codes "refused: line too long")
stop_line Read = Some (codes "read fault")
stop_line Write = Some (codes "write fault")
stop_line ClientGone = Some (codes "fault: client gone")
stop_line ClientLineTooLong = Some (codes "fault: B7 LineTooLong")
stop_line (Session fault) = None
stop_line OutOfMemory = Some (codes "out of memory")

-- of check, digest, normal and usi
abbrev pub stop_of_record : FlowFault → Stop
stop_of_record (record_fault.Refused refusal) = Refused refusal
stop_of_record record_fault.ReadFault = Read
stop_of_record record_fault.WriteFault = Write
stop_of_record record_fault.OutOfMemory = OutOfMemory

-- of csa
abbrev pub stop_of_line : PositionLineFault → Stop
stop_of_line (line_fault.Refused why) = LineRefused why
stop_of_line line_fault.TooLong = LineTooLong
stop_of_line line_fault.Read = Read
stop_of_line line_fault.Write = Write
stop_of_line line_fault.OutOfMemory = OutOfMemory

-- of engine
abbrev pub stop_of_talk : TalkFault → Stop
stop_of_talk talk_fault.LineTooLong = LineTooLong
stop_of_talk talk_fault.Read = Read
stop_of_talk talk_fault.Write = Write
stop_of_talk talk_fault.OutOfMemory = OutOfMemory

-- of serve
abbrev pub stop_of_serve : ServeFault → Stop
stop_of_serve serve_fault.ClientGone = ClientGone
stop_of_serve (serve_fault.Talk talk_fault.LineTooLong) = ClientLineTooLong
stop_of_serve (serve_fault.Talk talk_fault.Read) = Read
stop_of_serve (serve_fault.Talk talk_fault.Write) = Write
stop_of_serve (serve_fault.Talk talk_fault.OutOfMemory) = OutOfMemory

-- of play
abbrev pub stop_of_play : PlayCommandFault → Stop
stop_of_play (play_fault.Plan why) = Plan why
stop_of_play (play_fault.Login login_fault.BadName) = BadName
stop_of_play (play_fault.Login login_fault.BadPassword) = BadPassword
stop_of_play (play_fault.Login login_fault.Read) = Read
stop_of_play (play_fault.Login login_fault.OutOfMemory) = OutOfMemory
stop_of_play (play_fault.Match (match_fault.Session why)) = Session why
stop_of_play (play_fault.Match match_fault.Endless) = Read
stop_of_play (play_fault.Match match_fault.Write) = Write
stop_of_play (play_fault.Match match_fault.OutOfMemory) = OutOfMemory
