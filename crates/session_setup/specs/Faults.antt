-- The faults of a talk and of a game, by their causes.
use Rattle.std.specs.Prelude.{◌≡◌, ◌⊎◌}
use Rattle.csa_cutting.specs.declared.line.LineFault.{LineFault}
use Rattle.csa_cutting.specs.declared.line.LineFault.TheVariants as line
use Rattle.record_commands.specs.declared.fault.ReadFault.{ReadFault}
use Rattle.record_commands.specs.declared.fault.ReadFault.TheVariants as read
use Rattle.session_setup.specs.declared.fault.MatchFault.{MatchFault}
use Rattle.session_setup.specs.declared.fault.MatchFault.TheVariants as game
use Rattle.session_setup.specs.declared.fault.TalkFault.{TalkFault}
use Rattle.session_setup.specs.declared.fault.TalkFault.TheVariants as talk

-- for a read
abbrev pub talk_fault_of : ReadFault → TalkFault
talk_fault_of read.Failed = talk.Read
talk_fault_of read.OutOfMemory = talk.OutOfMemory

-- for a line
abbrev pub cut_fault_of : LineFault → TalkFault
cut_fault_of line.TooLong = talk.LineTooLong
cut_fault_of line.OutOfMemory = talk.OutOfMemory

-- something could not be read, or an allocation failed
abbrev pub IsReadFault : TalkFault → Type 0
IsReadFault fault = (fault ≡ talk.Read) ⊎ (fault ≡ talk.OutOfMemory)

-- a file could not be written, or an allocation failed
abbrev pub IsFileFault : MatchFault → Type 0
IsFileFault fault = (fault ≡ game.Write) ⊎ (fault ≡ game.OutOfMemory)
