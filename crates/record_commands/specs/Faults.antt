-- The fault of a command for each fault of its parts.
use Rattle.std.specs.Prelude.{◌≡◌}
use Rattle.csa_record.specs.declared.flow.FlowFault.{FlowFault}
use Rattle.csa_record.specs.declared.flow.FlowFault.TheVariants as flow
use Rattle.usi_text.specs.declared.fault.UsiFault.{UsiFault}
use Rattle.usi_text.specs.declared.fault.UsiFault.TheVariants as usi
use Rattle.record_commands.specs.declared.fault.PositionLineFault.{PositionLineFault}
use Rattle.record_commands.specs.declared.fault.PositionLineFault.TheVariants as line
use Rattle.record_commands.specs.declared.fault.ReadFault.{ReadFault}
use Rattle.record_commands.specs.declared.fault.ReadFault.TheVariants.{Failed, OutOfMemory}

-- for a command that reads a record
abbrev pub flow_fault_of : ReadFault → FlowFault
flow_fault_of Failed = flow.ReadFault
flow_fault_of OutOfMemory = flow.OutOfMemory

-- for the one that reads a position line
abbrev pub line_fault_of : ReadFault → PositionLineFault
line_fault_of Failed = line.Read
line_fault_of OutOfMemory = line.OutOfMemory

-- a failed allocation does not refuse the line
abbrev pub IsLineFaultOf : UsiFault → PositionLineFault → Type 0
IsLineFaultOf usi.OutOfMemory fault = fault ≡ line.OutOfMemory
IsLineFaultOf usi.BadLine fault = fault ≡ line.Refused usi.BadLine
IsLineFaultOf (usi.Sfen f) fault = fault ≡ line.Refused (usi.Sfen f)
IsLineFaultOf (usi.BadMoveText n) fault = fault ≡ line.Refused (usi.BadMoveText n)
IsLineFaultOf (usi.Broken n rule) fault = fault ≡ line.Refused (usi.Broken n rule)
IsLineFaultOf usi.TooManyMoves fault = fault ≡ line.Refused usi.TooManyMoves
