-- What an engine has answered over some wire.
use Rattle.std.proofs.Common.{Result, Ok, Err, IfErr, OnOk}
use Rattle.session_commands.specs.Talks.{BreaksOff, Calls, HasAnswered, MachineRow, Passes}
use Rattle.session_commands.specs.declared.talk.MachineState.{MachineState}
use Rattle.session_setup.specs.declared.fault.TalkFault.{TalkFault}

pub answered_over : {W M T E : Type 0} (came : Passes W) (ends : Calls W) (went : Passes W) (answers : MachineRow M) (wire last : W) (machine : M) (result : Result T E)
    → OnOk result ((state : MachineState) × (engine : M) × HasAnswered came ends went answers wire machine state last engine)
    → OnOk result ((before after : W) × (state : MachineState) × (engine : M) × HasAnswered came ends went answers before machine state after engine)
answered_over came ends went answers wire last machine (Ok x) (state, engine, has) = (wire, last, state, engine, has)
answered_over came ends went answers wire last machine (Err e) has = tt

pub broken_over : {W M T : Type 0} (came : Passes W) (ends : Calls W) (went : Passes W) (silent : Calls W) (blocked : Passes W) (answers : MachineRow M) (wire last : W) (machine : M) (result : Result T TalkFault)
    → IfErr result (λ fault. BreaksOff came ends went silent blocked answers wire machine fault last)
    → IfErr result (λ fault. (before after : W) × BreaksOff came ends went silent blocked answers before machine fault after)
broken_over came ends went silent blocked answers wire last machine (Ok x) breaks = tt
broken_over came ends went silent blocked answers wire last machine (Err fault) breaks = (wire, last, breaks)
