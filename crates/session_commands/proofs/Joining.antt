-- An engine that is joined to a server that said its port.
use Rattle.std.proofs.Common.{ℕ, Result, Ok, Err, IfErr, IfOk}
use Rattle.record_commands.specs.Incoming.{Coming}
use Rattle.session_commands.specs.Launching.{Connects, ConnectsNot, IsApart, IsPortless, StartsNot, local_address, not_joined}
use Rattle.session_commands.specs.Ports.{Explains, SaysPort}
use Rattle.session_setup.specs.declared.fault.MatchFault.{MatchFault}
use Rattle.shogi_words.specs.declared.play.Plan.{Plan}

pub portless : {T P W : Type 0} (explained : Explains P) (connects : Connects P W) (connects_not : ConnectsNot P) (thinks_not : StartsNot P) (plan : Plan) (output rest : Coming) (p q : P) (port : ℕ) (r : Result T MatchFault)
    → SaysPort output port → IfErr r (IsApart connects connects_not thinks_not plan (local_address port) p q)
    → IfErr r (IsPortless explained connects connects_not thinks_not plan output rest p q)
portless explained connects connects_not thinks_not plan output rest p q port (Ok both) says apart = tt
portless explained connects connects_not thinks_not plan output rest p q port (Err fault) says apart = not_joined port fault says apart

pub if_ok : {T E : Type 0} (r : Result T E) (P Q : T → Type 0) → IfOk r P → ((x : T) → P x → Q x) → IfOk r Q
if_ok (Ok x) P Q h f = f x h
if_ok (Err e) P Q h f = tt
