use Rattle.std.proofs.Common.{refl}
use Rattle.session_commands.proofs.Coming.{side-came}
use Rattle.session_commands.specs.declared.bridging.Peer.TheVariants.{Engine, Server}
use Rattle.session_commands.proofs.bridging.SidesEnds.receive.Goals as goal

pub returns-in-Engine-clause-came : goal.returns-in-Engine-clause-came
returns-in-Engine-clause-came g c =
    let h = c.read_line.ensures in
    rw c.in-Engine.is (side-came c.args.self.now.engine.lines _ Engine c.read_line.result h.line h.short h.end h.failed h.long h.over refl refl)

pub returns-in-Server-clause-came : goal.returns-in-Server-clause-came
returns-in-Server-clause-came g c =
    let h = c.read_line-in-Server.ensures in
    rw c.in-Server.is (side-came c.args.self.now.server.lines _ Server c.read_line-in-Server.result h.line h.short h.end h.failed h.long h.over refl refl)
