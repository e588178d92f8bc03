use Rattle.std.proofs.Common.{refl}
use Rattle.session_commands.specs.Launching.{both, engine_alone}
use Rattle.session_commands.proofs.launcher.LocalLauncher.stop.Goals as goal

pub returns-in-Some : goal.returns-in-Some
returns-in-Some g c = record { stopped = (rw c.in-Some.is (both _ _ c.end.ensures.ended c.end-in-Some.ensures.ended), refl) }

pub returns : goal.returns
returns g c = record { stopped = (rw c.in_default.is (engine_alone c.end.ensures.ended), refl) }
