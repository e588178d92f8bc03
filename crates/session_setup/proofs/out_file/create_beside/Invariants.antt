use Rattle.std.specs.Prelude.{string_bytes}
use Rattle.session_setup.specs.Disk.{Tried}
use Rattle.session_setup.proofs.out_file.create_beside.Given as goal

abbrev pub invariant-loop-number : goal.invariant-loop-number
invariant-loop-number g l = Tried g.D.Disk.acts (string_bytes l.target.path) l.fn.disk l.number l.disk
