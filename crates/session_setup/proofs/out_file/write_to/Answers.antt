use Rattle.std.proofs.Common.{inl, inr, refl}
use Rattle.session_setup.proofs.Replacing.{at_err}
use Rattle.session_setup.proofs.out_file.write_to.Goals as goal

pub returns-in_err-file-clause-unwritten : goal.returns-in_err-file-clause-unwritten
returns-in_err-file-clause-unwritten g c = at_err _ c.from_residual.result (inl c.in_err-file.ensures.act)

pub returns-in_err-write-clause-unwritten : goal.returns-in_err-write-clause-unwritten
returns-in_err-write-clause-unwritten g c =
    at_err _ c.from_residual-in_err-write.result (inr (c.open.new.self, c.in_ok-file.ensures.act, inl c.in_err-write.ensures.act))

pub returns-clause-written : goal.returns-clause-written
returns-clause-written g c = (c.open.new.self, c.in_ok-file.ensures.act, (c.write.new.self, c.in_ok-write.ensures.act, refl))
